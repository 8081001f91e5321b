-- The numbers of the call's answer. Assumes nothing.
use Prim.Native.Nat.{ℕ}
use mathlib.Core.Path.{◌≡◌, refl, ap, ◌∙◌}
use mathlib.Core.Bool.{Bool, true, false, cond, ◌&&◌}
use mathlib.Core.List.{List}
use lib.Dec.{leb}
use lib.ListN.{length}
use Rattle.buffer.specs.Verdict.{verdict_number, verdict_place}
use Rattle.buffer.specs.declared.Verdict.{Verdict}
use Rattle.buffer.specs.declared.Verdict.TheVariants.{Accepted, Refused}
use Rattle.sheet.specs.Reading.{verdict}
use Rattle.notice.specs.Notice.{first_refused}
use Rattle.page.specs.declared.Paged.{Paged}
use Rattle.page.specs.declared.Paged.TheVariants.{Done, Short, TooLong}
use Rattle.page.specs.Files.{File}
use Rattle.page.specs.Page.{page_text, is_shown, answer_of, PageGiven, paged_number, paged_which, paged_place, PageNumbered}

answer_numbers : (v w : Verdict) (text : List ℕ) (room : ℕ)
    → (paged_number (answer_of v w text room) ≡ first_refused v w (verdict_number v) (verdict_number w) (cond (leb (length text) room) 0 12))
    × (paged_which (answer_of v w text room) ≡ first_refused v w 1 2 0)
    × (paged_place (answer_of v w text room) ≡ first_refused v w (verdict_place v) (verdict_place w) (length text))
answer_numbers (Refused number place) w text room = (refl, refl, refl)
answer_numbers Accepted (Refused number place) text room = (refl, refl, refl)
answer_numbers Accepted Accepted text room = by_room (leb (length text) room)
  where
    answer : Bool → Paged
    answer fits = cond fits (Done (length text)) (Short (length text))

    by_room : (fits : Bool)
        → (paged_number (answer fits) ≡ cond fits 0 12) × (paged_which (answer fits) ≡ 0) × (paged_place (answer fits) ≡ length text)
    by_room true = (refl, refl, refl)
    by_room false = (refl, refl, refl)

shown_numbers : (shown : Bool) (a : Paged) (number which place : ℕ)
    → (paged_number a ≡ number) × (paged_which a ≡ which) × (paged_place a ≡ place)
    → (paged_number (cond shown a TooLong) ≡ cond shown number 0)
    × (paged_which (cond shown a TooLong) ≡ cond shown which 0)
    × (paged_place (cond shown a TooLong) ≡ cond shown place 0)
shown_numbers true a number which place e = e
shown_numbers false a number which place e = (refl, refl, refl)

-- what was given has the numbers
pub given_numbered : (one two : File) (out : List ℕ) (r : Paged) (out' : List ℕ) → PageGiven one two out r out'
    → PageGiven one two out r out' × PageNumbered one two (length out) r
given_numbered one two out r out' g =
    let numbers = answer_numbers (verdict one.bytes) (verdict two.bytes) (page_text one two) (length out) in
    let (number, which, place) = shown_numbers (is_shown one && is_shown two) _ _ _ _ numbers in (
      g,
      record {
        number = ap paged_number g.answer ∙ number;
        which = ap paged_which g.answer ∙ which;
        place = ap paged_place g.answer ∙ place;
      },
    )
