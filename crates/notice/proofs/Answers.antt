-- The numbers of the call's answer. Assumes nothing.
use Prim.Native.Nat.{ℕ}
use mathlib.Core.Path.{◌≡◌, refl, ap, ◌∙◌}
use mathlib.Core.Bool.{Bool, true, false, cond}
use mathlib.Core.List.{List}
use lib.Dec.{leb}
use lib.ListN.{length}
use Rattle.buffer.specs.Verdict.{verdict_number, verdict_place}
use Rattle.buffer.specs.declared.Verdict.{Verdict}
use Rattle.buffer.specs.declared.Verdict.TheVariants.{Accepted, Refused}
use Rattle.sheet.specs.Reading.{verdict}
use Rattle.notice.specs.declared.Noticed.{Noticed}
use Rattle.notice.specs.declared.Noticed.TheVariants.{Done, Short}
use Rattle.notice.specs.Notice.{notice_text, answer_of, noticed_number, noticed_which, noticed_place, first_refused, NoticeGiven, NoticeNumbered}

-- the numbers of an answer, by the two verdicts
answer_numbers : (v w : Verdict) (text : List ℕ) (room : ℕ)
    → (noticed_number (answer_of v w text room) ≡ first_refused v w (verdict_number v) (verdict_number w) (cond (leb (length text) room) 0 12))
    × (noticed_which (answer_of v w text room) ≡ first_refused v w 1 2 0)
    × (noticed_place (answer_of v w text room) ≡ first_refused v w (verdict_place v) (verdict_place w) (length text))
answer_numbers (Refused number place) w text room = (refl, refl, refl)
answer_numbers Accepted (Refused number place) text room = (refl, refl, refl)
answer_numbers Accepted Accepted text room = by_room (leb (length text) room)
  where
    answer : Bool → Noticed
    answer fits = cond fits (Done (length text)) (Short (length text))

    by_room : (fits : Bool) → (noticed_number (answer fits) ≡ cond fits 0 12) × (noticed_which (answer fits) ≡ 0) × (noticed_place (answer fits) ≡ length text)
    by_room true = (refl, refl, refl)
    by_room false = (refl, refl, refl)

module _ (old new out : List ℕ) where
  -- what was given has the numbers
  pub given_numbered : (r : Noticed) (out' : List ℕ) → NoticeGiven old new out r out'
      → NoticeGiven old new out r out' × NoticeNumbered old new (length out) r
  given_numbered r out' g =
      let (number, which, place) = answer_numbers (verdict old) (verdict new) (notice_text old new) (length out) in (
        g,
        record {
          number = ap noticed_number g.answer ∙ number;
          which = ap noticed_which g.answer ∙ which;
          place = ap noticed_place g.answer ∙ place;
        },
      )
