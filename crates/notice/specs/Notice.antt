-- The notice of two sheets, its greatest length, and what the call answers and leaves.
use Rattle.std.specs.Prelude.{ℕ, zero, suc, ◌+◌, ◌*◌, ◌≡◌, cond, List, [], ◌∷◌, leb, length, get_or}
use Rattle.buffer.specs.Room.{fill}
use Rattle.buffer.specs.Verdict.{is_accepted, verdict_number, verdict_place}
use Rattle.buffer.specs.declared.Verdict.{Verdict}
use Rattle.buffer.specs.declared.Verdict.TheVariants.{Accepted, Refused}
use Rattle.records.specs.Sections.{sections, most_of}
use Rattle.sheet.specs.Reading.{verdict}
use Rattle.findings.specs.Findings.{notice_lines}
use Rattle.notice.specs.declared.Noticed.{Noticed}
use Rattle.notice.specs.declared.Noticed.TheVariants.{Done, Old, New, Short}
use Rattle.notice.specs.Text.{render_all}

-- its bytes; those of one example are given whole (demands, NoticeExamples) [N1, E11]
unfoldable pub notice_text : (old new : List ℕ) → List ℕ
notice_text old new = render_all (notice_lines old new)

-- the most bytes of a line on a changed description of section k: with a sample, with two, with sources, with nothing
-- [N4, N6, N8]
abbrev pub change_most : (k : ℕ) → ℕ
change_most k = get_or (22 ∷ 22 ∷ 31 ∷ 18 ∷ []) k 13

-- the most bytes of the lines on a slot of section k: a line NAME before that one [N5, N7]
unfoldable pub slot_most : (k : ℕ) → ℕ
slot_most k = 13 + change_most k

-- the most bytes of the lines of n sections from section k on [N11]
unfoldable pub most_text : (n k : ℕ) → ℕ
most_text zero k = 0
most_text (suc n) k = most_of k * slot_most k + most_text n (k + 1)

-- the most bytes of a notice; theorem at_most, and the number in demands/proofs/Sizes [N11]
abbrev pub longest_notice : ℕ
longest_notice = most_text sections 0

-- the old sheet's refusal, else the new sheet's, else whether there is room: 12 is of neither [O4, O7, A3, A4, F12]
abbrev pub answer_of : (old new : Verdict) (text : List ℕ) (room : ℕ) → Noticed
answer_of (Refused number place) new text room = Old number place
answer_of Accepted (Refused number place) text room = New number place
answer_of Accepted Accepted text room = cond (leb (length text) room) (Done (length text)) (Short (length text))

-- such a refusal of a sheet: the old one's, or the new one's where the old one is accepted [O4, A4]
abbrev pub IsRefusal : (old new : Verdict) → Noticed → Type 0
IsRefusal old new (Done length) = ⊥
IsRefusal old new (Old number place) = old ≡ Refused number place
IsRefusal old new (New number place) = (old ≡ Accepted) × (new ≡ Refused number place)
IsRefusal old new (Short needed) = ⊥

-- the room afterwards: the text at its start after a success, as it was after every refusal [A1, A2]
abbrev pub left_by : Noticed → (text out : List ℕ) → List ℕ
left_by (Done length) text out = fill text out
left_by (Old number place) text out = out
left_by (New number place) text out = out
left_by (Short needed) text out = out

-- what the call answered and left in the room that it was lent [A1, A2, A4, G14]
pub record NoticeGiven (old new out : List ℕ) (r : Noticed) (out' : List ℕ) : Type 0 where
  pub answer : r ≡ answer_of (verdict old) (verdict new) (notice_text old new) (length out)
  pub left : out' ≡ left_by r (notice_text old new) out

-- the refusal number for each answer; 0 is none [A5]
abbrev pub noticed_number : Noticed → ℕ
noticed_number (Done length) = 0
noticed_number (Old number place) = number
noticed_number (New number place) = number
noticed_number (Short needed) = 12

-- which sheet a refusal is of: 0 neither, 1 old, 2 new [A4, A6]
abbrev pub noticed_which : Noticed → ℕ
noticed_which (Done length) = 0
noticed_which (Old number place) = 1
noticed_which (New number place) = 2
noticed_which (Short needed) = 0

-- the number beside it: a refusal's place, behind a success the length written [A5, A6]
abbrev pub noticed_place : Noticed → ℕ
noticed_place (Done length) = length
noticed_place (Old number place) = place
noticed_place (New number place) = place
noticed_place (Short needed) = needed

-- of three numbers the old sheet's if it is refused, else the new one's if that is, else the third [O4, A4]
abbrev pub first_refused : (old new : Verdict) (of_old of_new of_neither : ℕ) → ℕ
first_refused old new of_old of_new of_neither = cond (is_accepted old) (cond (is_accepted new) of_neither of_new) of_old

-- the answer in numbers: the refusal's, of sheet 1 or 2, else 12 and the bytes needed, else 0 and the length written
-- [A4, A5, A6, O4, O7, F12]
pub record NoticeNumbered (old new : List ℕ) (room : ℕ) (r : Noticed) : Type 0 where
  pub number : noticed_number r
      ≡ first_refused (verdict old) (verdict new) (verdict_number (verdict old)) (verdict_number (verdict new))
      (cond (leb (length (notice_text old new)) room) 0 12)
  pub which : noticed_which r ≡ first_refused (verdict old) (verdict new) 1 2 0
  pub place : noticed_place r
      ≡ first_refused (verdict old) (verdict new) (verdict_place (verdict old)) (verdict_place (verdict new)) (length (notice_text old new))
