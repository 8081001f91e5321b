-- What the call answers, and what it leaves in the lent words.
use Rattle.std.specs.Prelude.{ℕ, Bool, cond, not, List, ◌≡◌, ltb, length}
use Rattle.buffer.specs.Room.{fill}
use Rattle.buffer.specs.Verdict.{is_accepted, verdict_number, verdict_place}
use Rattle.buffer.specs.declared.Verdict.{Verdict}
use Rattle.sheet.specs.Reading.{verdict}
use Rattle.programme.specs.Programme.{programme_of}
use Rattle.programme.specs.Machine.{Machine, through_words}
use Rattle.bench.specs.declared.Run.{Run}
use Rattle.bench.specs.declared.Benched.{Benched}
use Rattle.bench.specs.declared.Benched.TheVariants.{Done, Refused}
use Rattle.bench.specs.Run.{handed_on, taken, start_accepted}

-- the most samples of a call [F20]
abbrev pub most_samples : ℕ
most_samples = 4096

-- 12 and the words needed where the room is too short for all that is taken; otherwise how many were taken, and the
-- run that is handed on [R10, F12]
unfoldable pub delivered : Machine → (samples : List ℕ) → Run → (room : ℕ) → Benched
delivered m xs r room =
    cond (ltb room (length (taken m r xs))) (Refused 12 (length (taken m r xs)))
    (Done (length (taken m r xs)) (handed_on m r xs))

-- what is answered of any machine: 20 for too many samples, then 24 for the run handed in, then 12 [F20, F24, O8]
unfoldable pub answered : Machine → (samples : List ℕ) → Run → (room : ℕ) → Benched
answered m xs r room =
    cond (ltb most_samples (length xs)) (Refused 20 most_samples)
    (cond (not (start_accepted m r)) (Refused 24 0)
    (delivered m xs r room))

-- a sheet's refusal, which comes before all else, or the answer [O8]
abbrev pub unless : Verdict → Benched → Benched
unless Verdict.Accepted b = b
unless (Verdict.Refused number place) b = Refused number place

-- the machine of a sheet: its programme run through the chain words that the compiler writes [R2]
abbrev pub machine_of : (sheet : List ℕ) → Machine
machine_of s = through_words (programme_of s)

-- THE ANSWER of the call [R10, O8]
unfoldable pub benched : (sheet samples : List ℕ) → Run → (room : ℕ) → Benched
benched s xs r room = unless (verdict s) (answered (machine_of s) xs r room)

-- the lent words afterwards: these at their start after a success, as they were after every refusal [R10, A1, A2]
abbrev pub left_by : Benched → (words out : List ℕ) → List ℕ
left_by (Done n r) words out = fill words out
left_by (Refused number place) words out = out

-- THE LENT WORDS that the call leaves [R10]
unfoldable pub benched_left : (sheet samples : List ℕ) → Run → (out : List ℕ) → List ℕ
benched_left s xs r out = left_by (benched s xs r (length out)) (taken (machine_of s) r xs) out

-- the refusal number for each answer; 0 is none [A5]
abbrev pub benched_number : Benched → ℕ
benched_number (Done n r) = 0
benched_number (Refused number place) = number

-- the number beside it: a refusal's place, behind a success how many words were written [A5, A6]
abbrev pub benched_place : Benched → ℕ
benched_place (Done n r) = n
benched_place (Refused number place) = place

-- of four numbers the sheet's if it is refused, else the samples' if they are too many, else the run's if it may not be
-- handed in, else the room's [O8]
abbrev pub first_judged : Verdict → (many starts : Bool) (of_sheet of_samples of_run of_room : ℕ) → ℕ
first_judged sheet many starts of_sheet of_samples of_run of_room =
    cond (is_accepted sheet) (cond many of_samples (cond starts of_room of_run)) of_sheet

-- the answer in numbers: the sheet's refusal, else 20 and the most, else 24 and 0, else 12 and the words needed, else 0
-- and how many were written [A5, A6, O8, F12, F20, F24]
pub record BenchNumbered (s xs : List ℕ) (r : Run) (room number place : ℕ) : Type 0 where
  pub number_due : number
      ≡ first_judged (verdict s) (ltb most_samples (length xs)) (start_accepted (machine_of s) r) (verdict_number (verdict s)) 20 24
      (cond (ltb room (length (taken (machine_of s) r xs))) 12 0)
  pub place_due : place
      ≡ first_judged (verdict s) (ltb most_samples (length xs)) (start_accepted (machine_of s) r) (verdict_place (verdict s)) most_samples 0
      (length (taken (machine_of s) r xs))
