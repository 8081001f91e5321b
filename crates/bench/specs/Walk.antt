-- What the functions behind the call owe each other: the walk over the samples of a run that looks at one, and the
-- answer over any machine.
use Rattle.std.specs.Prelude.{ℕ, ◌≤◌, ◌<◌, ◌≡◌, Bool, false, List, Some, length}
use Rattle.std.proofs.lemmas.List.Edits.{sets}
use Rattle.programme.specs.Machine.{Machine}
use Rattle.programme.specs.Table.{plain}
use Rattle.bench.specs.declared.Run.{Run}
use Rattle.bench.specs.declared.Underway.{Underway}
use Rattle.bench.specs.declared.Walked.{Walked}
use Rattle.bench.specs.declared.Benched.{Benched}
use Rattle.bench.specs.Run.{number_of, handed_on, taken}
use Rattle.bench.specs.Call.{most_samples, delivered, answered, left_by}

-- the walk may begin: samples within the limit, and a run that 24 leaves [F20, F24]
pub record Starts (table samples : List ℕ) (from : Underway) : Type 0 where
  pub few : length samples ≤ most_samples
  pub state_fits : from.state < 16
  pub count_fits : from.count < number_of ((plain table).word from.state)

-- a run that has not ended and has an earlier word [R1, R3]
abbrev pub run_from : (state count earlier : ℕ) → Run
run_from state count earlier = record { state = state; count = count; earlier = Some earlier; ended = false }

-- a run that was under way when it ended, or that is under way [R1, R3]
abbrev pub run_at : Underway → (ended : Bool) → Run
run_at u ended = record { state = u.state; count = u.count; earlier = Some u.earlier; ended = ended }

-- a walk counted what capture takes, and stored it one after the other from the start of the lent words on [R6, R10]
pub record Walks (m : Machine) (samples : List ℕ) (run : Run) (out : List ℕ) (w : Walked) (out' : List ℕ) : Type 0 where
  pub counted : w.taken ≡ length (taken m run samples)
  pub handed : w.run ≡ handed_on m run samples
  pub left : out' ≡ sets out 0 (taken m run samples)

-- what is left to answer of a run that may be handed in [R10, F12]
pub record Delivers (m : Machine) (samples : List ℕ) (run : Run) (out : List ℕ) (r : Benched) (out' : List ℕ) : Type 0 where
  pub answer : r ≡ delivered m samples run (length out)
  pub left : out' ≡ left_by r (taken m run samples) out

-- the whole answer, over any machine [R10, O8]
pub record Answers (m : Machine) (samples : List ℕ) (run : Run) (out : List ℕ) (r : Benched) (out' : List ℕ) : Type 0 where
  pub answer : r ≡ answered m samples run (length out)
  pub left : out' ≡ left_by r (taken m run samples) out
