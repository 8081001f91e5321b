-- The call's answer in numbers. Assumes nothing.
use Prim.Native.Nat.{ℕ}
use mathlib.Core.Path.{◌≡◌, refl, ap, ◌∙◌}
use mathlib.Core.Bool.{Bool, true, false, cond}
use mathlib.Core.List.{List}
use lib.Dec.{ltb}
use lib.ListN.{length}
use Rattle.buffer.specs.Verdict.{verdict_number, verdict_place, outcome_number, outcome_place}
use Rattle.buffer.specs.declared.Outcome.{Outcome}
use Rattle.buffer.specs.declared.Verdict.{Verdict}
use Rattle.sheet.specs.Reading.{verdict}
use Rattle.bench.specs.declared.Run.{Run}
use Rattle.bench.specs.declared.Benched.{Benched}
use Rattle.bench.specs.declared.Benched.TheVariants.{Done, Refused}
use Rattle.bench.specs.Run.{handed_on, taken, start_accepted}
use Rattle.bench.specs.Call.{most_samples, delivered, answered, unless, machine_of, benched, benched_number, benched_place, first_judged, BenchNumbered}
use Rattle.bench.specs.Handed.{outcome_of}
use Rattle.bench.proofs.Calling.{in_turn, in_room}

-- the numbers of an answer, by what was judged
answer_numbers : (v : Verdict) (many starts short : Bool) (words : List ℕ) (q : Run)
    → let b = unless v (in_turn many starts (in_room short words q)) in
    (benched_number b ≡ first_judged v many starts (verdict_number v) 20 24 (cond short 12 0))
    × (benched_place b ≡ first_judged v many starts (verdict_place v) most_samples 0 (length words))
answer_numbers (Verdict.Refused number place) many starts short words q = (refl, refl)
answer_numbers Verdict.Accepted true starts short words q = (refl, refl)
answer_numbers Verdict.Accepted false false short words q = (refl, refl)
answer_numbers Verdict.Accepted false true true words q = (refl, refl)
answer_numbers Verdict.Accepted false true false words q = (refl, refl)

module _ (s xs : List ℕ) (r : Run) (room : ℕ) where
  -- an answer that is the call's has the numbers
  pub numbered : (b : Benched) → b ≡ benched s xs r room → BenchNumbered s xs r room (benched_number b) (benched_place b)
  unfolding benched answered delivered
  numbered b e =
      let m = machine_of s in
      let due =
      answer_numbers (verdict s) (ltb most_samples (length xs)) (start_accepted m r) (ltb room (length (taken m r xs))) (taken m r xs) (handed_on m r xs) in
      record { number_due = ap benched_number e ∙ due.0; place_due = ap benched_place e ∙ due.1 }

  -- and so has it without its run
  pub outcome_numbered : (o : Outcome) → o ≡ outcome_of (benched s xs r room) → BenchNumbered s xs r room (outcome_number o) (outcome_place o)
  outcome_numbered o e =
      let due = numbered (benched s xs r room) refl in
      let same = without_run (benched s xs r room) in
      record {
        number_due = ap outcome_number e ∙ same.0 ∙ due.number_due;
        place_due = ap outcome_place e ∙ same.1 ∙ due.place_due;
      }
    where
      without_run : (b : Benched) → (outcome_number (outcome_of b) ≡ benched_number b) × (outcome_place (outcome_of b) ≡ benched_place b)
      without_run (Done n q) = (refl, refl)
      without_run (Refused number place) = (refl, refl)
