-- Refusals: what a check finds, and that the first fault wins.
use Rattle.std.specs.Prelude.{ℕ, zero, suc, Bool, true, false, cond, ◌≡◌, ◌↔◌}
use Rattle.buffer.specs.declared.Verdict.{Verdict}
use Rattle.buffer.specs.declared.Outcome.{Outcome}

-- the earlier fault is the answer; the later verdict counts where there is none [O1, O5]
abbrev pub and_then : Verdict → Verdict → Verdict
and_then Verdict.Accepted later = later
and_then (Verdict.Refused number place) later = Verdict.Refused number place

-- this number at this place where the test holds, nothing refused where it does not [A2]
abbrev pub refuse_if : Bool → ℕ → ℕ → Verdict
refuse_if test number place = cond test (Verdict.Refused number place) Verdict.Accepted

-- a fault known by its number alone, at its place; 0 is no fault [A2, A5]
abbrev pub refuse_fault : ℕ → ℕ → Verdict
refuse_fault zero place = Verdict.Accepted
refuse_fault (suc n) place = Verdict.Refused (suc n) place

-- a fault's number alone: 0 where the test holds, this number where it does not [A5]
abbrev pub fault_unless : Bool → ℕ → ℕ
fault_unless test number = cond test 0 number

-- whether nothing is refused (*accepted* is the buyer's term) [G2]
abbrev pub is_accepted : Verdict → Bool
is_accepted Verdict.Accepted = true
is_accepted (Verdict.Refused number place) = false

-- the refusal number for each case of a verdict; 0 is none [A5]
abbrev pub verdict_number : Verdict → ℕ
verdict_number Verdict.Accepted = 0
verdict_number (Verdict.Refused number place) = number

-- the place for each case of a verdict; 0 where nothing is refused [A5, A6]
abbrev pub verdict_place : Verdict → ℕ
verdict_place Verdict.Accepted = 0
verdict_place (Verdict.Refused number place) = place

-- the refusal number for each case of a writer's answer; 0 is none [A5]
abbrev pub outcome_number : Outcome → ℕ
outcome_number (Outcome.Done n) = 0
outcome_number (Outcome.Refused number place) = number

-- the number beside it: a refusal's place, behind a success the length written [A5, A6]
abbrev pub outcome_place : Outcome → ℕ
outcome_place (Outcome.Done n) = n
outcome_place (Outcome.Refused number place) = place

-- an answered verdict in numbers: those of the one that is due, and 0 exactly where nothing is refused [A5, A6]
pub record VerdictNumbered (due r : Verdict) : Type 0 where
  pub number : verdict_number r ≡ verdict_number due
  pub place : verdict_place r ≡ verdict_place due
  pub none : (verdict_number r ≡ 0) ↔ (due ≡ Verdict.Accepted)
