-- Laws of verdicts: the first fault wins, and an accepted input has passed every test. Assumes nothing.
use Prim.Native.Nat.{ℕ, zero, suc}
use mathlib.Core.Path.{◌≡◌, refl}
use mathlib.Core.Bool.{Bool, true, false}
use mathlib.Core.List.{List}
use native.Mathlib.Omega.{arith}
use Rattle.buffer.specs.Verdict.{and_then, refuse_if, refuse_fault, fault_unless}
use Rattle.buffer.specs.Room.{bytes, unless}
use Rattle.buffer.specs.declared.Verdict.{Verdict}
use Rattle.buffer.specs.declared.Verdict.TheVariants.{Accepted, Refused}

-- ---- how a check that found no fault is taken apart

pub no_refusal_law : (number place : ℕ) → Refused number place ≡ Accepted → ⊥
no_refusal_law number place e = let z : ◌≡◌ {A = ℕ} 0 1 = cc in omega arith

pub and_then_accepted : (v w : Verdict) → and_then v w ≡ Accepted → (v ≡ Accepted) × (w ≡ Accepted)
and_then_accepted Accepted w e = (refl, e)
and_then_accepted (Refused number place) w e = absurd (no_refusal_law number place e)

pub refuse_if_accepted : (b : Bool) (number place : ℕ) → refuse_if b number place ≡ Accepted → b ≡ false
refuse_if_accepted true number place e = absurd (no_refusal_law number place e)
refuse_if_accepted false number place e = refl

pub refuse_fault_accepted : (number place : ℕ) → refuse_fault number place ≡ Accepted → number ≡ 0
refuse_fault_accepted zero place e = refl
refuse_fault_accepted (suc n) place e = absurd (no_refusal_law (suc n) place e)

pub unless_none : (b : Bool) (n : ℕ) → (n ≡ 0 → ⊥) → fault_unless b n ≡ 0 → b ≡ true
unless_none true n nz e = refl
unless_none false n nz e = absurd (nz e)

-- an answer of bytes is that of an accepted input
pub unless_bytes : (v : Verdict) (bs s : List ℕ) → unless v bs ≡ bytes s → (v ≡ Accepted) × (bs ≡ s)
unless_bytes Accepted bs s e = (refl, cc)
unless_bytes (Refused number place) bs s e = let z : ◌≡◌ {A = ℕ} 0 1 = cc in absurd (omega arith)

-- ---- a run of checks: what is decided so far is `and_then a b`, and a is the next check's verdict

pub and_then_stop : (a b v : Verdict) (number place : ℕ) → and_then a b ≡ v → a ≡ Refused number place → Refused number place ≡ v
and_then_stop a b v number place e f = rw f at e

pub and_then_go : (a b v : Verdict) → and_then a b ≡ v → a ≡ Accepted → b ≡ v
and_then_go a b v e f = rw f at e

pub and_then_both : (a b : Verdict) → a ≡ Accepted → b ≡ Accepted → and_then a b ≡ Accepted
and_then_both a b e f = rw (e, f)

pub and_then_assoc : (a b c : Verdict) → and_then (and_then a b) c ≡ and_then a (and_then b c)
and_then_assoc Accepted b c = refl
and_then_assoc (Refused number place) b c = refl

-- what comes after a check counts only where that check accepts
pub and_then_same : (a b c : Verdict) → (a ≡ Accepted → b ≡ c) → and_then a b ≡ and_then a c
and_then_same Accepted b c h = h refl
and_then_same (Refused number place) b c h = refl
