-- A refusal of a sheet has a number that is not 0, so that 0 stands for an accepted sheet. Assumes nothing.
use Prim.Native.Nat.{ℕ, zero, suc, ◌+◌, ◌<◌}
use mathlib.Core.Bool.{Bool, true, false}
use mathlib.Core.List.{List, [], ◌∷◌}
use mathlib.Core.Path.{◌≡◌, refl, sym, ap, ◌∙◌}
use native.Mathlib.Omega.{arith}
use lib.Dec.{lit<, ltb}
use lib.ListN.{length, get_or, drop}
use Rattle.buffer.specs.Verdict.{and_then, refuse_if, refuse_fault, verdict_number, verdict_place, VerdictNumbered}
use Rattle.buffer.specs.declared.Verdict.{Verdict}
use Rattle.buffer.specs.declared.Verdict.TheVariants.{Accepted, Refused}
use Rattle.records.specs.Sections.{sections, most_of, record_size, section_size}
use Rattle.sheet.specs.Reading.{record_fault, next_record, records_verdict, count_verdict, section_verdict, sections_verdict, verdict}

abbrev Numbered : Verdict → Type 0
Numbered Accepted = Unit
Numbered (Refused number place) = 0 < number

then_numbered : (v w : Verdict) → Numbered v → Numbered w → Numbered (and_then v w)
then_numbered Accepted w p q = q
then_numbered (Refused number place) w p q = p

if_numbered : (b : Bool) (number place : ℕ) → 0 < number → Numbered (refuse_if b number place)
if_numbered true number place h = h
if_numbered false number place h = tt

fault_numbered : (n place : ℕ) → Numbered (refuse_fault n place)
fault_numbered zero place = tt
fault_numbered (suc n) place = omega arith

records_numbered : (k n : ℕ) (before : List (List ℕ)) (at : ℕ) (rest : List ℕ) → Numbered (records_verdict k n before at rest)
unfolding records_verdict
records_numbered k zero before at rest = tt
records_numbered k (suc n) before at rest =
    let fault = record_fault k before (next_record k rest) in
    let later = records_verdict k n (next_record k rest ∷ before) (at + record_size k) (drop (record_size k) rest) in
    then_numbered (refuse_fault fault at) later (fault_numbered fault at)
    (records_numbered k n (next_record k rest ∷ before) (at + record_size k) (drop (record_size k) rest))

section_numbered : (k at : ℕ) (rest : List ℕ) → Numbered (section_verdict k at rest)
unfolding section_verdict count_verdict
section_numbered k at rest =
    let missing = ltb (length rest) 1 in
    let many = ltb (most_of k) (get_or rest 0 0) in
    then_numbered (count_verdict k at rest) (records_verdict k (get_or rest 0 0) [] (at + 1) (drop 1 rest))
    (then_numbered (refuse_if missing 1 at) (refuse_if many 2 at) (if_numbered missing 1 at (lit< tt)) (if_numbered many 2 at (lit< tt)))
    (records_numbered k (get_or rest 0 0) [] (at + 1) (drop 1 rest))

sections_numbered : (n k at : ℕ) (rest : List ℕ) → Numbered (sections_verdict n k at rest)
unfolding sections_verdict
sections_numbered zero k at rest = if_numbered (ltb 0 (length rest)) 11 at (lit< tt)
sections_numbered (suc n) k at rest =
    let next = sections_verdict n (k + 1) (at + section_size k (get_or rest 0 0)) (drop (section_size k (get_or rest 0 0)) rest) in
    then_numbered (section_verdict k at rest) next (section_numbered k at rest)
    (sections_numbered n (k + 1) (at + section_size k (get_or rest 0 0)) (drop (section_size k (get_or rest 0 0)) rest))

-- number 0 is no refusal, and any other is one
by_number : (v : Verdict) → Numbered v → verdict_number v ≡ 0 → v ≡ Accepted
by_number Accepted p e = refl
by_number (Refused number place) p e = absurd (omega arith)

pub accepted_numbered : (s : List ℕ) → verdict_number (verdict s) ≡ 0 → verdict s ≡ Accepted
unfolding verdict
accepted_numbered s e = by_number (verdict s) (sections_numbered sections 0 0 s) e

refusal_is : (v : Verdict) → (verdict_number v ≡ 0 → ⊥) → v ≡ Refused (verdict_number v) (verdict_place v)
refusal_is Accepted n = absurd (n refl)
refusal_is (Refused number place) n = refl

pub refused_numbered : (s : List ℕ) → (verdict_number (verdict s) ≡ 0 → ⊥) → verdict s ≡ Refused (verdict_number (verdict s)) (verdict_place (verdict s))
refused_numbered s = refusal_is (verdict s)

-- an answer that is the verdict has its numbers
pub check_numbered : (s : List ℕ) (r : Verdict) → r ≡ verdict s → VerdictNumbered (verdict s) r
check_numbered s r e =
    let number = ap verdict_number e in
    record {
      number = number;
      place = ap verdict_place e;
      none = (λ z. accepted_numbered s (sym number ∙ z), λ a. number ∙ ap verdict_number a);
    }

-- and it is the verdict
pub check_meets : (s : List ℕ) (r : Verdict) → r ≡ verdict s → (r ≡ verdict s) × VerdictNumbered (verdict s) r
check_meets s r e = (e, check_numbered s r e)
