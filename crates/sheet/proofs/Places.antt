-- The place of a refusal is an offset of the sheet, or its length where something is missing. Assumes nothing.
use Prim.Native.Nat.{ℕ, zero, suc, ◌+◌, ◌≤◌, ◌<◌}
use mathlib.Core.List.{List, [], ◌∷◌}
use mathlib.Core.Path.{◌≡◌, refl}
use mathlib.Core.Bool.{Bool, true, false}
use native.Mathlib.Omega.{arith}
use borrow.Author.Tests.{ltb-false}
use lib.Dec.{ltb}
use lib.ListN.{length, get_or, drop, length-take, length-drop}
use Rattle.buffer.specs.Verdict.{and_then, refuse_if, refuse_fault}
use Rattle.buffer.specs.declared.Verdict.{Verdict}
use Rattle.buffer.specs.declared.Verdict.TheVariants.{Accepted, Refused}
use Rattle.buffer.proofs.Faults.{and_then_accepted, refuse_if_accepted}
use Rattle.records.specs.Sections.{sections, most_of, record_size, section_size}
use Rattle.sheet.specs.Reading.{record_fault, next_record, records_verdict, count_verdict, section_verdict, sections_verdict, verdict}
use Rattle.sheet.proofs.Reading.{next_faultless, section_whole}

-- a verdict refuses at no place past `end`
abbrev Before : ℕ → Verdict → Type 0
Before end v = (number place : ℕ) → v ≡ Refused number place → place ≤ end

before_accepted : (end : ℕ) → Before end Accepted
before_accepted end number place e = let z : ◌≡◌ {A = ℕ} 0 1 = cc in absurd (omega arith)

before_refused : (end number at : ℕ) → at ≤ end → Before end (Refused number at)
before_refused end number at h n place e = let q : at ≡ place = cc in omega arith

before_if : (end : ℕ) (b : Bool) (number at : ℕ) → at ≤ end → Before end (refuse_if b number at)
before_if end true number at h = before_refused end number at h
before_if end false number at h = before_accepted end

before_then : (end : ℕ) (v w : Verdict) → Before end v → (v ≡ Accepted → Before end w) → Before end (and_then v w)
before_then end Accepted w f g = g refl
before_then end (Refused number place) w f g = f

before_fault : (end fault at : ℕ) (w : Verdict) → at ≤ end → (fault ≡ 0 → Before end w) → Before end (and_then (refuse_fault fault at) w)
before_fault end zero at w h g = g refl
before_fault end (suc n) at w h g = before_refused end (suc n) at h

records_place : (end k n : ℕ) (before : List (List ℕ)) (at : ℕ) (rest : List ℕ) → at + length rest ≡ end → Before end (records_verdict k n before at rest)
unfolding records_verdict
records_place end k zero before at rest l = before_accepted end
records_place end k (suc n) before at rest l =
    before_fault end (record_fault k before (next_record k rest)) at _ (omega arith)
    (λ ok. records_place end k n (next_record k rest ∷ before) (at + record_size k) (drop (record_size k) rest)
    (omega (arith, (next_faultless k before rest ok).0.whole, length-take (record_size k) rest, length-drop (record_size k) rest)))

count_there : (k at : ℕ) (rest : List ℕ) → count_verdict k at rest ≡ Accepted → 0 < length rest
unfolding count_verdict
count_there k at rest e =
    ltb-false (length rest) 1 (refuse_if_accepted _ 1 at (and_then_accepted (refuse_if (ltb (length rest) 1) 1 at) _ e).0)

section_place : (end k at : ℕ) (rest : List ℕ) → at + length rest ≡ end → Before end (section_verdict k at rest)
unfolding section_verdict count_verdict
section_place end k at rest l =
    let h : at ≤ end = omega arith in
    before_then end (count_verdict k at rest) _
    (before_then end (refuse_if (ltb (length rest) 1) 1 at) _ (before_if end (ltb (length rest) 1) 1 at h)
    (λ e. before_if end (ltb (most_of k) (get_or rest 0 0)) 2 at h))
    (λ e. records_place end k (get_or rest 0 0) [] (at + 1) (drop 1 rest) (omega (arith, count_there k at rest e, length-drop 1 rest)))

sections_place : (end n k at : ℕ) (rest : List ℕ) → at + length rest ≡ end → Before end (sections_verdict n k at rest)
unfolding sections_verdict
sections_place end zero k at rest l = before_if end (ltb 0 (length rest)) 11 at (omega arith)
sections_place end (suc n) k at rest l =
    let size = section_size k (get_or rest 0 0) in
    before_then end (section_verdict k at rest) _ (section_place end k at rest l)
    (λ ok. sections_place end n (k + 1) (at + size) (drop size rest) (omega (arith, section_whole k at rest ok, length-drop size rest)))

pub place_within : (s : List ℕ) (number place : ℕ) → verdict s ≡ Refused number place → place ≤ length s
unfolding verdict
place_within s number place e = sections_place (length s) sections 0 0 s (omega arith) number place e
