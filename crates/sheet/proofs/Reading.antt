-- The steps of reading a sheet, as the loops of `check_records` and `check` take them, and where an accepted sheet's sections lie.
-- Assumes nothing.
use borrow.Author.Tests.{lt-ltb, le-ltb, ltb-false}
use native.Mathlib.Nat.{suc-mul, add-zero}
use native.Mathlib.Numerals.{add-one}
use native.Mathlib.Omega.{arith}
use Prim.Native.Nat.{ℕ, zero, suc, ◌+◌, ◌-◌, ◌*◌, ◌≤◌, ◌<◌}
use mathlib.Core.Bool.{Bool, true, false, cond, ◌&&◌}
use mathlib.Core.List.{List, [], ◌∷◌, map}
use mathlib.Core.Path.{◌≡◌, refl, sym, ap, ◌∙◌}
use lib.Dec.{ltb}
use lib.ListN.{length, get_or, take, drop, length-take, length-drop, drop_of_length-le}
use lib.Seq.{drop-drop, get_or-drop}
use Rattle.buffer.specs.Verdict.{and_then, refuse_if, refuse_fault, is_accepted}
use Rattle.buffer.specs.declared.Verdict.{Verdict}
use Rattle.buffer.specs.declared.Verdict.TheVariants.{Accepted, Refused}
use Rattle.buffer.proofs.Faults.{and_then_accepted, refuse_if_accepted, refuse_fault_accepted}
use Rattle.records.specs.Sections.{sections, most_of, record_size, section_size, label_of}
use Rattle.sheet.specs.Reading.{among, least_slot, record_fault, next_record, records_verdict, count_verdict, section_verdict, sections_verdict, verdict}
use Rattle.sheet.specs.Parts.{offset_of, count_of, section_unchecked, section_of, section_start}
use Rattle.sheet.specs.Parsed.{Faultless}
use Rattle.sheet.proofs.Faults.{faultless}

-- ---- verdicts

pub then_next : (v w : Verdict) → v ≡ Accepted → and_then v w ≡ w
then_next v w e = rw e

refuse_fault_law : (n at : ℕ) (w : Verdict) → (n ≡ 0 → ⊥) → and_then (refuse_fault n at) w ≡ Refused n at
refuse_fault_law zero at w h = absurd (h refl)
refuse_fault_law (suc n) at w h = refl

-- ---- records

-- the next record, where it has no fault
pub next_faultless : (k : ℕ) (before : List (List ℕ)) (rest : List ℕ) → record_fault k before (next_record k rest) ≡ 0
    → Faultless k (least_slot before) (next_record k rest) × (among (label_of (next_record k rest)) (map label_of before) ≡ false)
next_faultless k before rest e = faultless k before (next_record k rest) (omega (arith, length-take (record_size k) rest)) e

module _ (k : ℕ) (before : List (List ℕ)) (at : ℕ) (s : List ℕ) where
  pub records_end : records_verdict k 0 before at s ≡ Accepted
  unfolding records_verdict
  records_end = refl

  pub records_refuse : (left : ℕ) → 0 < left → (record_fault k before (next_record k (drop at s)) ≡ 0 → ⊥)
      → records_verdict k left before at (drop at s) ≡ Refused (record_fault k before (next_record k (drop at s))) at
  unfolding records_verdict
  records_refuse zero l h = absurd (omega arith)
  records_refuse (suc n) l h = refuse_fault_law (record_fault k before (next_record k (drop at s))) at _ h

  pub records_next : (left : ℕ) → 0 < left → record_fault k before (next_record k (drop at s)) ≡ 0
      → records_verdict k left before at (drop at s)
      ≡ records_verdict k (left - 1) (next_record k (drop at s) ∷ before) (at + record_size k) (drop (at + record_size k) s)
  unfolding records_verdict
  records_next zero l e = absurd (omega arith)
  records_next (suc n) l e =
      let p : suc n - 1 ≡ n = omega arith in
      rw (p, e, drop-drop (record_size k) at s)

  pub next_fits : record_fault k before (next_record k (drop at s)) ≡ 0 → at + record_size k ≤ length s
  next_fits e = omega (arith, (next_faultless k before (drop at s) e).0.whole, length-take (record_size k) (drop at s), length-drop at s)

-- ---- sections

-- the byte at the head of what is left
pub head_drop : (s : List ℕ) (at : ℕ) → get_or (drop at s) 0 0 ≡ get_or s at 0
head_drop s at = get_or-drop at s 0 0 ∙ ap (λ (i : ℕ). get_or s i 0) (add-zero at)

-- over what is left to read
module _ (k at : ℕ) (rest : List ℕ) where
  pub count_missing : length rest ≡ 0 → section_verdict k at rest ≡ Refused 1 at
  unfolding section_verdict count_verdict
  count_missing h = simp (lt-ltb (length rest) 1 (omega arith))

  module _ (h : 0 < length rest) where
    pub count_above : most_of k < get_or rest 0 0 → section_verdict k at rest ≡ Refused 2 at
    unfolding section_verdict count_verdict
    count_above m = simp (le-ltb (length rest) 1 (omega arith), lt-ltb (most_of k) (get_or rest 0 0) m)

    pub count_fits : get_or rest 0 0 ≤ most_of k → section_verdict k at rest ≡ records_verdict k (get_or rest 0 0) [] (at + 1) (drop 1 rest)
    unfolding section_verdict count_verdict
    count_fits m = simp (le-ltb (length rest) 1 (omega arith), le-ltb (most_of k) (get_or rest 0 0) m)

  -- an accepted section has its count, which is at most the most, and its records are accepted
  module _ (ok : section_verdict k at rest ≡ Accepted) where
    pub counted : (0 < length rest) × (get_or rest 0 0 ≤ most_of k)
    unfolding section_verdict count_verdict
    counted =
        let records = records_verdict k (get_or rest 0 0) [] (at + 1) (drop 1 rest) in
        let here = refuse_if (ltb (length rest) 1) 1 at in
        let few = refuse_if (ltb (most_of k) (get_or rest 0 0)) 2 at in
        let both = and_then_accepted here few (and_then_accepted (and_then here few) records ok).0 in (
          ltb-false (length rest) 1 (refuse_if_accepted _ 1 at both.0),
          ltb-false (most_of k) (get_or rest 0 0) (refuse_if_accepted _ 2 at both.1),
        )

    pub records_accepted : records_verdict k (get_or rest 0 0) [] (at + 1) (drop 1 rest) ≡ Accepted
    records_accepted = sym (count_fits counted.0 counted.1) ∙ ok

-- at an offset of a sheet
module _ (k at : ℕ) (s : List ℕ) where
  pub section_short : length s ≤ at → section_verdict k at (drop at s) ≡ Refused 1 at
  section_short h = count_missing k at (drop at s) (omega (arith, length-drop at s))

  module _ (h : at < length s) where
    here : 0 < length (drop at s)
    here = omega (arith, length-drop at s)

    pub section_many : most_of k < get_or s at 0 → section_verdict k at (drop at s) ≡ Refused 2 at
    section_many m = count_above k at (drop at s) here (rw (head_drop s at) m)

    pub section_records : get_or s at 0 ≤ most_of k
        → section_verdict k at (drop at s) ≡ records_verdict k (get_or s at 0) [] (at + 1) (drop (at + 1) s)
    section_records m = rw (head_drop s at, drop-drop 1 at s) at (count_fits k at (drop at s) here (rw (head_drop s at) m))

-- accepted records fill their room
records_fit : (k n : ℕ) (before : List (List ℕ)) (at : ℕ) (rest : List ℕ) → records_verdict k n before at rest ≡ Accepted → n * record_size k ≤ length rest
unfolding records_verdict
records_fit k zero before at rest e = omega arith
records_fit k (suc n) before at rest e =
    let size = record_size k in
    let later = records_verdict k n (next_record k rest ∷ before) (at + size) (drop size rest) in
    let both = and_then_accepted (refuse_fault (record_fault k before (next_record k rest)) at) later e in
    let whole = (next_faultless k before rest (refuse_fault_accepted _ at both.0)).0.whole in
    let more = records_fit k n (next_record k rest ∷ before) (at + size) (drop size rest) both.1 in
    omega (arith, suc-mul n size, length-take size rest, length-drop size rest)

pub section_whole : (k at : ℕ) (rest : List ℕ) → section_verdict k at rest ≡ Accepted → section_size k (get_or rest 0 0) ≤ length rest
section_whole k at rest ok =
    let fit = records_fit k (get_or rest 0 0) [] (at + 1) (drop 1 rest) (records_accepted k at rest ok) in
    let more = (counted k at rest ok).0 in
    omega (arith, length-drop 1 rest)

module _ (k at : ℕ) (s : List ℕ) (ok : section_verdict k at (drop at s) ≡ Accepted) where
  pub section_fits : at + section_size k (get_or s at 0) ≤ length s
  section_fits = omega (arith, rw (head_drop s at) at (section_whole k at (drop at s) ok), length-drop at s)

  pub sections_next : (n : ℕ) → 0 < n → sections_verdict n k at (drop at s)
      ≡ sections_verdict (n - 1) (k + 1) (at + section_size k (get_or s at 0)) (drop (at + section_size k (get_or s at 0)) s)
  unfolding sections_verdict
  sections_next zero l = absurd (omega arith)
  sections_next (suc n) l =
      let p : suc n - 1 ≡ n = omega arith in
      rw (p, head_drop s at, drop-drop (section_size k (get_or s at 0)) at s) (then_next _ _ ok)

pub sections_refuse : (n k at : ℕ) (s : List ℕ) (number place : ℕ) → 0 < n → section_verdict k at (drop at s) ≡ Refused number place
    → sections_verdict n k at (drop at s) ≡ Refused number place
unfolding sections_verdict
sections_refuse zero k at s number place l e = absurd (omega arith)
sections_refuse (suc n) k at s number place l e = rw e

pub sections_over : (k at : ℕ) (s : List ℕ) → at < length s → sections_verdict 0 k at (drop at s) ≡ Refused 11 at
unfolding sections_verdict
sections_over k at s h = simp (lt-ltb 0 (length (drop at s)) (omega (arith, length-drop at s)))

pub sections_done : (k at : ℕ) (s : List ℕ) → length s ≤ at → sections_verdict 0 k at (drop at s) ≡ Accepted
unfolding sections_verdict
sections_done k at s h = rw (drop_of_length-le s h)

-- ---- where the sections are

pub offset_next : (s : List ℕ) (k : ℕ) → offset_of s (k + 1) ≡ offset_of s k + section_size k (get_or s (offset_of s k) 0)
unfolding offset_of
offset_next s k = rw add-one

-- ---- the sections of an accepted sheet

sections_first : (n k at : ℕ) (rest : List ℕ) → 0 < n → sections_verdict n k at rest ≡ Accepted → section_verdict k at rest ≡ Accepted
unfolding sections_verdict
sections_first zero k at rest l e = absurd (omega arith)
sections_first (suc n) k at rest l e = (and_then_accepted (section_verdict k at rest) _ e).0

-- from section k on there is nothing to refuse
accepted_from : (s : List ℕ) → verdict s ≡ Accepted → (k : ℕ) → k ≤ sections
    → sections_verdict (sections - k) k (offset_of s k) (drop (offset_of s k) s) ≡ Accepted
unfolding verdict offset_of
accepted_from s ok zero h = ok
accepted_from s ok (suc k) h =
    let before = accepted_from s ok k (omega arith) in
    let at = offset_of s k in
    let first = sections_first (sections - k) k at (drop at s) (omega arith) before in
    let n : sections - k - 1 ≡ sections - suc k = omega arith in
    rw (n, add-one k) at (sym (sections_next k at s first (sections - k) (omega arith)) ∙ before)

-- ---- what `section` hands out

cond_same : (b : Bool) → ◌≡◌ {A = List ℕ} (cond b [] []) []
cond_same true = refl
cond_same false = refl

cond_false : (b : Bool) (n : ℕ) → cond (b && false) n 0 ≡ 0
cond_false true n = refl
cond_false false n = refl

module _ (s : List ℕ) (k : ℕ) where
  -- for an accepted sheet the unchecked section is the section
  pub unchecked : verdict s ≡ Accepted → section_of s k ≡ section_unchecked s k
  unfolding section_of
  unchecked ok = rw ok

  module _ (h : k < sections) where
    pub accepted_section : verdict s ≡ Accepted → section_verdict k (offset_of s k) (drop (offset_of s k) s) ≡ Accepted
    accepted_section ok = sections_first (sections - k) k _ _ (omega arith) (accepted_from s ok k (omega arith))

    pub accepted_fits : verdict s ≡ Accepted → offset_of s k + section_size k (count_of s k) ≤ length s
    unfolding count_of
    accepted_fits ok = section_fits k (offset_of s k) s (accepted_section ok)

    pub unchecked_known : section_unchecked s k ≡ take (count_of s k * record_size k) (drop (offset_of s k + 1) s)
    unfolding section_unchecked
    unchecked_known = simp (lt-ltb k sections h)

    pub start_known : verdict s ≡ Accepted → section_start s k ≡ offset_of s k + 1
    unfolding section_start
    start_known ok = simp (lt-ltb k sections h, ok)

  pub unchecked_unknown : sections ≤ k → section_unchecked s k ≡ []
  unfolding section_unchecked
  unchecked_unknown h = simp (le-ltb k sections h)

  module _ (h : sections ≤ k) where
    pub section_unknown : section_of s k ≡ []
    unfolding section_of
    section_unknown = rw (unchecked_unknown h) (cond_same (is_accepted (verdict s)))

    pub start_unknown : section_start s k ≡ 0
    unfolding section_start
    start_unknown = simp (le-ltb k sections h)

  module _ (number place : ℕ) (e : verdict s ≡ Refused number place) where
    pub section_refused : section_of s k ≡ []
    unfolding section_of
    section_refused = rw e

    pub start_refused : section_start s k ≡ 0
    unfolding section_start
    start_refused = rw e (cond_false (ltb k sections) (offset_of s k + 1))
