-- An accepted sheet is exactly what its sections render to: each a count and as many records without fault, in rising
-- order and under different labels.
-- Assumes nothing.
use borrow.Author.Tests.{ltb-false}
use native.Mathlib.Nat.{zero-mul, suc-mul, add_comm}
use native.Mathlib.Numerals.{one-add}
use native.Mathlib.Omega.{arith}
use Prim.Native.Nat.{ℕ, zero, suc, ◌+◌, ◌*◌, ◌≤◌, ◌<◌}
use mathlib.Core.List.{List, [], ◌∷◌, ◌++◌, append_assoc}
use mathlib.Core.Path.{◌≡◌, refl, sym, ap, subst, ◌∙◌}
use lib.ListN.{length, get_or, take, drop, length-append, take-append-drop}
use lib.Seq.{take_at, drop_at, drop-drop}
use Rattle.buffer.specs.Verdict.{refuse_fault}
use Rattle.buffer.specs.declared.Verdict.TheVariants.{Accepted}
use Rattle.buffer.proofs.Faults.{and_then_accepted, refuse_if_accepted, refuse_fault_accepted}
use Rattle.records.specs.Sections.{sections, most_of, record_size, section_size}
use Rattle.sheet.specs.Reading.{least_slot, record_fault, next_record, records_verdict, section_verdict, sections_verdict, verdict}
use Rattle.records.specs.Records.{records_from}
use Rattle.sheet.specs.Parsed.{Faultless, joined, render, Ordered, Sections, WellFormed, sections_from, parse}
use Rattle.sheet.proofs.Faults.{no_fault}
use Rattle.sheet.proofs.Labels.{Fresh, fresh_differ, differ_fresh, records_length}
use Rattle.sheet.proofs.Reading.{then_next, next_faultless, counted, records_accepted, count_fits}

-- ---- records

-- slots rise and stay below the most, so there are no more records than that
pub ordered_count : {k floor : ℕ} {rs : List (List ℕ)} → Ordered k floor rs → floor ≤ most_of k → floor + length rs ≤ most_of k
ordered_count Ordered.done h = omega arith
ordered_count {k} {floor} (Ordered.next {r = r} f o) h =
    omega (arith, f, ordered_count o (omega (arith, f)))

pub joined_length : {k floor : ℕ} {rs : List (List ℕ)} → Ordered k floor rs → length (joined rs) ≡ length rs * record_size k
unfolding joined
joined_length {k} Ordered.done = sym (zero-mul (record_size k))
joined_length {k} (Ordered.next {r = r} {rs = rs} f o) =
    rw (length-append r (joined rs), f.whole, joined_length o, suc-mul (length rs) (record_size k)) (add_comm (record_size k) (length rs * record_size k))

-- such records are accepted, whatever follows; the least slot is given by an equation
ordered_from : {k floor : ℕ} {before rs : List (List ℕ)} → Ordered k floor rs → floor ≡ least_slot before → Fresh before rs → (at : ℕ) (rest : List ℕ)
    → records_verdict k (length rs) before at (joined rs ++ rest) ≡ Accepted
unfolding joined records_verdict
ordered_from Ordered.done e Fresh.done at rest = refl
ordered_from {k} {floor} {before} (Ordered.next {r = r} {rs = rs} f o) e (Fresh.next new more) at rest =
    rw (
      append_assoc r (joined rs) rest,
      take_at r (joined rs ++ rest) (record_size k) f.whole,
      drop_at r (joined rs ++ rest) (record_size k) f.whole,
      no_fault k before r (subst (λ (n : ℕ). Faultless k n r) e f) new,
    )
    (ordered_from o refl more (at + record_size k) rest)

-- such records are accepted, whatever follows
pub ordered_accepted : {k : ℕ} {before rs : List (List ℕ)} → Ordered k (least_slot before) rs → Fresh before rs → (at : ℕ) (rest : List ℕ)
    → records_verdict k (length rs) before at (joined rs ++ rest) ≡ Accepted
ordered_accepted o fresh at rest = ordered_from o refl fresh at rest

-- and they are read back
pub ordered_read : {k floor : ℕ} {rs : List (List ℕ)} → Ordered k floor rs → (rest : List ℕ) → records_from k (length rs) (joined rs ++ rest) ≡ rs
unfolding joined records_from
ordered_read Ordered.done rest = refl
ordered_read {k} {floor} (Ordered.next {r = r} {rs = rs} f o) rest =
    rw (append_assoc r (joined rs) rest, take_at r (joined rs ++ rest) (record_size k) f.whole, drop_at r (joined rs ++ rest) (record_size k) f.whole, ordered_read o rest)

-- accepted records are in order, and each has a label of its own
pub accepted_ordered : (k n : ℕ) (before : List (List ℕ)) (at : ℕ) (rest : List ℕ) → records_verdict k n before at rest ≡ Accepted
    → Ordered k (least_slot before) (records_from k n rest) × Fresh before (records_from k n rest)
unfolding records_verdict records_from
accepted_ordered k zero before at rest e = (Ordered.done, Fresh.done)
accepted_ordered k (suc n) before at rest e =
    let later = records_verdict k n (next_record k rest ∷ before) (at + record_size k) (drop (record_size k) rest) in
    let both = and_then_accepted (refuse_fault (record_fault k before (next_record k rest)) at) later e in
    let here = next_faultless k before rest (refuse_fault_accepted _ at both.0) in
    let more = accepted_ordered k n (next_record k rest ∷ before) (at + record_size k) (drop (record_size k) rest) both.1 in
    (Ordered.next here.0 more.0, Fresh.next here.1 more.1)

-- what is read, put together again
pub records_joined : (k n : ℕ) (rest : List ℕ) → joined (records_from k n rest) ++ drop (n * record_size k) rest ≡ rest
unfolding joined records_from
records_joined k zero rest = rw (zero-mul (record_size k))
records_joined k (suc n) rest =
    let size = record_size k in
    rw (
      suc-mul n size,
      add_comm (n * size) size,
      ← drop-drop (n * size) size rest,
      append_assoc (take size rest) (joined (records_from k n (drop size rest))) (drop (n * size) (drop size rest)),
      records_joined k n (drop size rest),
    ) (take-append-drop size rest)

-- ---- sections

empty : (l : List ℕ) → length l ≤ 0 → l ≡ []
empty [] h = refl
empty (x ∷ l) h = absurd (omega arith)

head_tail : (l : List ℕ) → 0 < length l → get_or l 0 0 ∷ drop 1 l ≡ l
head_tail [] h = absurd (omega arith)
head_tail (x ∷ l) h = refl

-- what comes after the first section
after_section : {k : ℕ} {rs : List (List ℕ)} → Ordered k 0 rs → (rest : List ℕ)
    → drop (section_size k (length rs)) (length rs ∷ (joined rs ++ rest)) ≡ rest
after_section {k} {rs} o rest = rw (one-add (length rs * record_size k)) (drop_at (joined rs) rest (length rs * record_size k) (joined_length o))

-- well-formed sections are accepted
pub sections_accepted : {k : ℕ} {p : List (List (List ℕ))} → Sections k p → (at : ℕ) → sections_verdict (length p) k at (render p) ≡ Accepted
unfolding render sections_verdict
sections_accepted Sections.done at = refl
sections_accepted {k} (Sections.next {rs = rs} {ss = ss} o d g) at =
    let rest = length rs ∷ (joined rs ++ render ss) in
    let records = count_fits k at rest (omega arith) (omega (arith, ordered_count o (omega arith))) ∙ ordered_accepted o (differ_fresh rs d) (at + 1) (render ss) in
    then_next (section_verdict k at rest) _ records
    ∙ rw (after_section o (render ss)) (sections_accepted g (at + section_size k (length rs)))

-- and they are read back
pub sections_read : {k : ℕ} {p : List (List (List ℕ))} → Sections k p → sections_from (length p) k (render p) ≡ p
unfolding render sections_from
sections_read Sections.done = refl
sections_read {k} (Sections.next {rs = rs} {ss = ss} o d g) = rw (after_section o (render ss), ordered_read o (render ss), sections_read g)

pub sections_count : (n k : ℕ) (rest : List ℕ) → length (sections_from n k rest) ≡ n
unfolding sections_from
sections_count zero k rest = refl
sections_count (suc n) k rest = ap suc (sections_count n (k + 1) (drop (section_size k (get_or rest 0 0)) rest))

-- accepted sections are well formed, and render to what was read
module _ (k at : ℕ) (rest : List ℕ) where
  tail_rendered : 0 < length rest
      → length (records_from k (get_or rest 0 0) (drop 1 rest)) ∷ (joined (records_from k (get_or rest 0 0) (drop 1 rest)) ++ drop (section_size k (get_or rest 0 0)) rest) ≡ rest
  tail_rendered h =
      let n = get_or rest 0 0 in
      rw (records_length k n (drop 1 rest), ← drop-drop (n * record_size k) 1 rest, records_joined k n (drop 1 rest)) (head_tail rest h)

pub accepted_sections : (n k at : ℕ) (rest : List ℕ) → sections_verdict n k at rest ≡ Accepted → Sections k (sections_from n k rest)
unfolding sections_verdict sections_from
accepted_sections zero k at rest e = Sections.done
accepted_sections (suc n) k at rest e =
    let size = section_size k (get_or rest 0 0) in
    let later = sections_verdict n (k + 1) (at + size) (drop size rest) in
    let both = and_then_accepted (section_verdict k at rest) later e in
    let here = accepted_ordered k (get_or rest 0 0) [] (at + 1) (drop 1 rest) (records_accepted k at rest both.0) in
    Sections.next here.0 (fresh_differ here.1)
    (accepted_sections n (k + 1) (at + size) (drop size rest) both.1)

pub sections_rendered : (n k at : ℕ) (rest : List ℕ) → sections_verdict n k at rest ≡ Accepted → render (sections_from n k rest) ≡ rest
unfolding sections_verdict sections_from render
sections_rendered zero k at rest e = sym (empty rest (ltb-false 0 (length rest) (refuse_if_accepted _ 11 at e)))
sections_rendered (suc n) k at rest e =
    let size = section_size k (get_or rest 0 0) in
    let later = sections_verdict n (k + 1) (at + size) (drop size rest) in
    let both = and_then_accepted (section_verdict k at rest) later e in
    rw (sections_rendered n (k + 1) (at + size) (drop size rest) both.1) (tail_rendered k at rest (counted k at rest both.0).0)

-- ---- sheets

-- what well-formed sections render to is a sheet
pub render_accepted : (p : List (List (List ℕ))) → WellFormed p → verdict (render p) ≡ Accepted
unfolding verdict
render_accepted p w = rw (← w.all) (sections_accepted w.good 0)

pub parse_render : (p : List (List (List ℕ))) → WellFormed p → parse (render p) ≡ p
unfolding parse
parse_render p w = rw (← w.all) (sections_read w.good)

-- an accepted sheet is what its sections render to, and they are well formed
pub accepted_well_formed : (s : List ℕ) → verdict s ≡ Accepted → WellFormed (parse s)
unfolding verdict parse
accepted_well_formed s ok = record { all = sections_count sections 0 s; good = accepted_sections sections 0 0 s ok }

pub accepted_rendered : (s : List ℕ) → verdict s ≡ Accepted → render (parse s) ≡ s
unfolding verdict parse
accepted_rendered s ok = sections_rendered sections 0 0 s ok
