-- How long a sheet can be, and that one byte more than that of a file is enough to judge it. Assumes nothing.
use Prim.Native.Nat.{ℕ, zero, suc, ◌+◌, ◌-◌, ◌*◌, ◌≤◌, ◌<◌}
use mathlib.Core.List.{List, [], ◌∷◌}
use mathlib.Core.Path.{◌≡◌, refl, sym, ◌∙◌}
use native.Mathlib.Decide.{dec_le}
use native.Mathlib.Nat.{suc-mul, mul-le-mul_right}
use native.Mathlib.Omega.{arith}
use borrow.Author.Tests.{lt-ltb}
use lib.ListN.{length, get_or, take, drop, length-append}
use lib.Seq.{take-take, get_or-take}
use Rattle.records.proofs.Records.{drop_take}
use Rattle.buffer.specs.declared.Verdict.TheVariants.{Accepted}
use Rattle.buffer.proofs.Faults.{and_then_same}
use Rattle.records.specs.Sections.{sections, most_of, record_size, section_size}
use Rattle.sheet.specs.Reading.{next_record, records_verdict, section_verdict, sections_verdict, verdict}
use Rattle.sheet.specs.Parsed.{joined, render, Sections, longest_from}
use Rattle.sheet.proofs.Parsed.{ordered_count, joined_length, accepted_well_formed, accepted_rendered}
use Rattle.sheet.proofs.Reading.{count_above, count_fits, counted}

sections_long : {k : ℕ} {p : List (List (List ℕ))} → Sections k p → length (render p) ≤ longest_from (length p) k
unfolding render longest_from
sections_long Sections.done = omega arith
sections_long {k} (Sections.next {rs = rs} {ss = ss} o d g) =
    let few = mul-le-mul_right (record_size k) (ordered_count o (omega arith)) in
    omega (arith, few, sections_long g, length-append (joined rs) (render ss), joined_length o)

pub longest : (s : List ℕ) → verdict s ≡ Accepted → length s ≤ longest_from sections 0
longest s ok =
    let w = accepted_well_formed s ok in
    rw (accepted_rendered s ok, w.all) at (sections_long w.good)

-- ---- what is read of a sheet does not depend on the bytes past the longest

records_enough : (k n : ℕ) (before : List (List ℕ)) (at m : ℕ) (rest : List ℕ) → n * record_size k ≤ m
    → records_verdict k n before at (take m rest) ≡ records_verdict k n before at rest
unfolding records_verdict
records_enough k zero before at m rest h = refl
records_enough k (suc n) before at m rest h =
    let size = record_size k in
    let l : size + n * size ≤ m = omega (arith, suc-mul n size) in
    rw (
      take-take size m rest (omega arith),
      drop_take size m rest,
      records_enough k n (next_record k rest ∷ before) (at + size) (m - size) (drop size rest) (omega arith),
    )

section_enough : (k at m : ℕ) (rest : List ℕ) → section_size k (most_of k) ≤ m → section_verdict k at (take m rest) ≡ section_verdict k at rest
section_enough k at zero rest h = absurd (omega arith)
section_enough k at (suc m) [] h = refl
section_enough k at (suc m) (x ∷ l) h =
    elim (dec_le x (most_of k)) [
      | yes few ↦
          count_fits k at (x ∷ take m l) (omega arith) few
          ∙ records_enough k x [] (at + 1) m l (omega (arith, mul-le-mul_right (record_size k) few))
          ∙ sym (count_fits k at (x ∷ l) (omega arith) few)
      | no many ↦
          count_above k at (x ∷ take m l) (omega arith) (omega arith) ∙ sym (count_above k at (x ∷ l) (omega arith) (omega arith))
    ]

left_enough : (k at m : ℕ) (rest : List ℕ) → 0 < m → sections_verdict 0 k at (take m rest) ≡ sections_verdict 0 k at rest
unfolding sections_verdict
left_enough k at zero rest h = absurd (omega arith)
left_enough k at (suc m) [] h = refl
left_enough k at (suc m) (x ∷ l) h = rw (lt-ltb 0 (length (x ∷ take m l)) (omega arith), lt-ltb 0 (length (x ∷ l)) (omega arith))

sections_enough : (n k at m : ℕ) (rest : List ℕ) → longest_from n k < m → sections_verdict n k at (take m rest) ≡ sections_verdict n k at rest
unfolding sections_verdict longest_from
sections_enough zero k at m rest h = left_enough k at m rest h
sections_enough (suc n) k at m rest h =
    let size = section_size k (get_or rest 0 0) in
    rw (section_enough k at m rest (omega arith), get_or-take m rest 0 0 (omega arith), drop_take size m rest)
    (and_then_same (section_verdict k at rest) _ _ (λ ok.
    sections_enough n (k + 1) (at + size) (m - size) (drop size rest)
    (omega (arith, mul-le-mul_right (record_size k) (counted k at rest ok).1))))

-- a file is judged by its first m bytes as it is by all of them, where m is above the longest sheet
pub enough_read : (m : ℕ) (s : List ℕ) → longest_from sections 0 < m → verdict (take m s) ≡ verdict s
unfolding verdict
enough_read m s h = sections_enough sections 0 0 m s h
