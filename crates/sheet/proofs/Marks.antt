-- What the loop of `first_met` knows of the labels that it has passed: each is new, and its mark is set. Assumes nothing.
use native.Mathlib.Nat.{zero-mul, mul-le-mul_right}
use native.Mathlib.Decide.{dec_lt, ℕ_discrete}
use native.Mathlib.Omega.{arith}
use borrow.Author.Tests.{eq-eqb, ne_eqb}
use Prim.Native.Nat.{ℕ, zero, suc, ◌+◌, ◌*◌, ◌%◌, ◌≤◌, ◌<◌}
use mathlib.Core.Bool.{Bool, true, false, true≢false}
use mathlib.Core.List.{List, [], ◌∷◌}
use mathlib.Core.Path.{◌≡◌, refl, sym, ap, ◌∙◌}
use lib.ListN.{length, get_or, set, take, drop, replicate, length-set}
use lib.Seq.{drop-drop, get_or-set_same}
use Rattle.peek.specs.Bytes.{u32_at}
use Rattle.records.specs.Sections.{record_size, label_of}
use Rattle.records.specs.Records.{records_from}
use Rattle.records.proofs.Bounds.{one_more}
use Rattle.sheet.specs.Repeats.{met_before, FirstMet}
use Rattle.sheet.proofs.Labels.{among_none, records_length, record_at_law, label_at, met_by}

-- a label's mark
abbrev pub mark : List ℕ → ℕ
mark label = (u32_at label 0 + 123 * u32_at label 4) % 251

-- the first `done` labels
pub record Passed (k start : ℕ) (s : List ℕ) (marks : List Bool) (done : ℕ) : Type 0 where
  pub size : length marks ≡ 251
  pub fits : start + done * record_size k ≤ length s
  pub marked : (i : ℕ) → i < done → get_or marks (mark (label_at k start s i)) false ≡ true
  pub new : (i : ℕ) → i < done → met_before k start s i ≡ false

module _ (k start count : ℕ) (s : List ℕ) where
  pub passed_start : start ≤ length s → Passed k start s (replicate 251 false) 0
  passed_start h =
      record {
        size = refl;
        fits = omega (arith, zero-mul (record_size k));
        marked = λ i l. absurd (omega arith);
        new = λ i l. absurd (omega arith);
      }

  module _ (marks : List Bool) (done : ℕ) (p : Passed k start s marks done) where
    -- a label whose mark is not set is that of none of them
    pub unmarked : (label : List ℕ) → get_or marks (mark label) false ≡ false → met_by label k start done s ≡ false
    unmarked label e =
        among_none label (records_from k done (drop start s)) (λ i h q.
        let l : i < done = omega (arith, records_length k done (drop start s)) in
        let is = record_at_law k done (drop start s) i l ∙ ap (take (record_size k)) (drop-drop (i * record_size k) start s) in
        true≢false (sym (p.marked i l) ∙ ap (λ m. get_or marks m false) (ap (λ r. mark (label_of r)) (sym is) ∙ ap mark q) ∙ e))

    -- the sheet ends inside the next record
    pub passed_short : length s < start + done * record_size k + record_size k → FirstMet k start count s count
    passed_short h i l m fits =
        elim (dec_lt i done) [
          | yes earlier ↦ p.new i earlier ∙ sym (ne_eqb i count (λ e. omega arith))
          | no later ↦
              let later-by-one : done + 1 ≤ i + 1 = omega arith in
              let more = mul-le-mul_right (record_size k) later-by-one in
              absurd (omega (arith, more, one_more done (record_size k)))
        ]

    pub passed_end : count ≤ done → FirstMet k start count s count
    passed_end h i l m fits = p.new i (omega arith) ∙ sym (ne_eqb i count (λ e. omega arith))

    -- the next label was met before
    pub passed_met : met_before k start s done ≡ true → FirstMet k start count s done
    passed_met met i l m fits =
        elim (ℕ_discrete i done) [
          | yes e ↦ rw e (met ∙ sym (eq-eqb done done refl))
          | no n ↦ p.new i (omega arith) ∙ sym (ne_eqb i done n)
        ]

    -- it was not
    pub passed_next : met_before k start s done ≡ false → start + done * record_size k + record_size k ≤ length s
        → Passed k start s (set marks (mark (label_at k start s done)) true) (done + 1)
    passed_next fresh fits =
        record {
          size = length-set marks (mark (label_at k start s done)) true ∙ p.size;
          fits = omega (arith, one_more done (record_size k));
          marked = λ i l. more i (ℕ_discrete i done) l;
          new = λ i l. elim (ℕ_discrete i done) [ yes e ↦ rw e fresh | no n ↦ p.new i (omega arith) ];
        }
      where
        stays : (marks : List Bool) (m n : ℕ) → get_or marks n false ≡ true → get_or (set marks m true) n false ≡ true
        stays [] m n e = e
        stays (x ∷ marks) zero zero e = refl
        stays (x ∷ marks) zero (suc n) e = e
        stays (x ∷ marks) (suc m) zero e = e
        stays (x ∷ marks) (suc m) (suc n) e = stays marks m n e

        more : (i : ℕ) → Dec (i ≡ done) → i < done + 1 → get_or (set marks (mark (label_at k start s done)) true) (mark (label_at k start s i)) false ≡ true
        more i (yes e) l = rw e (get_or-set_same marks (mark (label_at k start s done)) true false (omega (arith, p.size)))
        more i (no n) l = stays marks (mark (label_at k start s done)) (mark (label_at k start s i)) (p.marked i (omega arith))
