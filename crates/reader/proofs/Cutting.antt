-- A stream cut into items: what is left behind each of them, induction item by item, and the records of a section.
-- Assumes nothing.
use Prim.Native.Nat.{ℕ, zero, suc, zero-le, ◌+◌, ◌≤◌, ◌<◌}
use mathlib.Core.Path.{◌≡◌, refl, ap, ◌∙◌}
use mathlib.Core.List.{List, [], ◌∷◌}
use native.Mathlib.Decide.{dec_lt}
use native.Mathlib.Nat.{not-suc-le-zero, le_refl}
use native.Mathlib.Omega.{arith}
use borrow.Author.Tests.{lt-ltb, le-ltb, eq-eqb, ne_eqb}
use lib.Dec.{leb, leb→le}
use lib.ListN.{length, drop, length-drop}
use lib.Seq.{drop-drop}
use Rattle.lines.proofs.Computed.{every_below_law}
use Rattle.command.specs.Reading.{number}
use Rattle.records.specs.Sections.{sections}
use Rattle.compiler.specs.Items.{kind_of, lengths_of, size_of, item_size}
use Rattle.kinds.specs.Table.{section_at}
use Rattle.reader.specs.Judging.{step_size, rests_from, rests}
use Rattle.reader.specs.Back.{record_in, records_of}
use Rattle.kinds.specs.Table.{chain_count, chain_length}

-- ---- how far a step goes

pub item_positive : (k : ℕ) → k < sections → 5 ≤ item_size k
unfolding item_size size_of lengths_of chain_count chain_length kind_of
item_positive k h = leb→le _ _ (every_below_law sections (λ k. leb 5 (item_size k)) tt k h)

module _ (s : List ℕ) where
  pub step_known : section_at (number s) < sections → step_size s ≡ item_size (section_at (number s))
  unfolding step_size
  step_known h = simp (lt-ltb (section_at (number s)) sections h)

  pub step_unknown : sections ≤ section_at (number s) → step_size s ≡ 5
  unfolding step_size
  step_unknown h = simp (le-ltb (section_at (number s)) sections h)

  pub step_positive : 5 ≤ step_size s
  step_positive =
      elim (dec_lt (section_at (number s)) sections) [
        | yes h ↦ rw (step_known h) (item_positive (section_at (number s)) h)
        | no h ↦ rw (step_unknown (omega arith)) (le_refl 5)
      ]

-- ---- the cuts: any count that is large enough gives the same

enough : (n m : ℕ) (s : List ℕ) → length s ≤ n → length s ≤ m → rests_from n s ≡ rests_from m s
unfolding rests_from
enough zero zero s hn hm = refl
enough zero (suc m) [] hn hm = refl
enough zero (suc m) (b ∷ s) hn hm = absurd (not-suc-le-zero hn)
enough (suc n) zero [] hn hm = refl
enough (suc n) zero (b ∷ s) hn hm = absurd (not-suc-le-zero hm)
enough (suc n) (suc m) [] hn hm = refl
enough (suc n) (suc m) (b ∷ s) hn hm =
    let l = length-drop (step_size (b ∷ s)) (b ∷ s) in
    let p = step_positive (b ∷ s) in
    ap (λ (r : List (List ℕ)). (b ∷ s) ∷ r) (enough n m (drop (step_size (b ∷ s)) (b ∷ s)) (omega arith) (omega arith))

pub rests_none : (s : List ℕ) → length s ≤ 0 → rests s ≡ []
unfolding rests rests_from
rests_none [] h = refl
rests_none (b ∷ s) h = absurd (not-suc-le-zero h)

pub rests_some : (s : List ℕ) → 0 < length s → rests s ≡ s ∷ rests (drop (step_size s) s)
unfolding rests rests_from
rests_some [] h = absurd (not-suc-le-zero h)
rests_some (b ∷ s) h =
    let rest = drop (step_size (b ∷ s)) (b ∷ s) in
    let l = length-drop (step_size (b ∷ s)) (b ∷ s) in
    let p = step_positive (b ∷ s) in
    ap (λ (r : List (List ℕ)). (b ∷ s) ∷ r) (enough (length s) (length rest) rest (omega arith) (le_refl (length rest)))

-- induction item by item
pub by_rests : (P : List ℕ → Type 0) → ((s : List ℕ) → length s ≤ 0 → P s) → ((s : List ℕ) → 0 < length s → P (drop (step_size s) s) → P s)
    → (s : List ℕ) → P s
by_rests P none some s = go (length s) s (le_refl (length s))
  where
    go : (n : ℕ) (s : List ℕ) → length s ≤ n → P s
    go zero s h = none s h
    go (suc n) [] h = none [] zero-le
    go (suc n) (b ∷ s) h =
        let p = step_positive (b ∷ s) in
        some (b ∷ s) (omega arith) (go n (drop (step_size (b ∷ s)) (b ∷ s)) (rw (length-drop (step_size (b ∷ s)) (b ∷ s)) (omega arith)))

-- ---- the records of section k, from the item at `at` on

module _ (k at : ℕ) (s : List ℕ) where
  module _ (h : at < length s) where
    there : rests (drop at s) ≡ drop at s ∷ rests (drop (at + step_size (drop at s)) s)
    there =
        rests_some (drop at s) (rw length-drop (omega arith))
        ∙ ap (λ (t : List ℕ). drop at s ∷ rests t) (drop-drop (step_size (drop at s)) at s)

    pub records_own : section_at (number (drop at s)) ≡ k
        → records_of k (rests (drop at s)) ≡ record_in (drop at s) ∷ records_of k (rests (drop (at + step_size (drop at s)) s))
    unfolding records_of
    records_own e = rw (there, eq-eqb (section_at (number (drop at s))) k e)

    pub records_other : (section_at (number (drop at s)) ≡ k → ⊥)
        → records_of k (rests (drop at s)) ≡ records_of k (rests (drop (at + step_size (drop at s)) s))
    unfolding records_of
    records_other n = rw (there, ne_eqb (section_at (number (drop at s))) k n)

  pub records_end : length s ≤ at → records_of k (rests (drop at s)) ≡ []
  unfolding records_of
  records_end h = rw (rests_none (drop at s) (rw length-drop (omega arith)))
