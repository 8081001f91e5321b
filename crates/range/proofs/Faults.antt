-- The refusal numbers of a description say what the rules say of them, and there is none exactly when the range is
-- accepted [F6, F7, F8]. Assumes nothing.
use Rattle.std.proofs.Common.{◌≡◌, ℕ, ◌-◌, ◌^◌, ◌<◌, ◌≤◌, Bool, true, false, cond, eqb, ltb, ◌↔◌, refl, arith, ltb-false, ltb-true, eqb-true}
use borrow.Author.Tests.{eqb-false}
use lib.Count.{ones}
use Rattle.range.specs.Rule.{RangeAccepted, range_fault}

module _ (lower upper mask : ℕ) where
  -- the four cases, in the order of the table
  by_fault : (P : ℕ → Type 0) → (lower ≡ 0 → P 6) → (1 ≤ lower → upper < lower → P 7)
      → (1 ≤ lower → lower ≤ upper → 2 ^ ones mask - 1 < upper → P 8) → (1 ≤ lower → lower ≤ upper → upper ≤ 2 ^ ones mask - 1 → P 0)
      → P (range_fault lower upper mask)
  unfolding range_fault
  by_fault P six seven eight none =
      go (eqb lower 0) refl (ltb upper lower) refl (ltb (2 ^ ones mask - 1) upper) refl
    where
      go : (s : Bool) → eqb lower 0 ≡ s → (t : Bool) → ltb upper lower ≡ t → (u : Bool) → ltb (2 ^ ones mask - 1) upper ≡ u
          → P (cond s 6 (cond t 7 (cond u 8 0)))
      go true es t et u eu = six (eqb-true lower 0 es)
      go false es true et u eu = let n = eqb-false lower 0 es in seven (omega arith) (ltb-true upper lower et)
      go false es false et true eu =
          let n = eqb-false lower 0 es in eight (omega arith) (ltb-false upper lower et) (ltb-true (2 ^ ones mask - 1) upper eu)
      go false es false et false eu =
          let n = eqb-false lower 0 es in none (omega arith) (ltb-false upper lower et) (ltb-false (2 ^ ones mask - 1) upper eu)

  -- 6: lower 0
  pub fault_6 : (range_fault lower upper mask ≡ 6) ↔ (lower ≡ 0)
  fault_6 =
      by_fault (λ n. (n ≡ 6) ↔ (lower ≡ 0)) (λ z. (λ e. z, λ e. refl)) (λ p o. (λ e. omega arith, λ e. omega arith))
      (λ p o w. (λ e. omega arith, λ e. omega arith)) (λ p o w. (λ e. omega arith, λ e. omega arith))

  -- 7: lower above upper
  pub fault_7 : (range_fault lower upper mask ≡ 7) ↔ ((1 ≤ lower) × (upper < lower))
  fault_7 =
      by_fault (λ n. (n ≡ 7) ↔ ((1 ≤ lower) × (upper < lower))) (λ z. (λ e. absurd (omega arith), λ e. omega arith))
      (λ p o. (λ e. (p, o), λ e. refl)) (λ p o w. (λ e. absurd (omega arith), λ e. omega arith)) (λ p o w. (λ e. absurd (omega arith), λ e. omega arith))

  -- 8: upper above 2^k - 1
  pub fault_8 : (range_fault lower upper mask ≡ 8) ↔ ((1 ≤ lower) × (lower ≤ upper) × (2 ^ ones mask - 1 < upper))
  fault_8 =
      by_fault (λ n. (n ≡ 8) ↔ ((1 ≤ lower) × (lower ≤ upper) × (2 ^ ones mask - 1 < upper))) (λ z. (λ e. absurd (omega arith), λ e. omega arith))
      (λ p o. (λ e. absurd (omega arith), λ e. omega arith)) (λ p o w. (λ e. (p, o, w), λ e. refl)) (λ p o w. (λ e. absurd (omega arith), λ e. omega arith))

  -- no fault: accepted
  pub fault_0 : mask < 2 ^ 32 → (range_fault lower upper mask ≡ 0) ↔ RangeAccepted lower upper mask
  fault_0 hm =
      by_fault (λ n. (n ≡ 0) ↔ RangeAccepted lower upper mask) (λ z. (λ e. absurd (omega arith), λ a. omega arith))
      (λ p o. (λ e. absurd (omega arith), λ a. omega arith)) (λ p o w. (λ e. absurd (omega arith), λ a. omega arith))
      (λ p o w. (λ e. record { fits = hm; positive = p; ordered = o; within = w }, λ a. refl))
