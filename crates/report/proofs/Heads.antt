-- What stands above the lines: which head, and how long it can be. Assumes nothing.
use Prim.Native.Nat.{ℕ, zero, suc, ◌≤◌}
use mathlib.Core.Path.{◌≡◌, refl}
use native.Mathlib.Omega.{arith}
use lib.ListN.{length, length-append}
use Rattle.refusal.specs.Line.{decimal}
use Rattle.refusal.proofs.Lengths.{digits_length}
use Rattle.report.specs.Page.{head_on, counts_text}

-- a number has at most twenty digits
pub decimal_short : (n : ℕ) → length (decimal n) ≤ 20
unfolding decimal
decimal_short n = digits_length 20 n

pub head_some : (n : ℕ) (count : ℕ → ℕ) → (n ≡ 0 → ⊥) → head_on n count ≡ counts_text count
head_some zero count n = absurd (n refl)
head_some (suc m) count n = refl

counts_most : (count : ℕ → ℕ) → length (counts_text count) ≤ 150
counts_most count =
    simp length-append
    (omega (arith, decimal_short))

pub head_most : (n : ℕ) (count : ℕ → ℕ) → length (head_on n count) ≤ 150
head_most zero count = omega arith
head_most (suc m) count = counts_most count
