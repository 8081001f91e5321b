-- A match with a case for each number below n: what is left for the last arm is n or more. Assumes nothing.
use Prim.Native.Nat.{ℕ, zero, suc, ◌%◌, ◌≤◌, ◌<◌}
use mathlib.Core.Path.{◌≡◌}
use native.Mathlib.Omega.{arith}

-- what a match tells its last arm
unfoldable pub NoneBelow : ℕ → ℕ → Type 0
NoneBelow x zero = Unit {0}
NoneBelow x (suc n) = NoneBelow x n × (x ≡ n → ⊥)

pub past : (x n : ℕ) → NoneBelow x n → n ≤ x
unfolding NoneBelow
past x zero h = omega arith
past x (suc n) h = let before = past x n h.0 in let other = h.1 in omega arith

-- a number below sixteen is its remainder
pub whole : (x k : ℕ) → x < 16 → x % 16 ≡ k → x ≡ k
whole x k h e = omega arith
