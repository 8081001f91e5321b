-- The walk over a table, one element at a time: what the loop needs. Assumes nothing.
use Prim.Native.Nat.{ℕ, zero, suc, ◌+◌, ◌-◌, ◌≤◌, ◌<◌}
use mathlib.Core.Path.{◌≡◌}
use mathlib.Core.List.{List}
use native.Mathlib.Omega.{arith}
use borrow.Author.Tests.{eq-eqb, ne_eqb}
use lib.ListN.{length, get_or, drop, drop_of_length-le}
use lib.Seq.{drop-cons}
use Rattle.sum.specs.Operation.{op_code}

-- the search of a word, from the table's end down: its first place among those from i on
module _ (ops : List ℕ) (word : ℕ) where
  pub code_end : (i : ℕ) → length ops ≤ i → op_code (drop i ops) word ≡ 0
  unfolding op_code
  code_end i h = rw (drop_of_length-le ops h)

  pub code_found : (i : ℕ) → i < length ops → get_or ops i 0 ≡ word → i ≡ i + op_code (drop i ops) word
  unfolding op_code
  code_found i h e = rw (drop-cons ops i 0 h, eq-eqb (get_or ops i 0) word e) (omega arith)

  pub code_kept : (i code : ℕ) → 0 < i → i ≤ length ops → (get_or ops (i - 1) 0 ≡ word → ⊥) → code ≡ i + op_code (drop i ops) word
      → code ≡ i - 1 + op_code (drop (i - 1) ops) word
  unfolding op_code
  code_kept zero code l h n e = absurd (omega arith)
  code_kept (suc i) code l h n e =
      let down : suc i - 1 ≡ i = omega arith in
      let other : get_or ops i 0 ≡ word → ⊥ = rw down at n in
      rw down (let z : code ≡ i + op_code (drop i ops) word = rw (drop-cons ops i 0 h, ne_eqb (get_or ops i 0) word other) (omega arith) in z)

-- what the loop over a table needs
pub ruleset walk = (code_found, code_kept)
