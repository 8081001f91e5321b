-- The two tables of a chain word come out as they went in. Assumes nothing.
use mathlib.Core.Path.{◌≡◌}
use Prim.Native.Nat.{ℕ, ◌<◌}
use native.Mathlib.Omega.{arith}
use Rattle.lut.specs.Table.{high, low, word_of}

pub high_half : (a b : ℕ) → b < 65536 → high (word_of a b) ≡ a
high_half a b h = omega arith

pub low_half : (a b : ℕ) → b < 65536 → low (word_of a b) ≡ b
low_half a b h = omega arith

pub word_lt : (a b : ℕ) → a < 65536 → b < 65536 → word_of a b < 4294967296
word_lt a b ha hb = omega arith
