-- The table of four lines as a product over the lines: one computed test over every target and mask below 16. Assumes nothing.
use Rattle.std.proofs.Common.{ℕ, ◌+◌, ◌*◌, ◌-◌, ◌/◌, ◌%◌, ◌≤◌, ◌≡◌, Bool, ◌&&◌, List, [], ◌∷◌, arith, bit_and, bit_xor, T, eqb, eqb→eq, leb, leb→le, get_or}
use Rattle.lines.proofs.Computed.{nibbles, every_within_law}
use Rattle.lines.proofs.Truth.{and_left, and_right}
use Rattle.lut.specs.Table.{table_of}
use Rattle.term.specs.Words.{nibble_table}

-- the lines that have to be 1, and those that have to be 0
abbrev pub highs : (t m : ℕ) → ℕ
highs t m = bit_and t m

abbrev pub lows : (t m : ℕ) → ℕ
lows t m = bit_xor m (bit_and t m)

-- the factors of lines 0 and 1, and of lines 2 and 3, by the lines that may be 0 and those that may be 1
abbrev pub lower_factor : (zeros ones : ℕ) → ℕ
lower_factor zeros ones = (zeros % 2 + ones % 2 * 2) * (zeros / 2 % 2 + ones / 2 % 2 * 4)

abbrev pub upper_factor : (zeros ones : ℕ) → ℕ
upper_factor zeros ones = (zeros / 4 % 2 + ones / 4 % 2 * 16) * (zeros / 8 + ones / 8 * 256)

-- the lines that have to be 0 are at most four, and the table is the product
abbrev right : (t m : ℕ) → Bool
right t m =
    leb (lows t m) 15
    && eqb (lower_factor (15 - highs t m) (15 - lows t m) * upper_factor (15 - highs t m) (15 - lows t m)) (nibble_table t m)

right_at : List ℕ → Bool
right_at ds = right (get_or ds 0 0) (get_or ds 1 0)

module _ (x y : ℕ) where
  abbrev t : ℕ
  t = x % 16

  abbrev m : ℕ
  m = y % 16

  abbrev product : ℕ
  product = lower_factor (15 - highs t m) (15 - lows t m) * upper_factor (15 - highs t m) (15 - lows t m)

  tested : T (right t m)
  unfolding right_at nibble_table table_of
  tested = every_within_law (nibbles 2) right_at tt (t ∷ m ∷ []) (omega arith)

  pub lows_small : lows t m ≤ 15
  lows_small = leb→le _ _ (and_left (leb (lows t m) 15) (eqb product (nibble_table t m)) tested)

  pub table_product : product ≡ nibble_table t m
  table_product = eqb→eq _ _ (and_right (leb (lows t m) 15) (eqb product (nibble_table t m)) tested)
