-- The chain words of a pattern.
use Rattle.std.specs.Prelude.{Bool, List, ℕ, ◌*◌, ◌/◌, ◌%◌, ◌^◌, eqb}
use Rattle.std.specs.Int.Bits.{bit_and, bit_xor}
use Rattle.lut.specs.Table.{table_of, word_of, down}
use Rattle.term.specs.declared.Pattern.{Pattern}

-- the address agrees with the target on the masked lines, as one formula [W5, P2]
abbrev pub address_hit : (target mask address : ℕ) → Bool
address_hit t m address = eqb (bit_and (bit_xor address t) m) 0

-- a pattern's table for four lines: bit n tells whether address n agrees on the masked lines [W4, W5]
unfoldable pub nibble_table : (target mask : ℕ) → ℕ
nibble_table t m = table_of (address_hit t m) 16

-- the word of the lowest eight lines, the lower four in its lower half [W4]
unfoldable pub chain_word : (target mask : ℕ) → ℕ
chain_word t m = word_of (nibble_table (t / 16 % 16) (m / 16 % 16)) (nibble_table (t % 16) (m % 16))

-- the word of the lines 8 k + 7 to 8 k [W4]
abbrev pub word_at : (target mask k : ℕ) → ℕ
word_at t m k = chain_word (t / 2 ^ (8 * k)) (m / 2 ^ (8 * k))

-- a pattern's four words, first sent first [W4, G4]
unfoldable pub term_words : (target mask : ℕ) → List ℕ
term_words t m = down (word_at t m) 4

-- the same of a pattern as one value [W4, G4]
abbrev pub words_of : Pattern → List ℕ
words_of p = term_words p.target p.mask
