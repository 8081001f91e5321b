-- The chain words of a range: two chains of sixteen words, two tables to a word, a table for each line.
use Rattle.std.specs.Prelude.{ℕ, ◌+◌, ◌-◌, ◌*◌, ◌%◌, ◌^◌, List, [], ◌∷◌, ◌++◌, count_ones}
use Rattle.lines.specs.Line.{line, choose}
use Rattle.lines.specs.Gather.{scattered}
use Rattle.lut.specs.Table.{word_of, down}
use Rattle.range.specs.declared.Range.{Range}

-- x - 1, of 32-bit numbers [W8]
abbrev pub one_less : ℕ → ℕ
one_less x = (x + 0xFFFFFFFF) % 2 ^ 32

-- NOT of a 32-bit number [W8]
abbrev pub complement : ℕ → ℕ
complement x = 0xFFFFFFFF - x

-- the lower chain's number: NOT(lower - 1) in as many bits as lines are masked; 0 if lower is 0 [W8, W10, L8]
unfoldable pub lower_value : (lower mask : ℕ) → ℕ
lower_value lower mask = complement (one_less lower) % 2 ^ count_ones mask

-- the upper chain's number: NOT(upper), cut likewise [W8, L8]
unfoldable pub upper_value : (upper mask : ℕ) → ℕ
upper_value upper mask = complement upper % 2 ^ count_ones mask

-- a line's table: 0xFFFF if it is not masked, else by its bit of the chain's number [W7, W9]
abbrev pub table_for : (masked bit : ℕ) → ℕ
table_for masked bit = choose masked 0xFFFF (choose bit 0xAAAA 0x5555)

-- the table of line i, given the mask and the chain's number spread over the masked lines [W7, W9]
abbrev pub line_table : (mask spread i : ℕ) → ℕ
line_table mask spread i = table_for (line mask i) (line spread i)

-- the word of the lines 2 p + 1, in its upper half, and 2 p [W6]
abbrev pub pair_word : (mask spread p : ℕ) → ℕ
pair_word mask spread p = word_of (line_table mask spread (p * 2 + 1)) (line_table mask spread (p * 2))

-- the sixteen words of a chain [W6, W9]
unfoldable pub chain_words : (mask value : ℕ) → List ℕ
chain_words mask value = down (pair_word mask (scattered 32 value mask)) 16

-- the words of the lower chain [W6, W8]
abbrev pub lower_chain : (lower mask : ℕ) → List ℕ
lower_chain lower mask = chain_words mask (lower_value lower mask)

-- the words of the upper chain [W6, W8]
abbrev pub upper_chain : (upper mask : ℕ) → List ℕ
upper_chain upper mask = chain_words mask (upper_value upper mask)

-- the two chains, the lower one first [W6, L7]
unfoldable pub range_words : (lower upper mask : ℕ) → List (List ℕ)
range_words lower upper mask = lower_chain lower mask ∷ upper_chain upper mask ∷ []

-- a range's 32 chain words: the lower chain's, then the upper chain's (*chain words* is the buyer's term) [G4, W6]
unfoldable pub sent_words : (lower upper mask : ℕ) → List ℕ
sent_words lower upper mask = lower_chain lower mask ++ upper_chain upper mask

-- the same of a range as one value [G4, W6]
abbrev pub words_of : Range → List ℕ
words_of r = sent_words r.lower r.upper r.mask
