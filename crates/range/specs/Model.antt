-- The model of a range, over any words, the lower chain's sixteen first.
use Rattle.std.specs.Prelude.{ℕ, zero, suc, ◌-◌, ◌/◌, ◌%◌, Bool, ◌&&◌, List, take, drop, ◌==◌, slice_index}
use Rattle.lines.specs.Line.{line, choose}
use Rattle.lut.specs.Table.{answer_at, high, low}
use Rattle.lut.specs.Answer.{ran}
use Rattle.lut.specs.declared.Answer.{Answer}

-- the table of line i of a chain: the words go down from line 31, and a word's upper half has its odd line [W6]
abbrev pub table_at : (chain : List ℕ) (i : ℕ) → ℕ
table_at chain i = choose (i % 2) (low (slice_index chain (15 - i / 2))) (high (slice_index chain (15 - i / 2)))

-- the table of line i in the lower chain of 32 words [W6, M1]
abbrev pub lower_table : (words : List ℕ) (i : ℕ) → ℕ
lower_table words i = table_at (take 16 words) i

-- the table of line i in the upper chain of 32 words [W6, M1]
abbrev pub upper_table : (words : List ℕ) (i : ℕ) → ℕ
upper_table words i = table_at (drop 16 words) i

-- the carry behind line i: as it was where the table answers 1, the line's value where it answers 0 [M3]
abbrev pub carry_after : (chain : List ℕ) (sample i carry : ℕ) → ℕ
carry_after chain sample i carry = choose (answer_at (table_at chain i) (line sample i)) (line sample i) carry

-- the carry behind n lines from line i up [M3]
unfoldable pub carry_from : (chain : List ℕ) (sample n i carry : ℕ) → ℕ
carry_from chain sample zero i carry = carry
carry_from chain sample (suc n) i carry = carry_from chain sample n (suc i) (carry_after chain sample i carry)

-- a chain's last carry: it is 0 before line 0 and goes through all lines [M3]
unfoldable pub chain_carry : (chain : List ℕ) (sample : ℕ) → ℕ
chain_carry chain sample = carry_from chain sample 32 0 0

-- the last carry is 1 in the lower chain and 0 in the upper one [M4]
unfoldable pub model_hit : (words : List ℕ) (sample : ℕ) → Bool
model_hit words sample = chain_carry (take 16 words) sample == 1 && chain_carry (drop 16 words) sample == 0

-- what the model answers for any lent words: 32 are needed [M1, M4]
abbrev pub run_range : (words : List ℕ) (sample : ℕ) → Answer
run_range words sample = ran 32 words (model_hit words sample)
