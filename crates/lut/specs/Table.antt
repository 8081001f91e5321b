-- Lookup tables, two to a chain word.
use Rattle.std.specs.Prelude.{ℕ, zero, suc, ◌+◌, ◌*◌, ◌/◌, ◌%◌, ◌^◌, Bool, true, false, List, [], ◌∷◌}
use Rattle.lines.specs.Line.{line}

-- what a table answers at an address, its bit of that number [W3]
abbrev pub answer_at : (table address : ℕ) → ℕ
answer_at table address = line table address

-- a word's upper sixteen bits, one of its two tables [W3]
abbrev pub high : (word : ℕ) → ℕ
high word = word / 65536

-- a word's lower sixteen bits, the other one [W3]
abbrev pub low : (word : ℕ) → ℕ
low word = word % 65536

-- the word of two tables [W3]
abbrev pub word_of : (high_table low_table : ℕ) → ℕ
word_of high_table low_table = high_table * 65536 + low_table

-- a test's answer as a table gives it, 1 or 0 [W3]
abbrev pub one_if : Bool → ℕ
one_if true = 1
one_if false = 0

-- the table that answers 1 at the addresses below n where f holds, and 0 elsewhere [W3]
unfoldable pub table_of : (ℕ → Bool) → ℕ → ℕ
table_of f zero = zero
table_of f (suc n) = table_of f n + one_if (f n) * 2 ^ n

-- the words at the positions n - 1 down to 0: a chain as it is sent, the highest lines first [W4, W6, W11]
unfoldable pub down : (ℕ → ℕ) → ℕ → List ℕ
down f zero = []
down f (suc n) = f n ∷ down f n
