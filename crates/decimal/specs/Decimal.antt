-- A section's number on the command line.
use Rattle.std.specs.Prelude.{ℕ, ◌+◌, ◌-◌, ◌*◌, min, Bool, ◌&&◌, List, [], ◌∷◌, ltb, length}
use Rattle.compare.specs.Within.{all_within}
use Rattle.records.specs.Sections.{sections}

-- a word of the digits 0 to 9, at least one [A8]
abbrev pub is_decimal : List ℕ → Bool
is_decimal word = ltb 0 (length word) && all_within 48 57 word

-- the number that decimal digits give behind n: '0' is 48 [A8]
unfoldable pub decimal_from : (n : ℕ) (word : List ℕ) → ℕ
decimal_from n [] = n
decimal_from n (d ∷ ds) = decimal_from (10 * n + (d - 48)) ds

-- the section asked for; all numbers that no section has may count as the first of them [A8, S10]
unfoldable pub section_asked : List ℕ → ℕ
section_asked word = min (decimal_from 0 word) sections
