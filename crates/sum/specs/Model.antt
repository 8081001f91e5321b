-- The model of a sum: any six words, and sixteen sources.
use Rattle.std.specs.Prelude.{ℕ, ◌+◌, ◌*◌, Bool, List, [], ◌∷◌, eqb, get_or}
use Rattle.lines.specs.Line.{line}
use Rattle.lut.specs.declared.Answer.{Answer}
use Rattle.lut.specs.Table.{answer_at, high, low}
use Rattle.lut.specs.Answer.{ran}
use Rattle.lut.specs.Input.{on_sources}
use Rattle.lut.specs.declared.Input.{Input}
use Rattle.sum.specs.Words.{words_of}

-- the sources of the pairs ab, c, d and e, A and B of each one behind the other [M6]
abbrev pub first_pairs : List ℕ
first_pairs = 0 ∷ 1 ∷ 2 ∷ 10 ∷ 3 ∷ 12 ∷ 4 ∷ 14 ∷ []

-- the sources of the pairs fg, h, i and j [M6]
abbrev pub last_pairs : List ℕ
last_pairs = 5 ∷ 6 ∷ 7 ∷ 11 ∷ 8 ∷ 13 ∷ 9 ∷ 15 ∷ []

-- where a pair's table is asked: A is at its two lower inputs, B at its two upper ones [M7]
abbrev pub pair_address : (sources a b : ℕ) → ℕ
pair_address s a b = 3 * line s a + 12 * line s b

-- what a pair's table answers there [M7]
abbrev pub pair_at : (table sources a b : ℕ) → ℕ
pair_at t s a b = answer_at t (pair_address s a b)

-- four pairs as the inputs of a mid; two words have their tables, the lower half first [M8, W14]
unfoldable pub inputs_of : (pairs : List ℕ) (first second sources : ℕ) → ℕ
inputs_of pairs v w s =
    pair_at (low v) s (get_or pairs 0 0) (get_or pairs 1 0)
    + 2 * pair_at (high v) s (get_or pairs 2 0) (get_or pairs 3 0)
    + 4 * pair_at (low w) s (get_or pairs 4 0) (get_or pairs 5 0)
    + 8 * pair_at (high w) s (get_or pairs 6 0) (get_or pairs 7 0)

-- what mid1 answers, over the pairs ab, c, d and e [M8, W14]
abbrev pub first_mid : List ℕ → (sources : ℕ) → ℕ
first_mid w s = answer_at (low (get_or w 1 0)) (inputs_of first_pairs (get_or w 5 0) (get_or w 4 0) s)

-- what mid2 answers, over the pairs fg, h, i and j [M8, W14]
abbrev pub last_mid : List ℕ → (sources : ℕ) → ℕ
last_mid w s = answer_at (high (get_or w 1 0)) (inputs_of last_pairs (get_or w 3 0) (get_or w 2 0) s)

-- the final table, asked with what the two mids answer, answers 1 [M8]
unfoldable pub sum_hit : List ℕ → (sources : ℕ) → Bool
sum_hit w s = eqb (answer_at (low (get_or w 0 0)) (first_mid w s + 2 * last_mid w s)) 1

-- what the model answers for any lent words: six are needed [M1, M8]
abbrev pub run_sum : List ℕ → (sources : ℕ) → Answer
run_sum w s = ran 6 w (sum_hit w s)

-- when a sum hits, over any input: it has no plain rule but its model [M8, G15]
abbrev pub hit : (ops : List ℕ) → Input → Bool
hit ops = on_sources (sum_hit (words_of ops))
