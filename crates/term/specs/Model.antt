-- The model of a term, over any words.
use Rattle.std.specs.Prelude.{Bool, true, ◌&&◌, List, [], ◌∷◌, ℕ, ◌*◌, ◌/◌, ◌%◌, ◌^◌, eqb, length}
use Rattle.lut.specs.Answer.{ran}
use Rattle.lut.specs.Table.{answer_at, high, low}
use Rattle.lut.specs.declared.Answer.{Answer}

-- both tables of a word answer 1 for the lowest eight lines [M2]
unfoldable pub word_hit : (word sample : ℕ) → Bool
word_hit w s = eqb (answer_at (low w) (s % 16)) 1 && eqb (answer_at (high w) (s / 16 % 16)) 1

-- all tables answer 1 for their four lines; a word with n words after it has the lines from 8 n up [M2, W4]
unfoldable pub chain_hit : List ℕ → ℕ → Bool
chain_hit [] s = true
chain_hit (w ∷ ws) s = word_hit w (s / 2 ^ (8 * length ws)) && chain_hit ws s

-- what the model answers for any lent words: four are needed [M1, M2]
abbrev pub run_term : List ℕ → ℕ → Answer
run_term words sample = ran 4 words (chain_hit words sample)
