-- The model of an edge: any eight words, an earlier and a later sample.
use Rattle.std.specs.Prelude.{ℕ, ◌+◌, ◌*◌, Bool, false, ◌||◌, List, [], ◌∷◌, eqb, length}
use Rattle.lines.specs.Line.{line}
use Rattle.lut.specs.declared.Answer.{Answer}
use Rattle.lut.specs.Table.{answer_at, high, low}
use Rattle.lut.specs.Answer.{ran}

-- where the table of the lines 2p + 1 and 2p is asked, from the four values of its two lines [W12]
abbrev pub address : (p earlier later : ℕ) → ℕ
address p e l = 8 * line e (2 * p + 1) + 4 * line e (2 * p) + 2 * line l (2 * p + 1) + line l (2 * p)

-- the table of these two lines answers 1 [M5]
abbrev pub table_hit : (p table earlier later : ℕ) → Bool
table_hit p t e l = eqb (answer_at t (address p e l)) 1

-- one or both tables of the lines 4k + 3 to 4k answer 1 [M5, W11]
abbrev pub word_hit : (k word earlier later : ℕ) → Bool
word_hit k w e l = table_hit (2 * k + 1) (high w) e l || table_hit (2 * k) (low w) e l

-- one or more tables of these words answer 1; the last word has the lines 3 to 0 [M5, W11]
unfoldable pub words_hit : List ℕ → (earlier later : ℕ) → Bool
words_hit [] e l = false
words_hit (w ∷ ws) e l = word_hit (length ws) w e l || words_hit ws e l

-- what the model answers for any lent words: eight are needed [M1, M5]
abbrev pub run_edge : List ℕ → (earlier later : ℕ) → Answer
run_edge ws e l = ran 8 ws (words_hit ws e l)
