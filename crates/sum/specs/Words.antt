-- The six chain words of a sum.
use Rattle.std.specs.Prelude.{ℕ, List, [], ◌∷◌, get_or}
use Rattle.lut.specs.Table.{word_of}
use Rattle.sum.specs.Operation.{pair_ops, mid_ops, final_ops, op_word}

-- a word of two operations of one stage, the upper half first [W14]
abbrev pub joined : (ops : List ℕ) (high low : ℕ) → ℕ
joined ops high low = word_of (op_word ops high) (op_word ops low)

-- a sum's six words, first sent first, from its operations by their offsets [W14, S6, G4]
unfoldable pub words_of : List ℕ → List ℕ
words_of b =
    word_of 0 (op_word final_ops (get_or b 10 0))
    ∷ joined mid_ops (get_or b 9 0) (get_or b 8 0)
    ∷ joined pair_ops (get_or b 7 0) (get_or b 6 0)
    ∷ joined pair_ops (get_or b 5 0) (get_or b 4 0)
    ∷ joined pair_ops (get_or b 3 0) (get_or b 2 0)
    ∷ joined pair_ops (get_or b 1 0) (get_or b 0 0)
    ∷ []
