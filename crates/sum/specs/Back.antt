-- The way back: the operation codes that write given chain words, if some do.
-- A procedure, not a meaning: nothing that is marked computed has to be believed. What it answers is pinned by
-- `ReadMeans` below: read_means in proofs/ReadingBack, words_read_back and accepted_iff_written in proofs/Theorems
-- [C5, D2.5, D2.6].
use Rattle.std.specs.Prelude.{ℕ, ◌≡◌, Bool, true, cond, ◌&&◌, List, [], ◌∷◌, Option, Some, None, eqb, length, get_or}
use Rattle.lut.specs.Table.{high, low}
use Rattle.sum.specs.Operation.{pair_ops, mid_ops, final_ops, op_code, codes_accepted}
use Rattle.sum.specs.Words.{words_of}

-- the meaning: eleven operation codes that write the words [C5]
pub record WrittenBy (words ops : List ℕ) : Type 0 where
  pub eleven : length ops ≡ 11
  pub accepted : codes_accepted ops ≡ true
  pub written : words ≡ words_of ops

-- what an answer says: these codes write the words, or none do [C5, C6, F16]
abbrev pub ReadMeans : (words : List ℕ) → Option (List ℕ) → Type 0
ReadMeans words (Some ops) = WrittenBy words ops
ReadMeans words None = (b : List ℕ) → WrittenBy words b → ⊥

-- computed: the codes of six words, 10 for a half that no operation has; the first word's upper half is 0 [B6, C5, W14]
unfoldable pub codes_of : List ℕ → List ℕ
codes_of w =
    op_code pair_ops (low (get_or w 5 0))
    ∷ op_code pair_ops (high (get_or w 5 0))
    ∷ op_code pair_ops (low (get_or w 4 0))
    ∷ op_code pair_ops (high (get_or w 4 0))
    ∷ op_code pair_ops (low (get_or w 3 0))
    ∷ op_code pair_ops (high (get_or w 3 0))
    ∷ op_code pair_ops (low (get_or w 2 0))
    ∷ op_code pair_ops (high (get_or w 2 0))
    ∷ op_code mid_ops (low (get_or w 1 0))
    ∷ op_code mid_ops (high (get_or w 1 0))
    ∷ op_code final_ops (get_or w 0 0)
    ∷ []

-- computed: six words, each half in its table [B6, C5]
abbrev pub known : List ℕ → Bool
known w = eqb (length w) 6 && codes_accepted (codes_of w)

-- computed: the codes that write the words, if some do; see ReadMeans, theorem read_means [B6, C5, A7]
abbrev pub read_sum : List ℕ → Option (List ℕ)
read_sum w = cond (known w) (Some (codes_of w)) None

-- the refusal number for each answer: 16 where no codes write the words, 0 for codes [A5, F16]
abbrev pub read_number : Option (List ℕ) → ℕ
read_number (Some ops) = 0
read_number None = 16

-- its place, counted from the item's own first byte, where its select stands [A5, F16]
abbrev pub read_place : Option (List ℕ) → ℕ
read_place r = 0
