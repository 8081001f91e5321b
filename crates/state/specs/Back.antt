-- The way back: the state that writes a given word.
-- A procedure, not a meaning: nothing that is marked computed has to be believed. What it answers is pinned by
-- `ReadMeans` below: read_means in proofs/ReadingBack, words_read_back and accepted_iff_written in proofs/Theorems
-- [C5, D2.5, D2.6].
use Rattle.std.specs.Prelude.{ℕ, zero, suc, ◌+◌, ◌/◌, ◌%◌, ◌^◌, ◌≡◌, Bool, cond, ◌&&◌, List, [], ◌∷◌, Option, Some, None, eqb, ltb, length, get_or}
use Rattle.lines.specs.Line.{line}
use Rattle.state.specs.declared.State.{State}
use Rattle.state.specs.Fields.{Accepted}
use Rattle.state.specs.Words.{words_of}

-- the meaning: an accepted state that writes the words [C5]
pub record WrittenBy (words : List ℕ) (s : State) : Type 0 where
  pub accepted : Accepted s
  pub written : words ≡ words_of s

-- what an answer says: this accepted state writes the words, or none does [C5, C6, F16]
abbrev pub ReadMeans : (words : List ℕ) → Option State → Type 0
ReadMeans words (Some s) = WrittenBy words s
ReadMeans words None = (t : State) → WrittenBy words t → ⊥

-- computed: n bits of a word from bit i on, one by one [B6, C5]
unfoldable pub bits_from : (n i word : ℕ) → List ℕ
bits_from zero i word = []
bits_from (suc n) i word = line word i ∷ bits_from n (i + 1) word

-- computed: the fields of a word, each read off its bits [B6, C5]
unfoldable pub state_of : ℕ → State
state_of w = record { number = w % 0x100000; branch = w / 0x100000 % 16; flags = bits_from 8 24 w }

-- computed: one word of 32 bits, and nothing else, is some state's; theorem every_word_is_some_states [B6, C5, C6]
abbrev pub known : List ℕ → Bool
known ws = eqb (length ws) 1 && ltb (get_or ws 0 0) (2 ^ 32)

-- computed: the state that writes the words, if one does; see ReadMeans, theorem read_means [B6, C5, A7]
abbrev pub read_state : List ℕ → Option State
read_state ws = cond (known ws) (Some (state_of (get_or ws 0 0))) None

-- the refusal number for each answer: 16 where no state writes the words, 0 for a state [A5, F16]
abbrev pub read_number : Option State → ℕ
read_number (Some s) = 0
read_number None = 16

-- its place, counted from the item's own first byte, where its select stands [A5, F16]
abbrev pub read_place : Option State → ℕ
read_place r = 0
