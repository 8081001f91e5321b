-- The way back: the edge that writes given chain words, if an accepted one does.
-- A procedure, not a meaning: nothing that is marked computed has to be believed. What it answers is pinned by
-- `ReadMeans` below: read_means in proofs/ReadingBack, words_read_back and accepted_iff_written in proofs/Theorems
-- [C5, D2.5, D2.6].
use Rattle.std.specs.Prelude.{ℕ, ◌+◌, ◌*◌, ◌≡◌, cond, ◌&&◌, List, [], ◌∷◌, Option, Some, None, eqb}
use Rattle.std.specs.Int.Bits.{bit_and}
use Rattle.compare.specs.Same.{same}
use Rattle.lut.specs.Table.{high, low, one_if}
use Rattle.edge.specs.declared.Edge.{Edge}
use Rattle.edge.specs.declared.Event.{Event}
use Rattle.edge.specs.declared.Event.TheVariants.{Rise, Fall, Neither}
use Rattle.edge.specs.Rule.{edge_accepted, Accepted}
use Rattle.edge.specs.Words.{lower_table, upper_table, words_of}

-- the meaning: an accepted edge that writes the words [C5]
pub record WrittenBy (words : List ℕ) (e : Edge) : Type 0 where
  pub accepted : Accepted e
  pub written : words ≡ words_of e

-- what an answer says: this accepted edge writes the words, or none does [C5, C6, F16]
abbrev pub ReadMeans : List ℕ → Option Edge → Type 0
ReadMeans ws (Some e) = WrittenBy ws e
ReadMeans ws None = (e : Edge) → WrittenBy ws e → ⊥

-- computed: 1 where the table has all the ones of an event's table [B6, C5]
unfoldable pub covers : (table wish : ℕ) → ℕ
covers table wish = one_if (eqb (bit_and table wish) wish)

-- computed: the four lines of a word that ask for an event, by its tables for an upper and a lower line [B6, C5]
abbrev pub word_wish : (upper lower word : ℕ) → ℕ
word_wish upper lower w =
    covers (high w) upper * 8 + covers (high w) lower * 4 + covers (low w) upper * 2 + covers (low w) lower

-- computed: the same of some words, behind the lines of the words before them [B6, C5]
unfoldable pub wish_from : (upper lower : ℕ) → List ℕ → (lines : ℕ) → ℕ
wish_from upper lower [] lines = lines
wish_from upper lower (w ∷ ws) lines = wish_from upper lower ws (lines * 16 + word_wish upper lower w)

-- computed: the lines that ask for an event [B6, C5]
abbrev pub wish_of : Event → List ℕ → ℕ
wish_of t ws = wish_from (upper_table t) (lower_table t) ws 0

-- computed: a candidate counts if it is accepted and writes the words again [B6, C5]
abbrev pub read_as : List ℕ → Edge → Option Edge
read_as ws e = cond (edge_accepted e.rise e.fall e.neither && same ws (words_of e)) (Some e) None

-- computed: the one candidate, each event's lines read off the words; see ReadMeans, theorem read_means [B6, C5, F16]
abbrev pub read_edge : List ℕ → Option Edge
read_edge ws = read_as ws (record { rise = wish_of Rise ws; fall = wish_of Fall ws; neither = wish_of Neither ws })

-- the refusal number for each answer: 16 where no accepted edge writes the words, 0 for an edge [A5, F16]
abbrev pub read_number : Option Edge → ℕ
read_number (Some e) = 0
read_number None = 16

-- its place, counted from the item's own first byte, where its select stands [A5, F16]
abbrev pub read_place : Option Edge → ℕ
read_place r = 0
