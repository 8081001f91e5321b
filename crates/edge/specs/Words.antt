-- The chain words of an edge: two lines to a table, two tables to a word, the highest lines first.
use Rattle.std.specs.Prelude.{ℕ, ◌+◌, ◌*◌, List}
use Rattle.std.specs.Int.Bits.{bit_or}
use Rattle.lines.specs.Line.{line}
use Rattle.lut.specs.Table.{word_of, down}
use Rattle.edge.specs.declared.Edge.{Edge}
use Rattle.edge.specs.declared.Event.{Event}
use Rattle.edge.specs.declared.Event.TheVariants.{Rise, Fall, Neither}

-- what a table has for an event on its lower line [W13]
abbrev pub lower_table : Event → ℕ
lower_table Rise = 0x0A0A
lower_table Fall = 0x5050
lower_table Neither = 0xA5A5

-- what a table has for an event on its upper line [W13]
abbrev pub upper_table : Event → ℕ
upper_table Rise = 0x00CC
upper_table Fall = 0x3300
upper_table Neither = 0xCC33

-- what a table has for one line, r f n being 1 where the line asks for rise, fall, neither [W13]
abbrev pub asked_table : (Event → ℕ) → (r f n : ℕ) → ℕ
asked_table table r f n = bit_or (bit_or (r * table Rise) (f * table Fall)) (n * table Neither)

-- the table of the lines 2p + 1 and 2p: the OR of what the two ask for [W11, W13]
unfoldable pub pair_table : (p rise fall neither : ℕ) → ℕ
pair_table p r f n =
    bit_or (asked_table upper_table (line r (2 * p + 1)) (line f (2 * p + 1)) (line n (2 * p + 1)))
    (asked_table lower_table (line r (2 * p)) (line f (2 * p)) (line n (2 * p)))

-- the word of the lines 4k + 3 to 4k [W11]
abbrev pub word_at : (rise fall neither k : ℕ) → ℕ
word_at r f n k = word_of (pair_table (2 * k + 1) r f n) (pair_table (2 * k) r f n)

-- an edge's eight words, first sent first [W11, G4]
abbrev pub edge_words : (rise fall neither : ℕ) → List ℕ
edge_words r f n = down (word_at r f n) 8

-- the same of an edge as one value [W11, G4]
abbrev pub words_of : Edge → List ℕ
words_of d = edge_words d.rise d.fall d.neither
