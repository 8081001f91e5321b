-- Chain words read back as a pattern: each table is decoded, and the pattern is accepted where it writes the very words
-- that were read.
-- A procedure, not a meaning: nothing that is marked computed has to be believed. What it answers is pinned by
-- `ReadMeans` below: read_means in proofs/ReadingBack, words_read_back and accepted_iff_written in proofs/Theorems
-- [C5, D2.5, D2.6].
use Rattle.std.specs.Prelude.{Bool, cond, Option, Some, None, List, [], ◌∷◌, ◌≡◌, ℕ, ◌+◌, ◌*◌, ◌%◌, ◌^◌, ◌<◌, eqb, length}
use Rattle.std.specs.Bool.{then_some}
use Rattle.std.specs.Int.Bits.{bit_and, bit_xor}
use Rattle.std.specs.Int.Count.{count_trailing_zeros}
use Rattle.compare.specs.Same.{same}
use Rattle.lut.specs.Table.{answer_at, high, low, table_of}
use Rattle.term.specs.declared.Pattern.{Pattern}
use Rattle.term.specs.Words.{term_words, words_of}

-- computed: the lowest address at which a table answers 1, the target cut to the mask (0 where none does) [B6, C5]
abbrev pub nibble_target : (table : ℕ) → ℕ
nibble_target table = count_trailing_zeros 32 table % 16

-- computed: line j is in the mask where the answer is 0 once that line is turned over [B6, C5]
abbrev pub line_masked : (table address line : ℕ) → Bool
line_masked table a j = eqb (answer_at table (bit_xor a (2 ^ j))) 0

-- computed: the mask of a table's four lines [B6, C5]
unfoldable pub nibble_mask : (table : ℕ) → ℕ
nibble_mask table = table_of (line_masked table (nibble_target table)) 4

-- each number that a step may give for a table is this part of it [C5]
abbrev pub Reads : (gives : (table lines : ℕ) → Type 0) (part : ℕ → ℕ) → Type 0
Reads gives part = (table lines : ℕ) → table < 2 ^ 32 → gives table lines → lines ≡ part table

-- computed: the eight lines that a word has, by what is read of a table's four [B6, C5]
unfoldable pub word_part : (part : ℕ → ℕ) (word : ℕ) → ℕ
word_part part word = part (high word) * 16 + part (low word)

-- computed: the same of some words, behind the lines of the words before them [B6, C5]
unfoldable pub lines_after : (part : ℕ → ℕ) (lines : ℕ) → List ℕ → ℕ
lines_after part lines [] = lines
lines_after part lines (w ∷ ws) = lines_after part (lines * 256 + word_part part w) ws

-- computed: the same of four words; 0 for another count [B6, C5]
unfoldable pub part_of : (part : ℕ → ℕ) → List ℕ → ℕ
part_of part words = cond (eqb (length words) 4) (lines_after part 0 words) 0

-- computed: the only pattern that some words can stand for [B6, C5]
abbrev pub decoded : List ℕ → Pattern
decoded words = record { target = part_of nibble_target words; mask = part_of nibble_mask words }

-- computed: the pattern that writes the words, its target cut, if there is one; theorem read_means [B6, C5, C7, F16]
unfoldable pub read_term : List ℕ → Option Pattern
read_term words = then_some (same words (words_of (decoded words))) (decoded words)

-- a pattern, its target cut to its mask, that writes these words [C5, C7]
pub record Writes (words : List ℕ) (target mask : ℕ) : Type 0 where
  pub written : words ≡ term_words target mask
  pub cut : bit_and target mask ≡ target
  pub target_fits : target < 2 ^ 32
  pub mask_fits : mask < 2 ^ 32

-- what an answer says: this pattern writes the words, or none does [C5, C6, F16]
abbrev pub ReadMeans : List ℕ → Option Pattern → Type 0
ReadMeans words (Some p) = Writes words p.target p.mask
ReadMeans words None = (target mask : ℕ) → target < 2 ^ 32 → mask < 2 ^ 32 → words ≡ term_words target mask → ⊥

-- the refusal number for each answer: 16 where no pattern writes the words, 0 for a pattern [A5, F16]
abbrev pub read_number : Option Pattern → ℕ
read_number (Some p) = 0
read_number None = 16

-- its place, counted from the item's own first byte, where its select stands [A5, F16]
abbrev pub read_place : Option Pattern → ℕ
read_place r = 0
