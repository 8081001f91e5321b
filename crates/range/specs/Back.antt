-- The way back from words to a range: decode, encode again, compare.
-- A procedure, not a meaning: nothing that is marked computed has to be believed. What it answers is pinned by
-- `ReadMeans` below: read_means in proofs/Decode, words_read_back and accepted_iff_written in proofs/Theorems
-- [C5, D2.5, D2.6].
use Rattle.std.specs.Prelude.{◌≡◌, ℕ, ◌+◌, ◌-◌, ◌^◌, cond, ◌&&◌, Option, Some, None, List, length, take, drop, ◌==◌, ◌≢◌, count_ones, nat_le}
use Rattle.std.specs.Bool.{then_some}
use Rattle.lines.specs.Line.{from_lines}
use Rattle.lines.specs.Gather.{gathered}
use Rattle.compare.specs.Same.{same}
use Rattle.lut.specs.Table.{one_if}
use Rattle.range.specs.declared.Range.{Range}
use Rattle.range.specs.Rule.{RangeAccepted, Accepted}
use Rattle.range.specs.Words.{complement, sent_words, words_of}
use Rattle.range.specs.Model.{table_at}

-- computed: the lines of a chain that have this table [B6, C5]
unfoldable pub lines_with : (table : ℕ) (chain : List ℕ) → ℕ
lines_with table chain = from_lines 32 (λ i. one_if (table_at chain i == table))

-- computed: the masked lines of a chain, all whose table is not 0xFFFF [B6, C5, W7]
abbrev pub chain_mask : (chain : List ℕ) → ℕ
chain_mask chain = complement (lines_with 0xFFFF chain)

-- computed: the number whose NOT, in k bits, stands on a chain's masked lines: lower - 1, or upper [B6, C5, W8]
unfoldable pub chain_bound : (mask : ℕ) (chain : List ℕ) → ℕ
chain_bound mask chain = 2 ^ count_ones mask - 1 - gathered 32 (lines_with 0x5555 chain) mask

-- computed: the only range that 32 words can stand for [B6, C5]
abbrev pub decoded : (words : List ℕ) → Range
decoded words =
    record {
      lower = chain_bound (chain_mask (take 16 words)) (take 16 words) + 1;
      upper = chain_bound (chain_mask (take 16 words)) (drop 16 words);
      mask = chain_mask (take 16 words);
    }

-- computed: that range, if its bounds are in order and it writes these words [B6, C5]
abbrev pub read_as : (words : List ℕ) → Range → Option Range
read_as words r = then_some (nat_le r.lower r.upper && same words (words_of r)) r

-- computed: the accepted range that writes the words, if one does; theorem read_means [B6, C5, F16]
unfoldable pub read_range : (words : List ℕ) → Option Range
read_range words = cond (length words == 32) (read_as words (decoded words)) None

-- what an answer says: this accepted range writes the words, or none does [C5, C6, F16]
abbrev pub ReadMeans : (words : List ℕ) → Option Range → Type 0
ReadMeans words (Some r) = Accepted r × (words ≡ words_of r)
ReadMeans words None =
    (lower upper mask : ℕ) → RangeAccepted lower upper mask → words ≢ sent_words lower upper mask

-- the refusal number for each answer: 16 where no accepted range writes the words, 0 for a range [A5, F16]
abbrev pub read_number : Option Range → ℕ
read_number (Some r) = 0
read_number None = 16

-- its place, counted from the item's own first byte, where the lower chain's select stands [A5, F16]
abbrev pub read_place : Option Range → ℕ
read_place r = 0
