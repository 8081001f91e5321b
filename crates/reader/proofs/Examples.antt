-- Streams worked out: each refusal 13 to 16 with its place, and which of two wins. One table, computed. Assumes
-- nothing.
use Prim.Native.Nat.{ℕ, ◌-◌, ◌<◌}
use mathlib.Core.Path.{◌≡◌, refl}
use mathlib.Core.Bool.{Bool, true, false, ◌&&◌}
use mathlib.Core.List.{List, [], ◌∷◌, ◌++◌}
use lib.Count.{ones, count_trailing_zeros}
use lib.Dec.{T, eqb}
use lib.ListN.{length, take, replicate}
use Rattle.lines.specs.Line.{over_lines, from_lines}
use Rattle.lines.specs.Gather.{gathered, scattered}
use Rattle.compare.specs.Same.{same}
use Rattle.lut.specs.Table.{table_of, down}
use Rattle.peek.specs.Bytes.{u32_at}
use Rattle.compare.specs.Within.{all_within}
use Rattle.buffer.specs.Room.{bytes}
use Rattle.buffer.specs.declared.Verdict.{Verdict}
use Rattle.buffer.specs.declared.Verdict.TheVariants.{Accepted, Refused}
use Rattle.command.specs.Command.{select_op, load_op, command, loads, chain}
use Rattle.command.specs.Reading.{command_verdict, loads_verdict, words_in}
use Rattle.command.proofs.Checked.{command_short}
use Rattle.term.specs.Words as Term-words
use Rattle.term.specs.Back.{nibble_mask, word_part, lines_after, part_of, read_term}
use Rattle.range.specs.Words as range_words
use Rattle.range.specs.Back.{lines_with, chain_bound, read_range}
use Rattle.edge.specs.Words as edge_words
use Rattle.edge.specs.Back.{covers, wish_from}
use Rattle.sum.specs.Operation.{op_code}
use Rattle.sum.specs.Back.{codes_of}
use Rattle.records.specs.Sections.{sections, label_size, kind_of, most_of}
use Rattle.sheet.specs.Parsed.{joined, render}
use Rattle.compiler.specs.Items.{address_of, lengths_of, size_of, item_size}
use Rattle.compiler.specs.Chains.{words_read}
use Rattle.kinds.specs.Table.{slot_from, slot_at, section_from, section_at}
use Rattle.reader.specs.Judging.{description_read, description_in, first_verdict, chains_verdict, item_verdict, step_size, rests_from, rests, items_verdict, stream_verdict}
use Rattle.reader.specs.Back.{label_for, record_in, records_of, sections_of, sheet_in, read_back}
use Rattle.reader.proofs.Cutting.{rests_some}
use Rattle.kinds.specs.Table.{TERMS, RANGES, EDGES, SUMS, STATES, letter_of, chain_count, chain_length}
use Rattle.peek.specs.Fields.{field_bytes}
use Rattle.term.specs.Description as term_kind
use Rattle.range.specs.Description as range_kind
use Rattle.edge.specs.Description as edge_kind
use Rattle.sum.specs.Description as sum_kind
use Rattle.state.specs.Description as state_kind
use Rattle.state.specs.Back.{state_of, bits_from}

-- ---- any stream of 1 to 4 bytes: 13 at 0

pub short_stream : (s : List ℕ) → 0 < length s → length s < 5 → stream_verdict s ≡ Refused 13 0
unfolding stream_verdict items_verdict item_verdict first_verdict
short_stream s h l = rw (rests_some s h, command_short select_op 0 s l)

-- ---- the words are those of the examples: term 1, target 5 and mask 0xF; range 0, 3 to 9 with mask 0xF [E1, E3]

pub term : List ℕ
term = chain 0x21 (0xFFFFFFFF ∷ 0xFFFFFFFF ∷ 0xFFFFFFFF ∷ 0xFFFF0020 ∷ [])

-- two states, the first and the last, with a word that has every bit
pub first : List ℕ
first = chain 0x00 (0xFFFFFFFF ∷ [])

pub last : List ℕ
last = chain 0x0F (0 ∷ [])

-- fourteen words FFFFFFFF, and two more
pub ends : ℕ → ℕ → List ℕ
ends x y = replicate 14 0xFFFFFFFF ++ (x ∷ y ∷ [])

pub lower : List ℕ
lower = chain 0x30 (ends 0x55555555 0xAAAA5555)

pub upper : List ℕ
upper = chain 0x31 (ends 0xAAAA5555 0x5555AAAA)

-- what an example says: this stream gets this verdict
pub record Example : Type 0 where
  pub stream : List ℕ
  pub expected : Verdict

pub gives : List ℕ → Verdict → Example
gives s v = record { stream = s; expected = v }

agree : Verdict → Verdict → Bool
agree Accepted Accepted = true
agree Accepted (Refused number place) = false
agree (Refused number place) Accepted = false
agree (Refused number place) (Refused n p) = eqb number n && eqb place p

pub all_hold : List Example → Bool
all_hold [] = true
all_hold (e ∷ es) = agree (stream_verdict e.stream) e.expected && all_hold es

pub table : List Example
table =
    -- another command than the select that is due
    gives (command load_op 0x21) (Refused 14 0)
    -- addresses: no part 3, more than a byte, an upper chain that is not due, one met before
    ∷ gives (command select_op 0x43) (Refused 15 0)
    ∷ gives (command select_op 0x120) (Refused 15 0)
    ∷ gives upper (Refused 15 0)
    ∷ gives (term ++ term) (Refused 15 25)
    -- no state 16; a state behind a term, though its section is behind; two states that fall
    ∷ gives (command select_op 0x10) (Refused 15 0)
    ∷ gives (term ++ first) (Refused 15 25)
    ∷ gives (last ++ first) (Refused 15 10)
    -- inside an item: no word, half a word, a select where a word is due
    ∷ gives (take 20 term) (Refused 13 20)
    ∷ gives (take 24 term) (Refused 13 20)
    ∷ gives (take 20 term ++ lower) (Refused 14 20)
    -- a state has one word, no less and no more
    ∷ gives (command select_op 0x00) (Refused 13 5)
    ∷ gives (first ++ command load_op 0) (Refused 14 10)
    -- between a range's chains: the end, a word, another address than 31
    ∷ gives lower (Refused 13 85)
    ∷ gives (lower ++ command load_op 0) (Refused 14 85)
    ∷ gives (lower ++ command select_op 0x32) (Refused 15 85)
    -- a term's word one bit off; chains with different masks, behind a term
    ∷ gives (chain 0x21 (0xFFFFFFFF ∷ 0xFFFFFFFF ∷ 0xFFFFFFFF ∷ 0xFFFF0021 ∷ [])) (Refused 16 0)
    ∷ gives (term ++ (lower ++ chain 0x31 (ends 0xAAAA5555 0x5555FFFF))) (Refused 16 25)
    -- mask 0; a sum's first word with another high half than 0
    ∷ gives (chain 0x30 (replicate 16 0xFFFFFFFF) ++ chain 0x31 (replicate 16 0xFFFFFFFF)) (Refused 16 0)
    ∷ gives (chain 0x40 (0x10000 ∷ 0 ∷ 0 ∷ 0 ∷ 0 ∷ 0 ∷ [])) (Refused 16 0)
    -- an edge's table where a line asks for neither and rise, one bit off it, and where a line asks for all three
    ∷ gives (chain 0x34 (0 ∷ 0 ∷ 0 ∷ 0 ∷ 0 ∷ 0 ∷ 0 ∷ 0xAFAF ∷ [])) Accepted
    ∷ gives (chain 0x34 (0 ∷ 0 ∷ 0 ∷ 0 ∷ 0 ∷ 0 ∷ 0 ∷ 0xAFBF ∷ [])) (Refused 16 0)
    ∷ gives (chain 0x34 (0 ∷ 0 ∷ 0 ∷ 0 ∷ 0 ∷ 0 ∷ 0 ∷ 0xFFFF ∷ [])) (Refused 16 0)
    -- nothing to refuse
    ∷ gives (first ++ (last ++ (term ++ (lower ++ upper)))) Accepted
    ∷ []

pub examples : T (all_hold table)
unfolding all_hold agree gives table term first last ends lower upper stream_verdict items_verdict rests rests_from step_size item_verdict first_verdict chains_verdict description_in description_read term_kind.back range_kind.back edge_kind.back sum_kind.back state_kind.back state_of bits_from field_bytes words_read command_verdict loads_verdict words_in loads item_size size_of lengths_of chain_count chain_length address_of kind_of most_of section_at section_from slot_at slot_from u32_at read_term part_of lines_after word_part nibble_mask count_trailing_zeros table_of down Term-words.term_words Term-words.chain_word Term-words.nibble_table same read_range lines_with chain_bound from_lines gathered scattered ones range_words.sent_words range_words.chain_words range_words.lower_value range_words.upper_value covers wish_from over_lines edge_words.pair_table codes_of op_code all_within
examples = tt

-- ---- what is read

-- the stream of no bytes is read as a zero for each section [C8]
pub empty_stream : read_back [] ≡ bytes (replicate sections 0)
unfolding stream_verdict items_verdict rests rests_from sheet_in sections_of records_of render joined
empty_stream = refl

-- a label of this letter, these digits and spaces
pub labelled : (letter tens ones : ℕ) → List ℕ
labelled letter tens ones = letter ∷ tens ∷ ones ∷ replicate (label_size - 3) 0x20

-- the labels of the last slot of each section: T09, R01, E01, S47, Q15 [C7]
pub labels :
    (label_for TERMS 9 ≡ labelled 84 48 57)
    × (label_for RANGES 1 ≡ labelled 82 48 49)
    × (label_for EDGES 1 ≡ labelled 69 48 49)
    × (label_for SUMS 47 ≡ labelled 83 52 55)
    × (label_for STATES 15 ≡ labelled 81 49 53)
unfolding labelled letter_of kind_of
labels = (refl, refl, refl, refl, refl)

-- a state and a term, and the sheet that they are read as [C7, D2.5]
pub two_records : read_back (last ++ term)
    ≡ bytes (render (((1 ∷ (labelled 84 48 49 ++ field_bytes (5 ∷ 15 ∷ []))) ∷ []) ∷ [] ∷ [] ∷ [] ∷ ((15 ∷ (labelled 81 49 53 ++ replicate 13 0)) ∷ []) ∷ replicate (sections - 5) []))
unfolding labelled term last ends lower upper stream_verdict items_verdict rests rests_from step_size item_verdict first_verdict chains_verdict description_in description_read term_kind.back range_kind.back edge_kind.back sum_kind.back state_kind.back state_of bits_from field_bytes words_read command_verdict loads_verdict words_in loads item_size size_of lengths_of chain_count chain_length address_of kind_of most_of section_at section_from slot_at slot_from u32_at read_term part_of lines_after word_part nibble_mask count_trailing_zeros table_of down Term-words.term_words Term-words.chain_word Term-words.nibble_table same read_range lines_with chain_bound from_lines gathered scattered ones range_words.sent_words range_words.chain_words range_words.lower_value range_words.upper_value covers wish_from over_lines edge_words.pair_table codes_of op_code all_within record_in records_of sections_of sheet_in render joined letter_of
two_records = refl
