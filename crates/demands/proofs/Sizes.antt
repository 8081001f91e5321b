-- The greatest lengths, each reached, and that each is room enough. Assumes nothing.
use Prim.Native.Nat.{ℕ, zero, suc, ◌+◌, ◌≤◌}
use mathlib.Core.Path.{◌≡◌, refl, ◌∙◌}
use mathlib.Core.List.{List, [], ◌∷◌, ◌++◌}
use native.Mathlib.Omega.{arith}
use borrow.Author.Tests.{le-leb}
use lib.Count.{ones, count_trailing_zeros}
use lib.ListN.{length, take, replicate}
use Rattle.peek.specs.Bytes.{Bytes, u32_at}
use Rattle.compare.specs.Within.{all_within}
use Rattle.buffer.specs.Room.{Delivered}
use Rattle.buffer.specs.declared.Outcome.{Outcome}
use Rattle.buffer.proofs.Writing.{answered}
use Rattle.buffer.specs.declared.Verdict.TheVariants.{Accepted}
use Rattle.lines.specs.Line.{flip_line, over_lines}
use Rattle.lines.specs.Gather.{gathered, scattered, drop_lowest}
use Rattle.compare.specs.Same.{same}
use Rattle.records.specs.Sections.{label_size, field_bytes, kind_of, most_of, description_size, description_fault}
use Rattle.sheet.specs.Reading.{among, record_fault, records_verdict, count_verdict, section_verdict, sections_verdict, verdict}
use Rattle.records.specs.Records.{records_from, find}
use Rattle.sheet.specs.Parsed.{joined, render, longest_from, longest_sheet, sections_from, parse}
use Rattle.sheet.proofs.Examples.{full}
use Rattle.sheet.proofs.Theorems as sheet
use Rattle.term.specs.Telling.{term_telling}
use Rattle.range.specs.Rule.{range_fault, range_hit}
use Rattle.range_telling.specs.Reduce.{reduce_from, reduce_of}
use Rattle.range_telling.specs.Telling.{turn_value, turn_sample, tell_line, first_differ, tell_masks, tell_bounds, tell_reduced, range_telling}
use Rattle.edge.specs.Telling.{without, tell_by}
use Rattle.findings.specs.Findings.{shared_lines, slot_lines, lines_from, sections_lines, notice_lines}
use Rattle.notice.specs.Text as text
use Rattle.notice.specs.Notice.{notice_text, slot_most, most_text, longest_notice, NoticeGiven}
use Rattle.notice.specs.declared.Noticed.{Noticed}
use Rattle.compiler.specs.Stream.{stream_of, longest_by, longest_stream, compiled}
use Rattle.compiler.specs.Items.{size_of, item_size}
use Rattle.reader.specs.Judging.{stream_verdict}
use Rattle.reader.specs.Back.{sheet_in, read_back}
use Rattle.reader.proofs.Theorems as reader
use Rattle.compiler.proofs.Theorems as compiler
use Rattle.notice.proofs.Lengths as notice
use Rattle.kinds.specs.Table.{name_of, telling_of, chain_count, chain_length, lengths_of}
use Rattle.range_telling.specs.Description as range_telling_kind
use Rattle.edge.specs.Description as edge_kind
use Rattle.term.specs.Description as term_kind
use Rattle.range.specs.Description as range_kind
use Rattle.sum.specs.Description as sum_kind
use Rattle.sum.specs.Words.{words_of}
use Rattle.sum.specs.Model.{inputs_of, sum_hit}
use Rattle.sum_telling.specs.Description as sum_telling_kind
use Rattle.sum_telling.specs.Telling.{first_from, least_pattern, sum_telling}
use Rattle.state.specs.Description as state_kind

-- n records from slot s on with this description, each with a label byte of its own throughout, from this one on
slots : (n s label : ℕ) (d : List ℕ) → List (List ℕ)
slots zero s label d = []
slots (suc n) s label d = (s ∷ (replicate label_size label ++ d)) ∷ slots n (s + 1) (label + 1) d

-- every slot of every section is taken, and every label and every description differs
pub older : List ℕ
older =
    render
    (slots 10 0 0x20 (field_bytes (0 ∷ 1 ∷ []))
    ∷ slots 2 0 0x20 (field_bytes (1 ∷ 1 ∷ 1 ∷ []))
    ∷ slots 2 0 0x20 (field_bytes (1 ∷ 0 ∷ 0 ∷ []))
    ∷ slots 48 0 0x20 (replicate 11 0)
    ∷ slots 16 0 0x20 (replicate 13 0)
    ∷ [])

pub newer : List ℕ
newer =
    render
    (slots 10 0 0x21 (field_bytes (1 ∷ 1 ∷ []))
    ∷ slots 2 0 0x21 (field_bytes (1 ∷ 2 ∷ 3 ∷ []))
    ∷ slots 2 0 0x21 (field_bytes (0 ∷ 1 ∷ 0 ∷ []))
    ∷ slots 48 0 0x21 (replicate 11 1)
    ∷ slots 16 0 0x21 (field_bytes (1 ∷ []) ++ replicate 9 1)
    ∷ [])

-- no notice is longer than 2,412 bytes, and one of two accepted sheets is as long [N11]
pub longest_notice_law : (old new : List ℕ) → length (notice_text old new) ≤ 2412
unfolding most_text slot_most most_of kind_of
longest_notice_law = notice.at_most

pub longest_notice_reached : length (notice_text older newer) ≡ 2412
unfolding field_bytes slots older newer render joined parse sections_from records_from kind_of description_size most_of find same u32_at notice_text notice_lines sections_lines lines_from slot_lines shared_lines name_of telling_of term_kind.telling range_telling_kind.telling edge_kind.telling sum_telling_kind.telling sum_telling least_pattern first_from sum_hit inputs_of words_of text.render text.render_all term_telling count_trailing_zeros range_telling tell_reduced tell_bounds tell_masks first_differ tell_line turn_sample turn_value reduce_of reduce_from gathered scattered drop_lowest flip_line range_hit tell_by without
longest_notice_reached = refl

pub longest_notice_sheets : (verdict older ≡ Accepted) × (verdict newer ≡ Accepted)
unfolding field_bytes slots older newer render joined kind_of description_size most_of description_fault term_kind.fault range_kind.fault edge_kind.fault sum_kind.fault state_kind.fault u32_at all_within range_fault ones over_lines among same record_fault records_verdict count_verdict section_verdict sections_verdict verdict
longest_notice_sheets = (refl, refl)

-- no accepted sheet is longer than 1,571 bytes, and one is as long [S8]
pub longest_sheet_law : (s : List ℕ) → verdict s ≡ Accepted → length s ≤ 1571
unfolding longest_from most_of description_size kind_of
longest_sheet_law = sheet.at_most

pub longest_sheet_reached : (verdict full ≡ Accepted) × (length full ≡ 1571)
unfolding longest_from most_of description_size kind_of
longest_sheet_reached = sheet.one_has

-- no sheet makes more than 2,520 bytes of commands, and a full one makes as many [W18]
pub most_commands : (s : List ℕ) → verdict s ≡ Accepted → length (stream_of (parse s)) ≤ 2520
unfolding longest_by most_of item_size size_of lengths_of chain_count chain_length kind_of
most_commands = compiler.at_most

pub most_commands_reached : (verdict full ≡ Accepted) × (length (stream_of (parse full)) ≡ 2520)
unfolding longest_by most_of item_size size_of lengths_of chain_count chain_length kind_of
most_commands_reached = compiler.full_has

-- a program that reads this much of a file judges all of it
pub enough_of_a_sheet : (s : List ℕ) → verdict (take (longest_sheet + 1) s) ≡ verdict s
enough_of_a_sheet = sheet.enough

-- ---- room enough, whatever is handed in: what is refused needs none (Demand1), what is accepted is written [A9]

-- for every sheet that is compiled [A9, W18]
pub room_for_every_stream : (s room : List ℕ) (r : Outcome) (room' : List ℕ) → longest_stream ≤ length room → Delivered (compiled s) room r room'
    → verdict s ≡ Accepted → r ≡ Outcome.Done (length (stream_of (parse s)))
room_for_every_stream s room r room' fits d ok =
    (compiler.accepted_written s room r room' ok (omega (arith, fits, compiler.at_most s ok)) d).0

-- for every stream that is read [A9, S8]
pub room_for_every_sheet : (stream room : List ℕ) (r : Outcome) (room' : List ℕ) → Bytes stream → longest_sheet ≤ length room
    → Delivered (read_back stream) room r room' → stream_verdict stream ≡ Accepted → r ≡ Outcome.Done (length (render (sheet_in stream)))
room_for_every_sheet stream room r room' b fits d ok =
    let back = render (sheet_in stream) in
    answered back room r room' (omega (arith, fits, sheet.at_most back (reader.read_accepted stream b ok))) (rw ok at d)

-- room for the notice of two accepted sheets is enough for it [A3]
pub room_for_this_notice : (old new out : List ℕ) (r : Noticed) (out' : List ℕ) → length (notice_text old new) ≤ length out
    → NoticeGiven old new out r out' → verdict old ≡ Accepted → verdict new ≡ Accepted → r ≡ Noticed.Done (length (notice_text old new))
room_for_this_notice old new out r out' fits g a e = g.answer ∙ simp (a, e, le-leb (length (notice_text old new)) (length out) fits)

-- for every notice [A9, N11]
pub room_for_every_notice : (old new out : List ℕ) (r : Noticed) (out' : List ℕ) → longest_notice ≤ length out → NoticeGiven old new out r out'
    → verdict old ≡ Accepted → verdict new ≡ Accepted → r ≡ Noticed.Done (length (notice_text old new))
room_for_every_notice old new out r out' fits = room_for_this_notice old new out r out' (omega (arith, fits, notice.at_most old new))
