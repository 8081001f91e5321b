-- All of the examples that are to be proved hold: one statement, computed. Assumes nothing.
use lib.Count.{ones}
use lib.Dec.{T}
use Rattle.lines.specs.Line.{flip_line, over_lines}
use Rattle.lines.specs.Gather.{gathered, scattered, drop_lowest}
use Rattle.peek.specs.Bytes.{u32_at}
use Rattle.compare.specs.Within.{all_within}
use Rattle.compare.specs.Same.{same}
use Rattle.lut.specs.Table.{table_of, down}
use Rattle.term.specs.Words.{nibble_table, chain_word, term_words}
use Rattle.range.specs.Rule.{range_hit, range_fault}
use Rattle.range.specs.Words as range
use Rattle.range.specs.Model.{model_hit, chain_carry, carry_from}
use Rattle.range.specs.Description as range_kind
use Rattle.range_telling.specs.Description as range_telling_kind
use Rattle.range_telling.specs.Reduce.{reduce_from, reduce_of}
use Rattle.range_telling.specs.Telling.{turn_value, turn_sample, tell_line, first_differ, tell_masks, tell_bounds, tell_reduced, range_telling}
use Rattle.edge.specs.Words.{pair_table}
use Rattle.kinds.specs.Table.{name_of, telling_of}
use Rattle.records.specs.Sections.{field_bytes, kind_of, most_of, description_size, description_fault}
use Rattle.records.specs.Records.{records_from, find}
use Rattle.sheet.specs.Reading.{among, record_fault, records_verdict, count_verdict, section_verdict, sections_verdict, verdict}
use Rattle.sheet.specs.Parsed.{joined, render, sections_from, parse}
use Rattle.findings.specs.Findings.{shared_lines, slot_lines, lines_from, sections_lines, notice_lines}
use Rattle.notice.specs.Text as text
use Rattle.notice.specs.Notice.{notice_text}
use Rattle.demands.specs.Bench.{sheet_with, holds, all_hold, bench}

pub bench_holds : T (all_hold bench)
unfolding all_hold holds bench sheet_with same gathered scattered drop_lowest flip_line term_words chain_word nibble_table table_of down range_hit range_fault ones over_lines range.sent_words range.chain_words range.lower_value range.upper_value model_hit chain_carry carry_from reduce_from reduce_of turn_value turn_sample tell_line first_differ tell_masks tell_bounds tell_reduced range_telling pair_table field_bytes u32_at all_within render joined parse sections_from records_from kind_of description_size most_of description_fault range_kind.fault range_telling_kind.telling among record_fault records_verdict count_verdict section_verdict sections_verdict verdict find name_of telling_of notice_text notice_lines sections_lines lines_from slot_lines shared_lines text.render text.render_all
bench_holds = tt
