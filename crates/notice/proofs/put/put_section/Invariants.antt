-- `put_section` meets its contract: line after line. Assumes nothing.
use Rattle.std.proofs.Common.{length}
use Rattle.buffer.proofs.Left.{Left}
use Rattle.findings.specs.Walk.{cursor_at, part_lines}
use Rattle.notice.specs.Text.{render_all}
use Rattle.notice.proofs.put.put_section.Given as goal

abbrev pub invariant-loop-line : goal.invariant-loop-line
invariant-loop-line l =
    Left l.from (render_all (part_lines l.old l.new (cursor_at l.section))) l.initial.out l.out l.at (render_all (part_lines l.old l.new l.here))

abbrev pub decreases-loop-line : goal.decreases-loop-line
decreases-loop-line l = length (part_lines l.old l.new l.here)
