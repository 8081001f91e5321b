-- `put_section` meets its contract: line after line. Assumes nothing.
use Rattle.buffer.proofs.Left.{left_room, left_turn, left_end}
use Rattle.findings.specs.Walk.{part_lines}
use Rattle.notice.proofs.Across.{text_end, text_found}
use Rattle.notice.proofs.put.put_section.Goals as goal

pub put_line-at-requires : goal.put_line-at-requires
put_line-at-requires c =
    left_room _ _ _ _ _ _ c.loop-line.invariant _ _
    (text_found (part_lines c.args.old.now c.args.new.now) c.loop-line.here _ c.in-Some.next c.in-Some.ensures.from_value)

pub loop-line-preserved : goal.loop-line-preserved
loop-line-preserved c =
    left_turn _ _ _ _ _ _ c.loop-line.invariant _ _ _ _
    (text_found (part_lines c.args.old.now c.args.new.now) c.loop-line.here _ c.in-Some.next c.in-Some.ensures.from_value) c.put_line-at.ensures

pub returns : goal.returns
returns c =
    left_end _ _ _ _ _ _ c.loop-line.invariant
    (text_end (part_lines c.args.old.now c.args.new.now) c.loop-line.here c.in_default.ensures.from_value)
