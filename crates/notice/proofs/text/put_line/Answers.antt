-- `put_line` meets its contract: three writers in a row. Assumes nothing.
use Rattle.std.proofs.Common.{◌≤◌, ap, arith, length}
use Rattle.buffer.proofs.Writing.{wrote_then}
use Rattle.notice.specs.Text.{render}
use Rattle.notice.proofs.Lines.{name_length, render_length}
use Rattle.notice.proofs.text.put_line.Goals as goal

pub put-at1-requires : goal.put-at1-requires
put-at1-requires c = rw c.row_of.ensures (omega (arith, name_length c.args.line.section, render_length c.args.line))

pub put-at2-requires : goal.put-at2-requires
put-at2-requires c =
    let n = rw c.row_of.ensures at c.put-at1.ensures.next in
    omega (arith, name_length c.args.line.section, render_length c.args.line, ap length c.slot_text-digits.ensures)

pub put_finding-requires : goal.put_finding-requires
put_finding-requires c =
    let n = rw c.row_of.ensures at c.put-at1.ensures.next in
    omega (arith, name_length c.args.line.section, render_length c.args.line, ap length c.slot_text-digits.ensures)

pub returns : goal.returns
unfolding render
returns c =
    let h : c.args.at ≤ length c.args.out.now = omega (arith, c.requires) in
    let w = wrote_then _ _ _ _ _ _ _ _ h (wrote_then _ _ _ _ _ _ _ _ h c.put-at1.ensures c.put-at2.ensures) c.put_finding.ensures in
    rw (c.row_of.ensures, c.slot_text-digits.ensures) at w
