-- One section more is counted at each turn.
use Rattle.std.proofs.Common.{length, length-append, zero-add, ap, ◌∙◌, arith}
use Rattle.reader.specs.Taking.{part_of}
use Rattle.reader.proofs.Keeping.{parts_from_law, parts_none}
use Rattle.reader.proofs.write.sheet_size.Goals as goal

pub loop-section-init : goal.loop-section-init
loop-section-init c = (omega arith, zero-add _)

pub loop-section-preserved : goal.loop-section-preserved
loop-section-preserved c =
    let room = c.args.room.now in
    let l = c.loop-section in
    let next = ap length (parts_from_law room l.section c.loop-section-test.true) ∙ length-append (part_of l.section room) _ in
    (omega (arith, c.part.ensures.1), omega (arith, ap length c.part.ensures.0, next, l.invariant.1))

pub returns : goal.returns
returns c = omega (arith, ap length (parts_none c.args.room.now c.loop-section.section c.loop-section-test.false), c.loop-section.invariant.1)
