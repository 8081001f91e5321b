-- One section more is written at each turn.
use Rattle.std.proofs.Common.{◌+◌, [], length, length-append, ap, ◌∙◌, arith}
use Rattle.buffer.proofs.Writing.{wrote, too_short, delivers, Pending, pending_start, pending_step, pending_end}
use Rattle.kinds.specs.Table.{sections}
use Rattle.reader.specs.Taking.{part_of, parts_from}
use Rattle.reader.proofs.Keeping.{parts_from_law, parts_none}
use Rattle.reader.proofs.write.put_sheet.Goals as goal

pub returns-then-out-needed : goal.returns-then-out-needed
returns-then-out-needed c = too_short _ _ _ c.if-out-needed.true c.sheet_size-needed.ensures

pub loop-section-init : goal.loop-section-init
loop-section-init c = pending_start 0 (parts_from sections 0 c.args.room.now) _ (omega (arith, c.sheet_size-needed.ensures))

pub overflow_add-at : goal.overflow_add-at
overflow_add-at c =
    let room = c.args.room.now in
    let l = c.loop-section in
    let next = ap length (parts_from_law room l.section c.loop-section-test.true) ∙ length-append (part_of l.section room) _ in
    omega (arith, ap length c.part-bytes.ensures.0, next, l.invariant.room)

pub loop-section-preserved : goal.loop-section-preserved
loop-section-preserved c =
    let room = c.args.room.now in
    let l = c.loop-section in
    let part = c.part-bytes.ensures.0 in
    pending_step _ _ _ _ _ (part_of l.section room) _ _ _ _ (parts_from_law room l.section c.loop-section-test.true)
    (ap (λ bs. l.at + length bs) part) l.invariant (delivers part c.put_bytes.ensures)

pub returns : goal.returns
returns c =
    let room = c.args.room.now in
    let l = c.loop-section in
    let size = c.sheet_size-needed.ensures in
    let done : Pending _ _ _ [] l.out = rw (parts_none room l.section c.loop-section-test.false) at l.invariant in
    wrote (parts_from sections 0 room) c.args.out.now _ _ (omega (arith, c.if-out-needed.false)) size (pending_end _ _ _ _ done)
