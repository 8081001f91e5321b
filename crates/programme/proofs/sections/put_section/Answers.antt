-- `put_section` meets its contract: each slot's entry fits, and then one is less to be written. Assumes nothing.
use Rattle.std.proofs.Common.{arith, ap}
use Rattle.kinds.specs.declared.Row.{Row}
use Rattle.programme.proofs.Filling.{filling_room, filling_turn, filling_end}
use Rattle.programme.proofs.sections.put_section.Goals as goal

pub overflow_add-at : goal.overflow_add-at
overflow_add-at c =
    omega (arith, filling_room _ _ _ _ _ _ _ _ _ c.loop-slot.invariant (rw c.row_of-row.ensures at c.loop-slot-test.true) c.record_with-rec.ensures, ap (λ (r : Row). r.entry) c.row_of-row.ensures)

pub loop-slot-preserved : goal.loop-slot-preserved
loop-slot-preserved c =
    rw c.row_of-row.ensures
    (filling_turn _ _ _ _ _ _ _ _ _ c.loop-slot.invariant (rw c.row_of-row.ensures at c.loop-slot-test.true) c.record_with-rec.ensures _ _ c.put_slot.ensures)

pub returns : goal.returns
returns c = filling_end _ _ _ _ _ _ _ _ c.loop-slot.invariant (rw c.row_of-row.ensures at c.loop-slot-test.false)
