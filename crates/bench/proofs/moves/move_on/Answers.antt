-- `move_on` meets its contract: by the hit sum, else by the else sum, else it stays. Assumes nothing.
use native.Mathlib.Omega.{arith}
use Rattle.bench.specs.Run.{hit_slot, else_slot, moved}
use Rattle.bench.proofs.Slots.{slot_is}
use Rattle.bench.proofs.moves.move_on.Goals as goal

pub returns-then-sum_at : goal.returns-then-sum_at
unfolding moved
returns-then-sum_at c = λ s e.
    let a = c.args in
    let hit = slot_is a.table.now (hit_slot a.state) _ _ s _ _ c.sum_at.ensures (omega arith) e c.if-sum_at.true in
    rw (hit, ← c.word_of-word.ensures) c.after_hit.ensures

pub returns-then-sum_at-2 : goal.returns-then-sum_at-2
unfolding moved
returns-then-sum_at-2 c = λ s e.
    let a = c.args in
    let miss = slot_is a.table.now (hit_slot a.state) _ _ s _ _ c.sum_at.ensures (omega arith) e c.if-sum_at.false in
    let other = slot_is a.table.now (else_slot a.state) _ _ s _ _ c.sum_at-2.ensures (omega arith) e c.if-sum_at-2.true in
    rw (miss, other, ← c.word_of-word.ensures) c.going.ensures

pub returns : goal.returns
unfolding moved
returns c = λ s e.
    let a = c.args in
    let miss = slot_is a.table.now (hit_slot a.state) _ _ s _ _ c.sum_at.ensures (omega arith) e c.if-sum_at.false in
    let other = slot_is a.table.now (else_slot a.state) _ _ s _ _ c.sum_at-2.ensures (omega arith) e c.if-sum_at-2.false in
    rw (miss, other) c.going-2.ensures
