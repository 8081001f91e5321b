-- `buffer::put_u32` meets its contract: its four stores are the number, at the room's start.
-- Assumes nothing.
use mathlib.Core.Path.{refl}
use lib.ListN.{length-set}
use native.Mathlib.Omega.{arith}
use Rattle.peek.specs.Bytes.{u32_bytes}
use Rattle.buffer.proofs.Writing.{wrote, too_short, stored}
use Rattle.buffer.proofs.room.put_u32.Goals as goal

pub returns-then-out-lt4 : goal.returns-then-out-lt4
returns-then-out-lt4 c = too_short _ _ 4 c.if-out-lt4.true refl

pub bounds-out-1 : goal.bounds-out-1
bounds-out-1 c = simp length-set (omega arith)

pub bounds-out-2 : goal.bounds-out-2
bounds-out-2 c = simp length-set (omega arith)

pub returns : goal.returns
returns c = let a = c.args in
    wrote (u32_bytes a.n) a.out.now _ 4 c.if-out-lt4.false refl (stored (u32_bytes a.n) a.out.now c.if-out-lt4.false)
