-- `is_room` meets its contract. Assumes nothing.
use native.Mathlib.Omega.{arith}
use Prim.Native.Nat.{◌+◌}
use borrow.Author.Tests.{lt-leb}
use Rattle.refusal.proofs.Room.{last_fits}
use Rattle.refusal.proofs.line.is_room.Goals as goal

pub returns-then-room-at : goal.returns-then-room-at
returns-then-room-at c =
    let a = c.args in
    simp (lt-leb (a.at + (a.bytes + (a.first + a.second))) a.room (omega arith))

pub returns-then-room-at-2 : goal.returns-then-room-at-2
returns-then-room-at-2 c =
    let a = c.args in
    simp (lt-leb (a.at + (a.bytes + (a.first + a.second))) a.room (omega arith))

pub returns-then-room-at-3 : goal.returns-then-room-at-3
returns-then-room-at-3 c =
    let a = c.args in
    simp (lt-leb (a.at + (a.bytes + (a.first + a.second))) a.room (omega arith))

pub returns : goal.returns
returns c =
    let a = c.args in
    last_fits a.room a.at a.bytes a.first a.second (omega arith) (omega arith) (omega arith)
