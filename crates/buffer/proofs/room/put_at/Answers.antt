-- `buffer::put_at` meets its contract: the rest of the room from `at` on is lent to `put_bytes`.
-- Assumes nothing.
use Prim.Native.Nat.{◌+◌, ◌≤◌}
use native.Mathlib.Omega.{arith}
use mathlib.Core.Path.{refl}
use lib.ListN.{length}
use Rattle.buffer.proofs.Writing.{lent, put_fits, put_short}
use Rattle.buffer.proofs.room.put_at.Goals as goal

pub returns-then-out-at : goal.returns-then-out-at
returns-then-out-at c = put_short _ _ _ (omega arith)

pub returns-then-out-at-2 : goal.returns-then-out-at-2
returns-then-out-at-2 c = put_short _ _ _ (omega arith)

pub returns : goal.returns
returns c =
    let a = c.args in
    let fits : a.at + length a.text.now ≤ length a.out.now = omega arith in
    put_fits _ _ _ _ _ fits
    (record { next = refl; left = lent a.at a.text.now a.out.now _ _ fits c.put_bytes.ensures })
