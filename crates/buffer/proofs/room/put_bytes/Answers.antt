-- `buffer::put_bytes` meets its contract. The loop's invariant: the bytes from `i` on are still to be written.
-- Assumes nothing.
use Prim.Native.Nat.{ℕ, zero-le, ◌-◌}
use mathlib.Core.Path.{refl}
use mathlib.Core.List.{List, []}
use lib.ListN.{get_or, drop_of_length-le}
use lib.Seq.{drop-cons}
use native.Mathlib.Numerals.{add-one}
use native.Mathlib.Omega.{arith}
use Rattle.buffer.proofs.Writing.{wrote, too_short, Pending, pending_start, pending_store, pending_end}
use Rattle.buffer.proofs.room.put_bytes.Goals as goal

pub returns-then-out-src : goal.returns-then-out-src
returns-then-out-src c = too_short _ _ _ c.if-out-src.true refl

pub loop-i-init : goal.loop-i-init
loop-i-init c = (zero-le, pending_start 0 _ _ (omega arith))

pub loop-i-preserved : goal.loop-i-preserved
loop-i-preserved c = let l = c.loop-i in
    let s : List ℕ = c.args.src.now in
    (omega arith, pending_store _ _ l.i _ (get_or s l.i 0) _ l.out (rw (add-one, drop-cons s l.i 0 (omega arith))) l.invariant.1)

pub returns : goal.returns
returns c = let l = c.loop-i in
    let s : List ℕ = c.args.src.now in
    let done : Pending _ _ l.i [] l.out = rw (drop_of_length-le s {i = l.i} (omega arith)) at l.invariant.1 in
    wrote s _ _ _ (omega arith) refl (pending_end _ _ l.i l.out done)
