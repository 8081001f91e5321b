-- `command::put_command` meets its contract: the opcode, then the number in the room behind it.
-- Assumes nothing.
use Prim.Native.Nat.{ℕ, ◌-◌, ◌≤◌}
use mathlib.Core.Path.{refl}
use mathlib.Core.List.{List, []}
use lib.ListN.{length, set, length-set}
use native.Mathlib.Omega.{arith}
use borrow.Rule.Slice.PartMut.{mid_of, put_mid}
use Rattle.buffer.specs.declared.Outcome.{Outcome}
use Rattle.peek.specs.Bytes.{u32_bytes}
use Rattle.buffer.specs.Room.{bytes, fill, Delivered}
use Rattle.buffer.proofs.Writing.{wrote, too_short, Pending, pending_start, pending_store, pending_step, pending_end}
use Rattle.command.specs.Command.{command}
use Rattle.command.proofs.put.put_command.Goals as goal

-- the opcode is stored, and the rest behind it is lent to the writer of the number: then nothing is left to be written
both : (op n : ℕ) (out : List ℕ) (r : Outcome) (out' : List ℕ) → 5 ≤ length out
    → Delivered (bytes (u32_bytes n)) (mid_of 1 (length (set out 0 op) - 1) (set out 0 op)) r out'
    → Pending out (fill (command op n) out) 5 [] (put_mid 1 (length (set out 0 op) - 1) (set out 0 op) out')
both op n out r out' h d =
    let begun : Pending out (fill (command op n) out) 0 (command op n) out = pending_start 0 (command op n) out h in
    pending_step _ _ 1 5 _ (u32_bytes n) [] (set out 0 op) r out' refl refl (pending_store _ _ 0 _ op (u32_bytes n) out refl begun) d

pub returns-then-out-lt-COMMAND_SIZE : goal.returns-then-out-lt-COMMAND_SIZE
returns-then-out-lt-COMMAND_SIZE c = too_short _ _ 5 c.if-out-lt-COMMAND_SIZE.true refl

pub slice_bounds-put_u32-count : goal.slice_bounds-put_u32-count
slice_bounds-put_u32-count c = simp length-set (omega arith)

pub slice_bounds-put_u32-start : goal.slice_bounds-put_u32-start
slice_bounds-put_u32-start c = simp length-set (omega arith)

pub shape_of-out : goal.shape_of-out
shape_of-out c =
    let a = c.args in
    (both a.op a.n a.out.now _ _ c.if-out-lt-COMMAND_SIZE.false c.put_u32.ensures).size

pub returns : goal.returns
returns c =
    let if1 = c.if-out-lt-COMMAND_SIZE in
    let a = c.args in
    let done = both a.op a.n a.out.now _ _ if1.false c.put_u32.ensures in
    wrote (command a.op a.n) a.out.now _ 5 if1.false refl (pending_end _ _ 5 _ done)
