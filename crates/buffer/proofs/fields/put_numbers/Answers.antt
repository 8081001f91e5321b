-- `put_numbers` meets its contract. The loop's invariant: the numbers from `i` on are still to be written from `at` on.
-- Assumes nothing.
use Prim.Native.Nat.{ℕ, zero-le, ◌-◌}
use mathlib.Core.Path.{refl, sym, ap}
use mathlib.Core.List.{List, []}
use lib.ListN.{length, get_or}
use native.Mathlib.Omega.{arith}
use Rattle.peek.specs.Bytes.{u32_bytes}
use Rattle.buffer.proofs.Writing.{wrote, too_short, Pending, pending_start, pending_step, pending_end}
use Rattle.peek.specs.Fields.{field_bytes}
use Rattle.peek.proofs.FieldLaws.{fields_length}
use Rattle.peek.proofs.FieldLaws.{fields_from_law, fields_end}
use Rattle.buffer.proofs.fields.put_numbers.Goals as goal

pub returns-then-out-needed : goal.returns-then-out-needed
returns-then-out-needed c =
    let a = c.args in
    too_short _ _ _ c.if-out-needed.true (sym (fields_length a.numbers.now))

pub loop-i-init : goal.loop-i-init
loop-i-init c =
    let ns : List ℕ = c.args.numbers.now in
    (zero-le, pending_start 0 (field_bytes ns) _ (rw (fields_length ns) (omega arith)))

pub overflow_add-at : goal.overflow_add-at
overflow_add-at c =
    let ns : List ℕ = c.args.numbers.now in
    let l = c.loop-i in
    omega (arith, ap length (fields_from_law ns l.i (omega arith)))

pub loop-i-preserved : goal.loop-i-preserved
loop-i-preserved c =
    let ns : List ℕ = c.args.numbers.now in
    let l = c.loop-i in (
      omega arith,
      pending_step _ _ l.at _ _ (u32_bytes (get_or ns l.i 0)) _ l.out _ _ (fields_from_law ns l.i (omega arith)) refl l.invariant.1 c.put_u32.ensures,
    )

pub shape_of-out : goal.shape_of-out
shape_of-out c = omega arith

pub returns : goal.returns
returns c =
    let a = c.args in
    let ns : List ℕ = a.numbers.now in
    let l = c.loop-i in
    let done : Pending _ _ l.at [] l.out = rw (fields_end ns l.i (omega arith)) at l.invariant.1 in
    wrote (field_bytes ns) a.out.now _ _ (rw (fields_length ns) (omega arith)) (sym (fields_length ns)) (pending_end _ _ _ _ done)
