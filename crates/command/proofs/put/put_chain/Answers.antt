-- `command::put_chain` meets its contract. The loop's invariant: the load commands of the words from `i` on are still to be
-- written from `at` on.
-- Assumes nothing.
use Prim.Native.Nat.{ℕ, zero-le, ◌-◌}
use mathlib.Core.Path.{refl, sym, ap, ◌∙◌}
use mathlib.Core.List.{List, []}
use lib.ListN.{length, get_or}
use native.Mathlib.Omega.{arith}
use Rattle.buffer.proofs.Writing.{wrote, too_short, filled, fill_append, Pending, pending_start, pending_step, pending_end}
use Rattle.command.specs.Command.{select_op, load_op, command, loads, chain}
use Rattle.command.proofs.Written.{length_loads, length_chain, loads_from, loads_end}
use Rattle.command.proofs.put.put_chain.Goals as goal

pub returns-then-out-needed : goal.returns-then-out-needed
returns-then-out-needed c =
    let a = c.args in
    too_short _ _ _ c.if-out-needed.true (sym (length_chain a.address a.words.now))

pub loop-i-init : goal.loop-i-init
loop-i-init c =
    let ws : List ℕ = c.args.words.now in
    (zero-le, pending_start 5 (loads ws) _ (rw (length_loads ws) (omega arith)))

pub overflow_add-at : goal.overflow_add-at
overflow_add-at c =
    let ws : List ℕ = c.args.words.now in
    let l = c.loop-i in
    omega (arith, ap length (loads_from ws l.i (omega arith)))

pub loop-i-preserved : goal.loop-i-preserved
loop-i-preserved c =
    let ws : List ℕ = c.args.words.now in
    let l = c.loop-i in (
      omega arith,
      pending_step _ _ l.at _ _ (command load_op (get_or ws l.i 0)) _ l.out _ _ (loads_from ws l.i (omega arith)) refl l.invariant.1 c.put_command-in-loop-i.ensures,
    )

pub shape_of-out : goal.shape_of-out
shape_of-out c = omega arith

pub returns : goal.returns
returns c =
    let a = c.args in
    let ws : List ℕ = a.words.now in
    let l = c.loop-i in
    let first : List ℕ = command select_op a.address in
    let begun = filled first a.out.now _ _ (omega arith) c.put_command.ensures in
    let done : Pending _ _ l.at [] l.out = rw (loads_end ws l.i (omega arith)) at l.invariant.1 in
    wrote (chain a.address ws) a.out.now _ _ (rw (length_chain a.address ws) (omega arith)) (sym (length_chain a.address ws))
    (pending_end _ _ _ _ done ∙ rw begun (sym (fill_append first (loads ws) a.out.now)))
