-- `compare::eight_same` meets its contract. The loop's invariant: whether the bytes from i on are the same.
-- Assumes nothing.
use mathlib.Core.Path.{◌≡◌, sym}
use native.Mathlib.Omega.{arith}
use Rattle.compare.proofs.Compare.{same_down, same_end}
use Rattle.compare.proofs.same.eight_same.Goals as goal

pub loop-i-init : goal.loop-i-init
loop-i-init c =
    let a = c.args in
    (omega arith, sym (same_end a.a.now a.b.now 8 (omega (arith, c.requires.0)) (omega (arith, c.requires.1))))

pub loop-i-preserved : goal.loop-i-preserved
loop-i-preserved c =
    let l = c.loop-i in
    (omega arith, same_down c.args.a.now c.args.b.now l.i l.all (omega arith) (omega (arith, c.requires.0)) (omega (arith, c.requires.1)) l.invariant.1)

pub returns : goal.returns
returns c =
    let l = c.loop-i in
    let none : l.i ≡ 0 = omega arith in
    rw none at l.invariant.1
