-- `compare::each_within` meets its contract. The loop's invariant: the bytes from i on decide the answer.
-- Assumes nothing.
use native.Mathlib.Omega.{arith}
use Prim.Native.Nat.{◌-◌}
use mathlib.Core.Path.{◌∙◌, refl, sym}
use Rattle.compare.proofs.Within.{within_not, within_next, within_end}
use Rattle.compare.proofs.bounds.each_within.Goals as goal

pub loop-i-init : goal.loop-i-init
loop-i-init c = (omega arith, refl)

pub returns-then-not-is_within : goal.returns-then-not-is_within
returns-then-not-is_within c =
    let a = c.args in
    let l = c.loop-i in
    sym (l.invariant.1 ∙ within_not a.low a.high a.bytes.now l.i (omega arith) _ c.is_within.ensures c.if-not-is_within.true)

pub loop-i-preserved : goal.loop-i-preserved
loop-i-preserved c =
    let a = c.args in
    let l = c.loop-i in
    (omega arith, l.invariant.1 ∙ within_next a.low a.high a.bytes.now l.i (omega arith) _ c.is_within.ensures c.if-not-is_within.false)

pub returns : goal.returns
returns c =
    let a = c.args in
    let l = c.loop-i in
    sym (l.invariant.1 ∙ within_end a.low a.high a.bytes.now l.i (omega arith))
