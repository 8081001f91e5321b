-- `compare::eight_within` meets its contract. The loop's invariant: whether the bytes from i on are within.
-- Assumes nothing.
use native.Mathlib.Omega.{arith}
use mathlib.Core.Path.{◌≡◌, ◌∙◌, sym, ap}
use lib.ListN.{drop}
use Rattle.compare.specs.Within.{all_within}
use Rattle.compare.proofs.Within.{within_end, within_down}
use Rattle.compare.proofs.bounds.eight_within.Goals as goal

pub loop-i-init : goal.loop-i-init
loop-i-init c =
    let a = c.args in
    (omega arith, sym (within_end a.low a.high a.bytes.now 8 (omega (arith, c.requires))))

pub loop-i-preserved : goal.loop-i-preserved
loop-i-preserved c =
    let a = c.args in
    let l = c.loop-i in
    (omega arith, within_down a.low a.high a.bytes.now l.i _ _ (omega arith) (omega (arith, c.requires)) c.is_within-all.ensures l.invariant.1)

pub returns : goal.returns
returns c =
    let a = c.args in
    let l = c.loop-i in
    let none : l.i ≡ 0 = omega arith in
    l.invariant.1 ∙ ap (λ j. all_within a.low a.high (drop j a.bytes.now)) none
