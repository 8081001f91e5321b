-- `compare::same_bytes` meets its contract: the first eight and the last eight are all, or each is looked at.
-- Assumes nothing.
use mathlib.Core.Path.{sym, ap₂, ◌∙◌}
use Prim.Native.Nat.{◌-◌, ◌≤◌}
use native.Mathlib.Omega.{arith}
use lib.ListN.{length, length-drop}
use lib.Seq.{length-take-le}
use Rattle.compare.specs.Same.{same}
use Rattle.compare.proofs.Compare.{same_lengths, same_ends}
use Rattle.compare.proofs.same.same_bytes.Goals as goal

pub returns-then-a-b : goal.returns-then-a-b
returns-then-a-b c = sym (same_lengths _ _ c.if-a-b.true)

pub eight_same-first_same-requires : goal.eight_same-first_same-requires
eight_same-first_same-requires c =
    let a = c.args in
    (rw c.prefix.ensures (length-take-le 8 a.a.now (omega arith)), rw c.prefix-2.ensures (length-take-le 8 a.b.now (omega arith)))

pub eight_same-requires : goal.eight_same-requires
eight_same-requires c = (rw (c.suffix.ensures, length-drop) (omega arith), rw (c.suffix-2.ensures, length-drop) (omega arith))

pub returns : goal.returns
returns c =
    let a = c.args in
    let few : length a.a.now ≤ 16 = c.if-a-gt16.false in
    let front = c.eight_same-first_same.ensures ∙ ap₂ same c.prefix.ensures c.prefix-2.ensures in
    let back = c.eight_same.ensures ∙ ap₂ same c.suffix.ensures c.suffix-2.ensures in
    same_ends a.a.now a.b.now 8 (length a.a.now - 8) _ _ (omega (arith, few)) front back
