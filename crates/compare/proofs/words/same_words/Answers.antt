-- `compare::same_words` meets its contract: what the words from i on say is what all of them say.
-- Assumes nothing.
use mathlib.Core.Path.{sym, ◌∙◌}
use Prim.Native.Nat.{◌-◌}
use native.Mathlib.Omega.{arith}
use Rattle.compare.proofs.Compare.{same_lengths, same_more, same_differ, same_end}
use Rattle.compare.proofs.words.same_words.Goals as goal

pub returns-then-a-b : goal.returns-then-a-b
returns-then-a-b c = sym (same_lengths _ _ c.if-a-b.true)

pub returns-then-a-i : goal.returns-then-a-i
returns-then-a-i c =
    let at-loop = c.loop-i in
    sym (at-loop.invariant.2 ∙ same_differ _ _ at-loop.i (omega arith) (omega arith) c.if-a-i.true)

pub loop-i-preserved : goal.loop-i-preserved
loop-i-preserved c =
    let at-loop = c.loop-i in
    (omega arith, at-loop.invariant.1, at-loop.invariant.2 ∙ same_more _ _ at-loop.i (omega arith) (omega arith) c.if-a-i.false)

pub returns : goal.returns
returns c = sym (c.loop-i.invariant.2 ∙ same_end _ _ c.loop-i.i (omega arith) (omega arith))
