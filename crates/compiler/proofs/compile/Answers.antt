-- The sheet's refusal, or what is written for an accepted sheet.
use Rattle.buffer.proofs.Writing.{refused, accepted}
use Rattle.sheet.proofs.Laid.{found_accepted, found_refused}
use Rattle.compiler.proofs.compile.Goals as goal

pub returns-then-laid-ne0 : goal.returns-then-laid-ne0
returns-then-laid-ne0 c = refused _ _ _ _ _ (found_refused _ _ c.judge_parts-laid.ensures c.if-laid-ne0.true)

pub invariant_of-put : goal.invariant_of-put
invariant_of-put c =
    record { whole = (found_accepted _ _ c.judge_parts-laid.ensures c.if-laid-ne0.false, c.judge_parts-laid.ensures) }

pub returns : goal.returns
returns c = accepted _ _ _ _ _ (found_accepted _ _ c.judge_parts-laid.ensures c.if-laid-ne0.false) c.put.ensures
