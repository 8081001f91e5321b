-- Each test is a case of the definition.
use Rattle.std.proofs.Common.{arith}
use Rattle.std.proofs.lemmas.Grind.{common_steps}
use Rattle.range_telling.specs.Telling.{tell_bounds}
use Rattle.range_telling.proofs.telling.tell_bounds.Goals as goal

pub returns-then-a-b : goal.returns-then-a-b
unfolding tell_bounds
returns-then-a-b c = grind (arith, common_steps)

pub returns-then-a-b-2 : goal.returns-then-a-b-2
unfolding tell_bounds
returns-then-a-b-2 c = grind (arith, common_steps)

pub returns : goal.returns
unfolding tell_bounds
returns c = grind (arith, common_steps)
