-- Each test is a case of the definition.
use Rattle.std.proofs.Common.{arith}
use Rattle.std.proofs.lemmas.Bool.Decides.{nat_tests}
use Rattle.range_telling.specs.Telling.{turn_value}
use Rattle.range_telling.proofs.telling.turn_value.Goals as goal

pub returns-then-spans : goal.returns-then-spans
unfolding turn_value
returns-then-spans c = grind (arith, nat_tests)

pub returns-else-line_value-eq0 : goal.returns-else-line_value-eq0
unfolding turn_value
returns-else-line_value-eq0 c = grind (arith, nat_tests)

pub returns-then-spans-2 : goal.returns-then-spans-2
unfolding turn_value
returns-then-spans-2 c = grind (arith, nat_tests)

pub returns-else-line_value-eq1 : goal.returns-else-line_value-eq1
unfolding turn_value
returns-else-line_value-eq1 c = grind (arith, nat_tests)
