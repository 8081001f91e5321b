-- `sum_telling::telling::sum_telling` meets its contract: each answer is a case of the definition, which says what it
-- should. Assumes nothing.
use Rattle.std.proofs.Common.{rules}
use Rattle.sum_telling.specs.Telling.{sum_telling}
use Rattle.sum_telling.proofs.Theorems.{telling_meets}
use Rattle.sum_telling.proofs.telling.sum_telling.Goals as goal

pub returns-then-least-lt-NONE : goal.returns-then-least-lt-NONE
unfolding sum_telling
returns-then-least-lt-NONE c = telling_meets c.args.old c.args.new _ (search rules)

pub returns-else-least-lt-NONE : goal.returns-else-least-lt-NONE
unfolding sum_telling
returns-else-least-lt-NONE c = telling_meets c.args.old c.args.new _ (search rules)
