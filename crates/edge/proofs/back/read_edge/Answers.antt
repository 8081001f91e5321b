-- `edge::back::read_edge` meets its contract: the candidate is refused by the tests that the definition makes.
-- Assumes nothing.
use Rattle.std.proofs.Common.{sym, arith}
use Rattle.std.proofs.lemmas.Grind.{common_steps}
use Rattle.edge.proofs.ReadingBack.{read_short, read_meets}
use Rattle.edge.proofs.back.read_edge.Goals as goal

pub returns-then-words-ne8 : goal.returns-then-words-ne8
returns-then-words-ne8 c = read_meets _ _ (sym (read_short _ c.if-words-ne8.true))

pub returns : goal.returns
returns c = read_meets c.args.words.now c.then_some.result (grind (arith, common_steps))
