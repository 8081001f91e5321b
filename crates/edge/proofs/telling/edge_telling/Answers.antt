-- `edge::telling::edge_telling` meets its contract: what the first search found, or what the other one finds. Assumes nothing.
use Rattle.std.proofs.Common.{rules}
use Rattle.edge.proofs.TellApart.{says}
use Rattle.edge.proofs.telling.edge_telling.Goals as goal

pub returns-in-Alike-clause-meaning : goal.returns-in-Alike-clause-meaning
returns-in-Alike-clause-meaning c = says _ _ _ (search rules)

pub returns-in_default-clause-meaning : goal.returns-in_default-clause-meaning
returns-in_default-clause-meaning c = says _ _ _ (search rules)
