-- `edge::run_edge` meets its contract: what the first words say and what is left says is what all of them say. Assumes nothing.
use Rattle.std.proofs.Common.{◌%◌, eqb}
use Rattle.edge.proofs.WordLaws.{Asked}
use Rattle.edge.proofs.model.run_edge.Given as goal

abbrev pub invariant-loop-i : goal.invariant-loop-i
invariant-loop-i l = Asked l.words l.earlier l.later l.i (eqb (l.any % 2) 1)
