-- What the words before i say and what is left says is what all of them say.
use Rattle.term.proofs.Stepping.{Asked}
use Rattle.term.proofs.model.run_term.Given as goal

abbrev pub invariant-loop-i : goal.invariant-loop-i
invariant-loop-i l = Asked l.words l.sample l.i l.hit
