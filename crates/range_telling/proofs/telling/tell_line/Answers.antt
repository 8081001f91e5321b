-- By the two hits of the sample.
use Rattle.range_telling.specs.Telling.{tell_line}
use Rattle.range_telling.proofs.telling.tell_line.Goals as goal

pub returns-then-hits : goal.returns-then-hits
unfolding tell_line
returns-then-hits c = rw (← c.turn_sample-s.ensures, ← c.hits.ensures, ← c.hits-2.ensures, c.if-hits.true) c.flip_line.ensures

pub returns : goal.returns
unfolding tell_line
returns c = rw (← c.turn_sample-s.ensures, ← c.hits.ensures, ← c.hits-2.ensures, c.if-hits.false)
