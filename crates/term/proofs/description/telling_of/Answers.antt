use Rattle.term.specs.Description.{telling}
use Rattle.term.proofs.description.telling_of.Goals as goal

pub returns-clause-value : goal.returns-clause-value
unfolding telling
returns-clause-value c = rw (c.from_bytes.ensures, c.from_bytes-2.ensures) at c.term_telling.ensures.value
