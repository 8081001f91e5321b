-- `start` meets its contract: theorem from_start. Assumes nothing.
use mathlib.Core.Path.{sym, subst}
use Rattle.findings.specs.Walk.{StartsAll}
use Rattle.findings.proofs.Walking.{from_start}
use Rattle.findings.proofs.walk.start.Goals as goal

pub returns : goal.returns
returns c = record { value = c.at_section.ensures; starts_all = subst StartsAll (sym c.at_section.ensures) from_start }
