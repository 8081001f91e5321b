-- The sections before the current one are found.
use Rattle.sheet.proofs.Laid.{Laid}
use Rattle.sheet.proofs.parts.lay_out.Given as goal

abbrev pub invariant-loop-section : goal.invariant-loop-section
invariant-loop-section l = Laid l.sheet l.starts l.sizes l.at l.section
