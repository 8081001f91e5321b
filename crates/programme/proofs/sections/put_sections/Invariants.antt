-- `put_sections` walks over the sections.
use Rattle.programme.proofs.Filling.{Going}
use Rattle.programme.proofs.sections.put_sections.Given as goal

abbrev pub invariant-loop-section : goal.invariant-loop-section
invariant-loop-section l = Going l.sheet l.initial.out l.out l.at l.section
