-- `put_section` walks over the slots, with a cursor into the section's records.
use Rattle.programme.proofs.Filling.{Filling}
use Rattle.programme.proofs.sections.put_section.Given as goal

abbrev pub invariant-loop-slot : goal.invariant-loop-slot
invariant-loop-slot l = Filling l.section l.from l.part l.initial.out l.out l.at l.i l.slot
