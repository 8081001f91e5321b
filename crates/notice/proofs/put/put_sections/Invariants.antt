-- `put_sections` meets its contract: section by section. Assumes nothing.
use Rattle.notice.proofs.Across.{Going}
use Rattle.notice.proofs.put.put_sections.Given as goal

abbrev pub invariant-loop-section : goal.invariant-loop-section
invariant-loop-section l = Going l.sheets.old.now l.sheets.new.now l.sheets.olds l.sheets.news l.initial.out l.out l.at l.section
