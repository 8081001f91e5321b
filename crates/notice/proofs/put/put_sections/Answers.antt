-- `put_sections` meets its contract: section by section. Assumes nothing.
use Rattle.std.proofs.Common.{arith}
use Rattle.notice.proofs.Across.{going_start, going_room, going_turn, going_end, text_of_all}
use Rattle.notice.proofs.put.put_sections.Goals as goal

pub loop-section-init : goal.loop-section-init
loop-section-init c =
    let s = c.args.sheets.now in
    let e = text_of_all _ _ _ _ s.old_accepted s.olds_laid s.new_accepted s.news_laid in
    going_start _ _ _ _ _ (rw e c.requires)

pub put_section-at-requires : goal.put_section-at-requires
put_section-at-requires c = rw (c.part_by-old.ensures, c.part_by-new.ensures) (going_room _ _ _ _ _ _ _ _ c.loop-section.invariant)

pub loop-section-preserved : goal.loop-section-preserved
loop-section-preserved c =
    going_turn _ _ _ _ _ _ _ _ c.loop-section.invariant (omega arith) _ _ (rw (c.part_by-old.ensures, c.part_by-new.ensures) at c.put_section-at.ensures)

pub returns : goal.returns
returns c =
    let s = c.args.sheets.now in
    let e = text_of_all _ _ _ _ s.old_accepted s.olds_laid s.new_accepted s.news_laid in
    rw e at (going_end _ _ _ _ _ _ _ _ c.loop-section.invariant (omega arith))
