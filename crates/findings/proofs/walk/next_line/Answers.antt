-- `next_line` meets its contract: section after section, up to the first line. Assumes nothing.
use Rattle.std.proofs.Common.{◌∙◌, ap, arith}
use Rattle.findings.specs.declared.Cursor.{Cursor}
use Rattle.findings.proofs.Walking.{lines_refused, lines_end, lines_turn, lines_found}
use Rattle.findings.proofs.walk.next_line.Goals as goal

pub returns-then-olds-ne0 : goal.returns-then-olds-ne0
returns-then-olds-ne0 c = lines_refused c.args.old.now c.args.new.now c.args.olds c.args.news c.args.from c.then-olds-ne0.either

pub returns-in-Some : goal.returns-in-Some
returns-in-Some c =
    c.loop-section.invariant.same ∙ lines_found _ _ _ _ c.if-olds-ne0.false c.if-news-ne0.false _ _ _
    c.part_by-a.ensures c.part_by-b.ensures _ c.loop-section.invariant.here _ _ c.in-Some.ensures.in_section c.in-Some.ensures.from_value

pub loop-section-preserved : goal.loop-section-preserved
loop-section-preserved c = record {
  here = ap (λ (d : Cursor). d.section) c.at_section-at.ensures;
  same = c.loop-section.invariant.same ∙ lines_turn _ _ _ _ c.if-olds-ne0.false c.if-news-ne0.false _ _ _
      c.part_by-a.ensures c.part_by-b.ensures _ c.loop-section.invariant.here c.in_default.ensures.from_value _ c.at_section-at.ensures;
}

pub returns : goal.returns
returns c = c.loop-section.invariant.same ∙ lines_end _ _ _ _ c.if-olds-ne0.false c.if-news-ne0.false _ (omega arith)
