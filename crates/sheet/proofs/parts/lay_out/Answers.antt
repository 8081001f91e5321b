-- One section more is found at each turn.
use Rattle.std.proofs.Common.{◌≡◌, ap, ◌∙◌, arith}
use Rattle.records.specs.Sections.{sections, section_size}
use Rattle.sheet.proofs.Laid.{laid_start, laid_fits, laid_on, laid_end}
use Rattle.sheet.proofs.parts.lay_out.Goals as goal

pub loop-section-init : goal.loop-section-init
loop-section-init c = laid_start _

pub overflow_add-starts : goal.overflow_add-starts
overflow_add-starts c =
    let l = c.loop-section in
    let size = c.section_size-size.ensures ∙ ap (section_size l.section) c.byte_at.ensures in
    omega (arith, size, laid_fits _ _ _ _ _ _ l.invariant (omega arith) c.requires size)

pub overflow_add-at : goal.overflow_add-at
overflow_add-at c =
    let l = c.loop-section in
    let size = c.section_size-size.ensures ∙ ap (section_size l.section) c.byte_at.ensures in
    omega (arith, laid_fits _ _ _ _ _ _ l.invariant (omega arith) c.requires size)

pub loop-section-preserved : goal.loop-section-preserved
loop-section-preserved c =
    let l = c.loop-section in
    let size = c.section_size-size.ensures ∙ ap (section_size l.section) c.byte_at.ensures in
    laid_on _ _ _ _ _ _ l.invariant (omega arith) c.requires size

pub returns : goal.returns
returns c =
    let l = c.loop-section in
    let all : l.section ≡ sections = omega arith in
    laid_end _ _ _ _ (rw all at l.invariant) c.requires
