-- One section more is accepted, or its fault is the verdict; behind the last, bytes are left over or not.
use Rattle.std.proofs.Common.{◌≡◌, ◌+◌, ◌-◌, drop, refl, sym, ap, ap₂, ◌∙◌, arith}
use Rattle.records.specs.Sections.{sections, section_size}
use Rattle.sheet.specs.Reading.{sections_verdict, verdict}
use Rattle.sheet.proofs.Numbered.{check_numbered}
use Rattle.sheet.proofs.Reading.{section_fits, sections_next, sections_refuse, sections_over, sections_done}
use Rattle.sheet.proofs.judge.check.Goals as goal

pub loop-section-init : goal.loop-section-init
unfolding verdict
loop-section-init c = refl

pub returns-in-Refused : goal.returns-in-Refused
returns-in-Refused c =
    let l = c.loop-section in
    let s = c.args.sheet.now in
    let refused = sym c.check_section.ensures ∙ c.in-Refused.is in
    let value = sym (l.invariant ∙ sections_refuse (sections - l.section) l.section l.at s c.in-Refused.number c.in-Refused.place (omega arith) refused) in
    record { value = value; verdict_numbered = check_numbered s _ value }

pub overflow_add-at : goal.overflow_add-at
overflow_add-at c =
    let l = c.loop-section in
    let size = c.section_size-at.ensures ∙ ap (section_size l.section) c.byte_at.ensures in
    omega (arith, size, section_fits l.section l.at c.args.sheet.now (sym c.check_section.ensures ∙ c.in-Accepted.is))

pub loop-section-preserved : goal.loop-section-preserved
loop-section-preserved c =
    let l = c.loop-section in
    let s = c.args.sheet.now in
    let size = c.section_size-at.ensures ∙ ap (section_size l.section) c.byte_at.ensures in
    let n : sections - l.section - 1 ≡ sections - (l.section + 1) = omega arith in
    l.invariant
    ∙ sections_next l.section l.at s (sym c.check_section.ensures ∙ c.in-Accepted.is) (sections - l.section) (omega arith)
    ∙ ap₂ (λ m w. sections_verdict m (l.section + 1) (l.at + w) (drop (l.at + w) s)) n (sym size)

pub returns-then-at-sheet : goal.returns-then-at-sheet
returns-then-at-sheet c =
    let l = c.loop-section in
    let s = c.args.sheet.now in
    let none : sections - l.section ≡ 0 = omega arith in
    let value = sym (rw none at l.invariant ∙ sections_over l.section l.at s c.if-at-sheet.true) in
    record { value = value; verdict_numbered = check_numbered s _ value }

pub returns-else-at-sheet : goal.returns-else-at-sheet
returns-else-at-sheet c =
    let l = c.loop-section in
    let s = c.args.sheet.now in
    let none : sections - l.section ≡ 0 = omega arith in
    let value = sym (rw none at l.invariant ∙ sections_done l.section l.at s c.if-at-sheet.false) in
    record { value = value; verdict_numbered = check_numbered s _ value }
