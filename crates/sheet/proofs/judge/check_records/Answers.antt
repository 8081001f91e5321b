-- One record more is without fault, or its fault is the verdict.
use Rattle.std.proofs.Common.{◌+◌, ◌≤◌, ◌<◌, sym, ap, ◌∙◌, arith, length}
use Rattle.buffer.specs.declared.Verdict.TheVariants.{Refused}
use Rattle.records.specs.Sections.{record_size, slot_of}
use Rattle.sheet.proofs.Behind.{place, sliced, behind_start, behind_fault, behind_short, behind_refuse, behind_below, behind_next, behind_end}
use Rattle.sheet.proofs.judge.check_records.Goals as goal

pub loop-done-init : goal.loop-done-init
loop-done-init c = (behind_start c.args.section c.args.count c.args.start c.args.sheet.now c.requires, omega arith)

pub returns-then-sheet-at : goal.returns-then-sheet-at
returns-then-sheet-at c =
    let a = c.args in
    let l = c.loop-done in
    let short : length a.sheet.now < place a.section a.start l.done + record_size a.section = rw (sym c.record_size-size.ensures) (omega arith) in
    rw c.record_size-size.ensures (sym (behind_short a.section a.count a.start a.sheet.now l.floor l.done l.invariant.0 (omega arith) short))

pub returns-then-number-ne-NO_FAULT : goal.returns-then-number-ne-NO_FAULT
returns-then-number-ne-NO_FAULT c =
    let a = c.args in
    let l = c.loop-done in
    let is = sliced a.section a.start l.done c.record_size-size.result a.sheet.now c.record_size-size.ensures in
    let whole : place a.section a.start l.done + record_size a.section ≤ length a.sheet.now =
    rw (sym c.record_size-size.ensures) (omega (arith, c.record_size-size.ensures)) in
    let f = behind_fault a.section a.count a.start a.sheet.now l.floor l.done l.invariant.0 _ c.first_met-repeat.ensures l.invariant.1 (omega arith) whole _ _ is c.record_fault-number.ensures in
    rw c.record_size-size.ensures (ap (λ n. Refused n (place a.section a.start l.done)) f ∙ sym (behind_refuse a.section a.count a.start a.sheet.now l.floor l.done l.invariant.0 (omega arith) (λ z. c.if-number-ne-NO_FAULT.true (f ∙ z))))

pub loop-done-preserved : goal.loop-done-preserved
loop-done-preserved c =
    let a = c.args in
    let l = c.loop-done in
    let is = sliced a.section a.start l.done c.record_size-size.result a.sheet.now c.record_size-size.ensures in
    let whole : place a.section a.start l.done + record_size a.section ≤ length a.sheet.now =
    rw (sym c.record_size-size.ensures) (omega (arith, c.record_size-size.ensures)) in
    let f = behind_fault a.section a.count a.start a.sheet.now l.floor l.done l.invariant.0 _ c.first_met-repeat.ensures l.invariant.1 (omega arith) whole _ _ is c.record_fault-number.ensures in
    let clean = sym f ∙ c.if-number-ne-NO_FAULT.false in
    let slot = c.from-floor.ensures ∙ c.slot.ensures ∙ ap slot_of is in (
      rw slot (behind_next a.section a.count a.start a.sheet.now l.floor l.done l.invariant.0 (omega arith) clean),
      behind_below a.section a.count a.start a.sheet.now l.floor l.done l.invariant.0 (omega arith) clean _ c.first_met-repeat.ensures l.invariant.1,
    )

pub returns : goal.returns
returns c =
    let a = c.args in
    let l = c.loop-done in
    sym (behind_end a.section a.count a.start a.sheet.now l.floor l.done l.invariant.0 (omega arith))
