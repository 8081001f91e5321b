-- `put_entries` meets its contract: line after line. Assumes nothing.
use Rattle.std.proofs.Common.{ℕ, ◌+◌, ap, ap₂, ◌∙◌, refl, get_or, set, arith}
use Rattle.sheet.specs.declared.Judged.{Judged}
use Rattle.findings.specs.Walk.{lines_at}
use Rattle.report.proofs.Entering.{entering_start, entering_end, entering_room, entering_few, entering_turn}
use Rattle.report.proofs.entry.put_entries.Goals as goal

pub loop-line-init : goal.loop-line-init
loop-line-init c =
    let s = c.args.sheets.now in
    let all = ap₂ (λ (x y : Judged). lines_at s.old.now s.new.now x y c.start-here.result) s.olds_laid s.news_laid
    ∙ c.start-here.ensures.starts_all s.old.now s.new.now s.old_accepted s.new_accepted in
    entering_start _ _ _ _ _ _ _ all c.requires refl

pub put_entry-at-requires : goal.put_entry-at-requires
put_entry-at-requires c = entering_room _ _ _ _ _ _ _ _ _ c.loop-line.invariant c.in-Some.line c.in-Some.next c.in-Some.ensures

pub overflow_add-counts : goal.overflow_add-counts
overflow_add-counts c =
    let few = entering_few _ _ _ _ _ _ _ _ _ c.loop-line.invariant c.in-Some.line c.in-Some.next c.in-Some.ensures in
    rw c.sort_of.ensures.1 (omega (arith, few))

pub loop-line-preserved : goal.loop-line-preserved
loop-line-preserved c =
    let s = c.args.sheets.now in
    entering_turn _ _ _ _ _ _ _ _ _ c.loop-line.invariant c.in-Some.line c.in-Some.next c.in-Some.ensures _ _ _ _ _
    (c.record_of-a.ensures.record_with s.old_accepted s.olds_laid) (c.record_of-b.ensures.record_with s.new_accepted s.news_laid)
    c.put_entry-at.ensures
    (ap (λ (sort : ℕ). set c.loop-line.counts sort (get_or c.loop-line.counts sort 0 + 1)) c.sort_of.ensures.1)

pub returns-clause-wrote : goal.returns-clause-wrote
returns-clause-wrote c = (entering_end _ _ _ _ _ _ _ _ _ c.loop-line.invariant c.in_default.ensures).0

pub returns-clause-counted : goal.returns-clause-counted
returns-clause-counted c = (entering_end _ _ _ _ _ _ _ _ _ c.loop-line.invariant c.in_default.ensures).1
