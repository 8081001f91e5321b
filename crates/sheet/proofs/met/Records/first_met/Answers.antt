-- The next label was met before, or it is new: then its mark is set.
use Rattle.std.proofs.Common.{◌≡◌, false, sym, ap, ◌∙◌, arith}
use Rattle.sheet.proofs.Labels.{label_at, label_cut, met_by}
use Rattle.sheet.proofs.Marks.{mark, unmarked, passed_met, passed_next}
use Rattle.sheet.proofs.met.Records.first_met.Goals as goal
use Rattle.sheet.proofs.met.Records.first_met.Goals.{else-marks-mark-via-then-marks-mark+else-is_taken, else-marks-mark-via-else-marks-mark}

pub returns-then-is_taken : goal.returns-then-is_taken
returns-then-is_taken c =
    let r = c.args.self in
    let l = c.loop-done in
    let cut = label_cut r.section r.start l.done r.sheet.now c.record_size-size.result c.record_size-size.ensures in
    passed_met r.section r.start c.args.count r.sheet.now l.marks l.done l.invariant
    (ap (λ label. met_by label r.section r.start l.done r.sheet.now) (sym cut) ∙ sym c.is_taken.ensures ∙ c.if-is_taken.true)

pub loop-done-preserved : goal.loop-done-preserved
loop-done-preserved c =
    let r = c.args.self in
    let l = c.loop-done in
    let cut = label_cut r.section r.start l.done r.sheet.now c.record_size-size.result c.record_size-size.ensures in
    let marked : c.mark_of-mark.result ≡ mark (label_at r.section r.start r.sheet.now l.done) = c.mark_of-mark.ensures ∙ ap mark cut in
    let new : met_by (label_at r.section r.start r.sheet.now l.done) r.section r.start l.done r.sheet.now ≡ false =
    elim c.else-marks-mark.branch [
      | else-marks-mark-via-then-marks-mark+else-is_taken w ↦
          ap (λ label. met_by label r.section r.start l.done r.sheet.now) (sym cut) ∙ sym w.is_taken.ensures ∙ w.if-is_taken.false
      | else-marks-mark-via-else-marks-mark w ↦
          unmarked r.section r.start c.args.count r.sheet.now l.marks l.done l.invariant _ (rw marked at w.if-marks-mark.false)
    ] in
    rw marked (passed_next r.section r.start c.args.count r.sheet.now l.marks l.done l.invariant new (rw (sym c.record_size-size.ensures) (omega (arith, l.invariant.fits))))
