-- One record more is compared at each turn.
use Rattle.std.proofs.Common.{◌||◌, sym, ap, ap₂, ◌∙◌}
use Rattle.compare.specs.Same.{same}
use Rattle.sheet.proofs.Labels.{label_cut, met_none, met_at, met_more}
use Rattle.sheet.proofs.met.Records.is_taken.Goals as goal

pub loop-i-init : goal.loop-i-init
loop-i-init c = let r = c.args.self in met_none r.section r.start 0 r.sheet.now c.args.label.now

pub returns-then-is_same : goal.returns-then-is_same
returns-then-is_same c =
    let r = c.args.self in
    let label = c.args.label.now in
    let found = c.is_same.ensures ∙ ap (same label) (label_cut r.section r.start c.loop-i.i r.sheet.now c.record_size-size.result c.record_size-size.ensures) in
    sym (met_at r.section r.start c.loop-i.i r.sheet.now label c.args.count c.loop-i-test.true (sym found ∙ c.if-is_same.true))

pub loop-i-preserved : goal.loop-i-preserved
loop-i-preserved c =
    let r = c.args.self in
    let label = c.args.label.now in
    let found = c.is_same.ensures ∙ ap (same label) (label_cut r.section r.start c.loop-i.i r.sheet.now c.record_size-size.result c.record_size-size.ensures) in
    met_more r.section r.start c.loop-i.i r.sheet.now label ∙ ap₂ ◌||◌ (sym found ∙ c.if-is_same.false) c.loop-i.invariant
