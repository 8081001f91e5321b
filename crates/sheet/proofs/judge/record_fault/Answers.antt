-- One law for each way out.
use Rattle.std.proofs.Common.{◌+◌, ◌-◌, ◌∙◌, sym, ap, length, drop, length-drop, arith}
use Rattle.std.proofs.Math.Seq.{take_all}
use Rattle.records.specs.Sections.{label_size, description_fault}
use Rattle.sheet.proofs.Faults.{record_slot, record_order, record_label, record_taken, record_description}
use Rattle.sheet.proofs.judge.record_fault.Goals as goal

pub returns-then-most-slot : goal.returns-then-most-slot
returns-then-most-slot c =
    λ before low taken. sym (record_slot c.args.section before c.args.bytes.now c.requires (omega arith))

pub returns-then-slot-floor : goal.returns-then-slot-floor
returns-then-slot-floor c =
    λ before low taken. sym (record_order c.args.section before c.args.bytes.now c.requires (omega arith) (omega arith))

pub returns-then-not-all_within : goal.returns-then-not-all_within
returns-then-not-all_within c =
    λ before low taken.
    sym (record_label c.args.section before c.args.bytes.now c.requires (omega arith) (omega arith) (sym c.all_within.ensures ∙ c.if-not-all_within.true))

pub returns-then-taken : goal.returns-then-taken
returns-then-taken c =
    λ before low taken.
    sym (record_taken c.args.section before c.args.bytes.now c.requires (omega arith) (omega arith) (sym c.all_within.ensures ∙ c.if-not-all_within.false) (taken ∙ c.if-taken.true))

pub returns : goal.returns
returns c =
    λ before low taken.
    let d = drop (1 + label_size) c.args.bytes.now in
    c.fault.ensures
    ∙ ap (description_fault c.args.section) (take_all (length c.args.bytes.now - (1 + label_size)) d (omega (arith, length-drop (1 + label_size) c.args.bytes.now)))
    ∙ sym (record_description c.args.section before c.args.bytes.now c.requires (omega arith) (omega arith) (sym c.all_within.ensures ∙ c.if-not-all_within.false) (taken ∙ c.if-taken.false))
