-- `meet` meets its contract, case by case. Assumes nothing.
use Rattle.std.proofs.Common.{◌∙◌}
use Rattle.findings.proofs.Walking.{left_none, left_new, left_gone, left_past, left_label}
use Rattle.findings.proofs.meet.meet.Goals as goal

pub returns-in-true-true : goal.returns-in-true-true
returns-in-true-true c slot = left_none _ _ slot _ _ c.in-true-true.ensures c.in-true-true.ensures'

pub returns-in-true-false : goal.returns-in-true-false
returns-in-true-false c slot = left_new _ _ slot _ _ c.in-true-false.ensures c.in-true-false.ensures'

pub returns-in-false-true : goal.returns-in-false-true
returns-in-false-true c slot = left_gone _ _ slot _ _ c.in-false-true.ensures c.in-false-true.ensures'

pub returns-in_default : goal.returns-in_default
returns-in_default c slot =
    left_past _ slot _ _ c.in_default.ensures c.in_default.ensures' _ c.if-is_past_name.ensures ∙ c.meet_change.ensures slot

pub returns-in_default-2 : goal.returns-in_default-2
returns-in_default-2 c slot = left_label _ slot _ _ c.in_default.ensures c.in_default.ensures' _ c.if-is_past_name.ensures
