-- `sheet::judge_parts` meets its contract. Assumes nothing.
use mathlib.Core.Path.{sym, ◌∙◌}
use Rattle.sheet.proofs.Laid.{judged_refused}
use Rattle.sheet.proofs.parts.judge_parts.Goals as goal

pub lay_out-requires : goal.lay_out-requires
lay_out-requires c = sym c.check.ensures.value ∙ c.in-Accepted.is

pub returns-in-Refused : goal.returns-in-Refused
returns-in-Refused c = judged_refused _ _ _ (sym c.check.ensures.value ∙ c.in-Refused.is)

pub returns-in-Accepted : goal.returns-in-Accepted
returns-in-Accepted c = c.lay_out.ensures
