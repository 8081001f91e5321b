-- The test of the low table picks the case.
use Rattle.std.proofs.Common.{sym, ◌∙◌, eq-eqb, ne_eqb}
use Rattle.term.specs.Model.{word_hit}
use Rattle.term.proofs.model.word_hit.Goals as goal

pub returns-then-answer_at-eq1 : goal.returns-then-answer_at-eq1
unfolding word_hit
returns-then-answer_at-eq1 c =
    rw (c.answer_at-then-answer_at-eq1.ensures, eq-eqb _ _ (sym c.answer_at.ensures ∙ c.if-answer_at-eq1.true))

pub returns-else-answer_at-eq1 : goal.returns-else-answer_at-eq1
unfolding word_hit
returns-else-answer_at-eq1 c = rw (← c.answer_at.ensures, ne_eqb _ _ c.if-answer_at-eq1.false)
