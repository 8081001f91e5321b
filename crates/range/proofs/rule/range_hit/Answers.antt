use Rattle.std.proofs.Common.{◌∙◌, arith}
use Rattle.std.proofs.lemmas.Bool.Decides.{nat_tests}
use Rattle.range.specs.Rule.{range_hit}
use Rattle.range.proofs.rule.range_hit.Goals as goal

pub returns : goal.returns
unfolding range_hit
returns c = rw (← c.gather-x.ensures) (c.contains.ensures.value ∙ rw (c.new.ensures.start, c.new.ensures.end, c.new.ensures.exhausted) (grind (arith, nat_tests)))
