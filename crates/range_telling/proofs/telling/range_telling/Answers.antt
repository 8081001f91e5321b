-- By the masks of the two that are left.
use Rattle.std.proofs.Common.{◌≡◌, arith}
use Rattle.std.proofs.lemmas.Grind.{common_steps}
use Rattle.lut.specs.declared.Telling.TheVariants.{Apart}
use Rattle.lut.specs.declared.Input.TheVariants.{Sample}
use Rattle.range_telling.specs.Reduce.{reduce_of}
use Rattle.range_telling.specs.Telling.{tell_reduced, range_telling}
use Rattle.range_telling.proofs.Halving.{reduce_not_idle}
use Rattle.range_telling.proofs.Theorems.{answer_says}
use Rattle.range_telling.proofs.telling.range_telling.Goals as goal

pub returns-then-p-q : goal.returns-then-p-q
unfolding range_telling tell_reduced
returns-then-p-q c =
    let value : c.tell_bounds.result ≡ range_telling c.args.old c.args.new = grind (arith, common_steps) in
    record { value = value; says = answer_says _ _ _ value }

pub tell_masks-requires-clause-first_busy : goal.tell_masks-requires-clause-first_busy
unfolding reduce_of
tell_masks-requires-clause-first_busy c = rw c.reduce-p.ensures.value (reduce_not_idle 32 c.args.old (omega arith))

pub tell_masks-requires-clause-second_busy : goal.tell_masks-requires-clause-second_busy
unfolding reduce_of
tell_masks-requires-clause-second_busy c = rw c.reduce-q.ensures.value (reduce_not_idle 32 c.args.new (omega arith))

pub returns : goal.returns
unfolding range_telling tell_reduced
returns c =
    let value : Apart (Sample c.tell_masks.result) ≡ range_telling c.args.old c.args.new = grind (arith, common_steps) in
    record { value = value; says = answer_says _ _ _ value }
