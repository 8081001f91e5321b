-- `bench` meets its contract: too many samples, or a run over all. Assumes nothing.
use Rattle.std.proofs.Common.{arith}
use Rattle.std.proofs.lemmas.Grind.{common_steps}
use Rattle.verbs.specs.Samples.{words_in}
use Rattle.verbs.proofs.Benching.{words_count}
use Rattle.verbs.proofs.samples.bench.Goals as goal

pub returns-then-count-gt-MOST_SAMPLES : goal.returns-then-count-gt-MOST_SAMPLES
unfolding words_in
returns-then-count-gt-MOST_SAMPLES c = grind (arith, common_steps, words_count)

pub returns : goal.returns
unfolding words_in
returns c = grind (arith, common_steps, words_count)
