-- Thirty-two words are answered by the carries of their two halves.
use Rattle.std.proofs.Common.{◌&&◌, eqb, sym, ◌∙◌}
use Rattle.lut.proofs.Runs.{run_needed}
use Rattle.range.specs.Model.{model_hit}
use Rattle.range.proofs.model.run_range.Goals as goal

pub returns-clause-value : goal.returns-clause-value
unfolding model_hit
returns-clause-value c =
    c.hit_or_miss.ensures
    ∙ sym
    (run_needed 32 c.args.words.now (model_hit c.args.words.now c.args.sample) (eqb c.chain_carry-lower.result 1 && eqb c.chain_carry-upper.result 0) c.if-words-ne32.false
    (rw (c.chain_carry-lower.ensures, c.chain_carry-upper.ensures, c.split_at.ensures.front, c.split_at.ensures.back)))
