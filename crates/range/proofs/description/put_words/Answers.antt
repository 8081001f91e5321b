-- The lower chain's words, then the upper chain's behind them.
use Rattle.std.proofs.Common.{◌∙◌}
use Rattle.buffer.proofs.Writing.{delivers}
use Rattle.range.specs.Description as description
use Rattle.range.proofs.Tables.{flat_chains}
use Rattle.range.proofs.description.put_words.Goals as goal

pub returns : goal.returns
unfolding description.words
returns c = delivers (c.as_flattened.ensures.value ∙ rw (c.range_words-chains.ensures, c.from_bytes.ensures) (flat_chains _ _ _)) c.put_words.ensures
