-- Each chain is that of its number.
use Rattle.range.specs.Words.{lower_value, upper_value, range_words}
use Rattle.range.proofs.words.range_words.Goals as goal

pub returns : goal.returns
unfolding range_words lower_value upper_value
returns c = rw (c.chain_words.ensures, c.chain_words-2.ensures, c.low_bits.ensures, c.low_bits-2.ensures)
