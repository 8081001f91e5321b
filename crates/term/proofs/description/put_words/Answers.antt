use Rattle.term.specs.Description.{words}
use Rattle.term.proofs.description.put_words.Goals as goal

pub returns : goal.returns
unfolding words
returns c = rw (c.term_words-words.ensures, c.from_bytes.ensures) at c.put_words.ensures
