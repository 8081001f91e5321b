-- The four calls give the four words.
use Rattle.std.proofs.Common.{div-one}
use Rattle.lut.specs.Table.{down}
use Rattle.term.specs.Words.{term_words}
use Rattle.term.proofs.words.term_words.Goals as goal

pub returns : goal.returns
unfolding term_words down
returns c =
    rw (c.chain_word.ensures, c.chain_word-2.ensures, c.chain_word-3.ensures, c.chain_word-4.ensures, c.from_line.ensures, c.from_line-2.ensures, c.from_line-3.ensures)
    (simp div-one)
