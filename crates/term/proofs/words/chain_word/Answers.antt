-- Each table fits its half.
use Rattle.std.proofs.Common.{arith}
use Rattle.term.specs.Words.{chain_word}
use Rattle.term.proofs.Hits.{nibble_below}
use Rattle.term.proofs.words.chain_word.Goals as goal

pub overflow_mul-result : goal.overflow_mul-result
overflow_mul-result c = omega (arith, nibble_below _ _ _ c.nibble_table.ensures)

pub overflow_add-result : goal.overflow_add-result
overflow_add-result c = omega (arith, nibble_below _ _ _ c.nibble_table.ensures, nibble_below _ _ _ c.nibble_table-2.ensures)

pub returns : goal.returns
unfolding chain_word
returns c = rw (c.nibble_table.ensures, c.nibble_table-2.ensures, c.from_line.ensures)
