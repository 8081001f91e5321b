-- Each turn appends what a word has of the part.
use Rattle.std.proofs.Common.{sym, ◌∙◌, arith}
use Rattle.term.proofs.ReadingBack.{part_four, part_other}
use Rattle.term.proofs.Stepping.{lines_room, lines_grow, decode_more, decode_end}
use Rattle.term.proofs.back.four_part.Goals as goal

pub returns-then-words-ne4 : goal.returns-then-words-ne4
returns-then-words-ne4 g c part reads = sym (part_other part c.args.words.now c.if-words-ne4.true)

pub overflow_mul-lines : goal.overflow_mul-lines
overflow_mul-lines g c = omega (arith, lines_room _ _ c.loop-word.invariant.0 (omega arith))

pub loop-word-preserved : goal.loop-word-preserved
loop-word-preserved g c = (
  lines_grow _ _ _ c.loop-word.invariant.0 c.word_part.ensures.eight_lines,
  λ part reads. decode_more _ _ _ _ (c.loop-word.invariant.1 part reads) (omega arith) _ (c.word_part.ensures.same_part part reads),
)

pub returns : goal.returns
returns g c part reads =
    sym (part_four part c.args.words.now (omega arith) ∙ decode_end _ _ _ _ (c.loop-word.invariant.1 part reads) (omega arith))
