-- `edge::back::gather_wish` meets its contract: what was gathered from the first words, and the words that are left.
-- Assumes nothing.
use Rattle.std.proofs.Common.{sym, ◌∙◌, arith}
use Rattle.edge.proofs.Wish.{grow, room, wish_more, wish_end}
use Rattle.edge.proofs.back.gather_wish.Goals as goal

pub overflow_mul-wish : goal.overflow_mul-wish
overflow_mul-wish c = let l = c.loop-word in omega (arith, room l.word-index l.wish (omega arith) l.invariant.fits)

pub loop-word-preserved : goal.loop-word-preserved
loop-word-preserved c =
    let l = c.loop-word in
    let e = c.args.event in
    record {
      fits = grow l.word-index l.wish c.word_wish.result l.invariant.fits (omega arith);
      gathered = l.invariant.gathered ∙ wish_more e.upper e.lower c.args.words.now l.word-index l.wish _ (omega arith) c.word_wish.ensures.0;
    }

pub returns : goal.returns
returns c =
    let l = c.loop-word in
    let e = c.args.event in
    sym (l.invariant.gathered ∙ wish_end e.upper e.lower c.args.words.now l.word-index l.wish (omega arith))
