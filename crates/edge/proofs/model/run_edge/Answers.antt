-- `edge::run_edge` meets its contract: what the first words say and what is left says is what all of them say. Assumes nothing.
use Rattle.std.proofs.Common.{get_or, refl, arith}
use Rattle.edge.proofs.Nibbles.{word_asked}
use Rattle.edge.proofs.WordLaws.{ask_next_bit}
use Rattle.edge.proofs.model.run_edge.Goals as goal

pub loop-i-preserved : goal.loop-i-preserved
loop-i-preserved c =
    let l = c.loop-i in
    let a = c.args in
    ask_next_bit a.words.now a.earlier a.later l.i l.any c.word_answers-any.result _ c.if-words-ne8.false (omega arith) l.invariant
    c.word_answers-any.ensures
    (word_asked (get_or a.words.now l.i 0) a.earlier a.later l.i _ _ _ (omega arith) c.addresses-upper.ensures c.addresses-lower.ensures refl)
