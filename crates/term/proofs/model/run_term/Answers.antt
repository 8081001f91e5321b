-- The words before i have been asked, and what is left decides.
use Rattle.std.proofs.Common.{sym, ◌∙◌, arith}
use Rattle.term.specs.Model.{chain_hit}
use Rattle.lut.proofs.Runs.{run_needed}
use Rattle.term.proofs.Stepping.{ask_next, ask_end}
use Rattle.term.proofs.model.run_term.Goals as goal

pub loop-i-preserved : goal.loop-i-preserved
loop-i-preserved c = ask_next _ _ _ _ _ (omega arith) (omega arith) c.loop-i.invariant c.word_hit-hit.ensures

pub returns-clause-value : goal.returns-clause-value
returns-clause-value c =
    let words = c.args.words.now in
    let hit = chain_hit words c.args.sample in
    c.hit_or_miss.ensures ∙ sym (run_needed 4 words hit _ (omega arith) (ask_end _ _ _ _ (omega arith) (omega arith) c.loop-i.invariant))
