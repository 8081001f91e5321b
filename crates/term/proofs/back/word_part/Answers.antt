-- Both tables are read as the part.
use Rattle.std.proofs.Common.{ℕ, ◌+◌, ◌*◌, arith, ap₂}
use Rattle.term.specs.Back.{word_part}
use Rattle.term.proofs.back.word_part.Goals as goal

pub returns-clause-same_part : goal.returns-clause-same_part
unfolding word_part
returns-clause-same_part g c part reads =
    ap₂ (λ (high low : ℕ). high * 16 + low) (reads _ _ (omega arith) c.read.ensures) (reads _ _ (omega arith) c.read-2.ensures)
