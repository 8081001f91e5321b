-- The answers of the first words stand side by side, those of the high tables above those of the low ones.
use Rattle.std.proofs.Common.{◌≡◌, ◌+◌, ◌*◌}
use Rattle.range.proofs.Packed.{quads, lows, highs}
use Rattle.range.proofs.model.packed.Given as goal

abbrev pub invariant-loop-word : goal.invariant-loop-word
invariant-loop-word l = l.r ≡ quads (highs l.words) l.word-index * 65536 + quads (lows l.words) l.word-index
