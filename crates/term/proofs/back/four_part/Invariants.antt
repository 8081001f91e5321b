-- The first words have been read, and there is room for the lines of the others.
use Rattle.std.proofs.Common.{ℕ, ◌*◌, ◌^◌, ◌<◌}
use Rattle.term.specs.Back.{Reads}
use Rattle.term.proofs.Stepping.{Decoding}
use Rattle.term.proofs.back.four_part.Given as goal

abbrev pub invariant-loop-word : goal.invariant-loop-word
invariant-loop-word g l =
    (l.lines < 2 ^ (8 * l.word-index)) × ((part : ℕ → ℕ) → Reads (goal.F-post g l.read) part → Decoding part l.words l.lines l.word-index)
