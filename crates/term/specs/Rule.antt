-- The plain rule of a term. *Pattern* is the buyer's term for its description.
use Rattle.std.specs.Prelude.{Bool, not, ◌||◌, ℕ, ◌^◌, ◌<◌, eqb}
use Rattle.lines.specs.Line.{line, every_line}
use Rattle.lut.specs.Input.{on_sample}
use Rattle.lut.specs.declared.Input.{Input}
use Rattle.term.specs.declared.Pattern.{Pattern}

-- one line, by its values in target, mask and sample: it is not masked, or has the target's value [P1]
abbrev pub line_hit : (target mask sample : ℕ) → Bool
line_hit t m s = not (eqb m 1) || eqb s t

-- the same at each of the lowest k lines [P1]
abbrev pub lines_hit : (k target mask sample : ℕ) → Bool
lines_hit k t m s = every_line k (λ i. line_hit (line t i) (line m i) (line s i))

-- the sample has the target's value on all masked lines [P1, P2]
unfoldable pub term_hit : (target mask sample : ℕ) → Bool
term_hit t m s = lines_hit 32 t m s

-- every pattern of 32 lines is accepted [G2, G3]
pub record Accepted (p : Pattern) : Type 0 where
  pub target_fits : p.target < 2 ^ 32
  pub mask_fits : p.mask < 2 ^ 32

-- when a pattern hits, over any input [P1, G5]
abbrev pub hit : Pattern → Input → Bool
hit p = on_sample (term_hit p.target p.mask)
