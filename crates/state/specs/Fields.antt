-- The fields of a state, and which states are accepted.
-- A state has a number (how often the hit sum must match), the state that the else sum leads to, and eight flags.
use Rattle.std.specs.Prelude.{◌≡◌, Bool, true, ◌&&◌, leb, length}
use Rattle.compare.specs.Within.{all_within}
use Rattle.state.specs.declared.State.{State}

-- each field fits its bits: a number of twenty, an else state of four, flags of one each; what refusal 18 leaves
-- [S15, F18]
abbrev pub fits : State → Bool
fits s = leb s.number 0xFFFFF && (leb s.branch 15 && all_within 0 1 s.flags)

-- an accepted state: eight flags, and every field fits [S15, G2]
pub record Accepted (s : State) : Type 0 where
  pub fit : fits s ≡ true
  pub eight : length s.flags ≡ 8
