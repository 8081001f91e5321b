-- Steady or rising, steady or falling: their tables, read back; how many tables two lines can have; and two such edges
-- told apart. All computed. Assumes nothing.
use Prim.Native.Nat.{ℕ}
use mathlib.Core.Path.{◌≡◌, refl}
use mathlib.Core.Bool.{Bool, true, false, cond, not, ◌&&◌, ◌||◌}
use mathlib.Core.List.{List, [], ◌∷◌, ◌++◌}
use Rattle.std.proofs.Common.{Some}
use lib.Dec.{T, eqb}
use lib.ListN.{length}
use Rattle.compare.specs.Same.{same}
use Rattle.lines.specs.Line.{over_lines}
use Rattle.lut.specs.Table.{down}
use Rattle.lut.specs.declared.Input.TheVariants.{Samples}
use Rattle.lut.specs.declared.Telling.TheVariants.{Apart}
use Rattle.edge.specs.Rule.{lines_accepted}
use Rattle.edge.specs.Words.{pair_table, edge_words}
use Rattle.edge.specs.Back.{covers, wish_from, read_edge}
use Rattle.edge.specs.Telling.{without, tell_by, edge_telling}

-- ---- words

-- an edge on the lines 3 to 0, and its last word
pub record Low : Type 0 where
  pub rise : ℕ
  pub fall : ℕ
  pub neither : ℕ
  pub word : ℕ

low : (rise fall neither word : ℕ) → Low
low rise fall neither word = record { rise = rise; fall = fall; neither = neither; word = word }

-- the last word is this one, and the others are 0
pub right : Low → Bool
right x = same (edge_words x.rise x.fall x.neither) (0 ∷ 0 ∷ 0 ∷ 0 ∷ 0 ∷ 0 ∷ 0 ∷ x.word ∷ [])

-- steady or rising, steady or falling on the lower line of two; the same on the upper line; one on each line, and one
-- beside a fall; in the next table [P10, W13]
pub lows : List Low
lows =
    low 1 0 1 0xAFAF
    ∷ low 0 1 1 0xF5F5
    ∷ low 2 0 2 0xCCFF
    ∷ low 0 2 2 0xFF33
    ∷ low 2 1 3 0xFDFF
    ∷ low 0 3 2 0xFF73
    ∷ low 4 0 4 0xAFAF0000
    ∷ []

pub each : (Low → Bool) → List Low → Bool
each p [] = true
each p (x ∷ xs) = p x && each p xs

pub lows_hold : T (each right lows)
unfolding each right lows low down pair_table same
lows_hold = tt

-- steady or rising on line 0 and steady or falling on line 1 is read as that [C5]
pub steady_read : read_edge (0 ∷ 0 ∷ 0 ∷ 0 ∷ 0 ∷ 0 ∷ 0 ∷ 0xFFBF ∷ []) ≡ Some (record { rise = 1; fall = 2; neither = 3 })
unfolding covers wish_from over_lines down pair_table same
steady_read = refl

-- ---- tables

-- the numbers below 4 for each of rise, fall and neither: the wishes of two lines, all three on a line left out
pub tables : List ℕ
tables = below (λ r. below (λ f. below (λ n. cond (lines_accepted 2 r f n) (pair_table 0 r f n ∷ []) [])))
  where
    below : (ℕ → List ℕ) → List ℕ
    below f = f 0 ++ f 1 ++ f 2 ++ f 3

met : ℕ → List ℕ → Bool
met t [] = false
met t (u ∷ us) = eqb t u || met t us

pub differ : List ℕ → Bool
differ [] = true
differ (t ∷ ts) = not (met t ts) && differ ts

-- two lines have seven wishes each, so there are forty-nine tables [P10, W13]
pub forty_nine : length tables ≡ 49
unfolding tables over_lines pair_table
forty_nine = refl

-- and no two are the same [C5]
pub all_different : T (differ tables)
unfolding tables differ met over_lines pair_table
all_different = tt

-- ---- telling apart

-- rise on line 0 goes, line 1 asks for steady or rising before and after: line 0 rises, and line 1 falls [N9]
pub rise_dropped : edge_telling (record { rise = 3; fall = 0; neither = 2 }) (record { rise = 2; fall = 0; neither = 2 }) ≡ Apart (Samples 2 1)
unfolding tell_by without
rise_dropped = refl

-- line 0 asked for steady or rising, and then for steady alone: it rises [N9]
pub steady_left : edge_telling (record { rise = 1; fall = 0; neither = 1 }) (record { rise = 0; fall = 0; neither = 1 }) ≡ Apart (Samples 0 1)
unfolding tell_by without
steady_left = refl
