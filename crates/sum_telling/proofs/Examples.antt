-- Two sums told apart by a pattern that is not small, and two whose words differ and that match alike. Assumes nothing.
use Prim.Native.Nat.{ℕ}
use mathlib.Core.Path.{◌≡◌, refl}
use mathlib.Core.List.{List, [], ◌∷◌}
use lib.Dec.{lit<, leb→le}
use Rattle.lut.specs.declared.Input.TheVariants.{Sources}
use Rattle.lut.specs.declared.Telling.TheVariants.{Alike, Apart}
use Rattle.sum.specs.Words.{words_of}
use Rattle.sum.specs.Model.{inputs_of}
use Rattle.sum_telling.specs.Telling.{patterns, first_from, sum_telling}
use Rattle.sum_telling.specs.Halves.{mid_at, least_with, half_least, first_sources, last_sources, row_least, final_least, found_least}
use Rattle.sum_telling.proofs.Theorems.{found_apart, found_alike}

-- the terms a, b, c, d, f, h and i all hit; and never
abbrev pub seven : List ℕ
seven = 2 ∷ 8 ∷ 8 ∷ 1 ∷ 8 ∷ 8 ∷ 8 ∷ 1 ∷ 2 ∷ 2 ∷ 2 ∷ []

abbrev pub never : List ℕ
never = 2 ∷ 8 ∷ 8 ∷ 1 ∷ 8 ∷ 8 ∷ 8 ∷ 1 ∷ 2 ∷ 2 ∷ 0 ∷ []

pub seven_or_never : sum_telling seven never ≡ Apart (Sources 0x01AF)
unfolding found_least final_least row_least half_least least_with first_from mid_at inputs_of words_of first_sources last_sources
seven_or_never = found_apart seven never 0x01AF refl (lit< tt)

-- a pair's operation under a mid that never matches: other words, and no pattern tells
abbrev pub under : List ℕ
under = 2 ∷ 0 ∷ 0 ∷ 0 ∷ 4 ∷ 0 ∷ 0 ∷ 0 ∷ 0 ∷ 4 ∷ 4 ∷ []

abbrev pub under' : List ℕ
under' = 6 ∷ 0 ∷ 0 ∷ 0 ∷ 4 ∷ 0 ∷ 0 ∷ 0 ∷ 0 ∷ 4 ∷ 4 ∷ []

pub alike_under_nop : sum_telling under under' ≡ Alike
unfolding found_least final_least row_least half_least least_with first_from mid_at inputs_of words_of first_sources last_sources
alike_under_nop = found_alike under under' (leb→le patterns (found_least (words_of under) (words_of under')) tt)
