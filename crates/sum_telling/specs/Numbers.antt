-- The same of any two lists of bytes, judged first and answered in numbers: what C is handed.
use Rattle.std.specs.Prelude.{ℕ, ◌≡◌, Bool, cond, ◌&&◌, List, ◌↔◌, eqb, ltb, length}
use Rattle.lut.specs.declared.Input.TheVariants.{Sources}
use Rattle.lut.specs.Telling.{HitAlike, TellsApart, NoneLess}
use Rattle.sum.specs.Operation.{codes_accepted, Accepted}
use Rattle.sum.specs.Words.{words_of}
use Rattle.sum.specs.Model.{hit}
use Rattle.sum_telling.specs.declared.Told.{Told}
use Rattle.sum_telling.specs.Telling.{patterns, least_pattern}

-- computed: the bytes are eleven operation codes; theorem is_sum_iff [B6, S6, F10]
abbrev pub is_sum : List ℕ → Bool
is_sum ops = eqb (length ops) 11 && codes_accepted ops

-- both are, and so each is an accepted sum [S6, G2]
abbrev pub BothSums : (old new : List ℕ) → Type 0
BothSums old new = Accepted old × Accepted new

-- refusal 10 and no pattern [F10, A14]
abbrev pub no_sum : Told
no_sum = record { number = 10; sources = 0 }

-- 1 and the least pattern that tells; 0 and none where that is not below 65,536 [A14]
abbrev pub in_numbers : (least : ℕ) → Told
in_numbers least = cond (ltb least patterns) (record { number = 1; sources = least }) (record { number = 0; sources = 0 })

-- the answer for any two lists of bytes [A14, F10, N6]
unfoldable pub sum_told : (old new : List ℕ) → Told
sum_told old new = cond (is_sum old && is_sum new) (in_numbers (least_pattern (words_of old) (words_of new))) no_sum

-- what it means: 0 exactly where the two hit alike, 1 exactly where the pattern tells them apart, and then it is the
-- least that does, 10 exactly where one is no sum; in the first and the last case the pattern is 0 [A14, F10, N6]
pub record ToldMeans (old new : List ℕ) (t : Told) : Type 0 where
  pub alike : (t.number ≡ 0) ↔ (BothSums old new × HitAlike (hit old) (hit new))
  pub apart : (t.number ≡ 1) ↔ (BothSums old new × TellsApart (hit old) (hit new) (Sources t.sources))
  pub refused : (t.number ≡ 10) ↔ (BothSums old new → ⊥)
  pub least : t.number ≡ 1 → NoneLess (hit old) (hit new) (Sources t.sources)
  pub nothing : (t.number ≡ 1 → ⊥) → t.sources ≡ 0
