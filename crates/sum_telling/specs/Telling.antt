-- What tells two sums apart, by its meaning: the least of all patterns of the sixteen sources on which one hits and the
-- other misses. The rules leave open which pattern is shown; that it is the least is promised besides.
use Rattle.std.specs.Prelude.{ℕ, zero, suc, Bool, not, cond, List, ltb}
use Rattle.std.specs.Bool.{beq}
use Rattle.lut.specs.declared.Telling.{Telling}
use Rattle.lut.specs.declared.Telling.TheVariants.{Alike, Apart}
use Rattle.lut.specs.declared.Input.TheVariants.{Sources}
use Rattle.sum.specs.Words.{words_of}
use Rattle.sum.specs.Model.{sum_hit}

-- how many patterns of the sources there are, all of them possible [M6, N6]
abbrev pub patterns : ℕ
patterns = 65536

-- the first of n numbers from s on that passes a test; the number behind them if none does [N9]
unfoldable pub first_from : (test : ℕ → Bool) (n s : ℕ) → ℕ
first_from test zero s = s
first_from test (suc n) s = cond (test s) s (first_from test n (suc s))

-- over the words v and w the model does not answer alike [G7, M8]
abbrev pub differ_at : (v w : List ℕ) (sources : ℕ) → Bool
differ_at v w s = not (beq (sum_hit v s) (sum_hit w s))

-- the least pattern on which it does not; 65,536 if there is none [N6, N9]
unfoldable pub least_pattern : (v w : List ℕ) → ℕ
least_pattern v w = first_from (differ_at v w) patterns 0

-- a pattern as an answer [N6]
abbrev pub answer_of : (least : ℕ) → Telling
answer_of least = cond (ltb least patterns) (Apart (Sources least)) Alike

-- what tells two sums apart, given by their operations [K2, N6, N9, N10]
unfoldable pub sum_telling : (old new : List ℕ) → Telling
sum_telling old new = answer_of (least_pattern (words_of old) (words_of new))
