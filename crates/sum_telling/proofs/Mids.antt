-- A half's mid, asked for 64 patterns at once: the sets that its sources are in, and what its tables answer. Assumes
-- nothing.
use Prim.Native.Nat.{ℕ, zero, suc, ◌+◌, ◌*◌, ◌/◌, ◌%◌, ◌<◌}
use mathlib.Core.Path.{◌≡◌, refl, sym, ap, ap₂, ◌∙◌}
use mathlib.Core.List.{List, [], ◌∷◌}
use native.Mathlib.Omega.{arith}
use lib.Dec.{eqb, eqb→eq}
use lib.ListN.{get_or}
use Rattle.lines.specs.Line.{line}
use Rattle.lines.proofs.Computed.{every_within_law}
use Rattle.lut.specs.Table.{answer_at, one_if, high, low}
use Rattle.sum.specs.Model.{pair_at, inputs_of}
use Rattle.sum_telling.specs.Telling.{first_from}
use Rattle.sum_telling.specs.declared.half.Half.{Half}
use Rattle.sum_telling.specs.Halves.{mid_at, class_at, least_with}
use Rattle.sum_telling.proofs.First.{set_test, first_same, first_passes}
use Rattle.sum_telling.proofs.Chosen.{in_all, in_none}

-- the patterns with source 0 to 5, in every word
abbrev withs : List ℕ
withs =
    0xAAAAAAAAAAAAAAAA
    ∷ 0xCCCCCCCCCCCCCCCC
    ∷ 0xF0F0F0F0F0F0F0F0
    ∷ 0xFF00FF00FF00FF00
    ∷ 0xFFFF0000FFFF0000
    ∷ 0xFFFFFFFF00000000
    ∷ []

pub with_source : (n i : ℕ) → n < 256 → i < 6 → line (get_or withs i 0) (n % 64) ≡ line n i
with_source n i hn hi =
    eqb→eq _ _
    (every_within_law (256 ∷ 6 ∷ []) (λ ds. eqb (line (get_or withs (get_or ds 1 0) 0) (get_or ds 0 0 % 64)) (line (get_or ds 0 0) (get_or ds 1 0))) tt (n ∷ i ∷ [])
    (hn, (hi, tt)))

-- a pair's set, by the sources of the pattern
pub pair_drives : (t n k a b x y : ℕ) → line x k ≡ line n a → line y k ≡ line n b → answer_at t (3 * line x k + 12 * line y k) ≡ pair_at t n a b
pair_drives t n k a b x y e f = ap₂ (λ (p q : ℕ). answer_at t (3 * p + 12 * q)) e f

-- a pattern's word is whole in the sets of source 6 and 7
module _ (n : ℕ) (h : n < 256) where
  pub none_at : (i : ℕ) → line n i ≡ 0 → line 0 (n % 64) ≡ line n i
  none_at i e = in_none (n % 64) (omega arith) ∙ sym e

  pub all_at : (i : ℕ) → line n i ≡ 1 → line 0xFFFFFFFFFFFFFFFF (n % 64) ≡ line n i
  all_at i e = in_all (n % 64) (omega arith) ∙ sym e

-- the mid's table, asked in two steps
module _ (h : Half) (n k : ℕ) (a b c d l₀ l₁ l₂ l₃ u : ℕ)
    (ea : line a k ≡ pair_at (low h.first) n 0 1) (eb : line b k ≡ pair_at (high h.first) n 2 5)
    (ec : line c k ≡ pair_at (low h.second) n 3 6) (ed : line d k ≡ pair_at (high h.second) n 4 7)
    (e₀ : line l₀ k ≡ answer_at h.mid (0 + (line a k + 2 * line b k))) (e₁ : line l₁ k ≡ answer_at h.mid (4 + (line a k + 2 * line b k)))
    (e₂ : line l₂ k ≡ answer_at h.mid (8 + (line a k + 2 * line b k))) (e₃ : line l₃ k ≡ answer_at h.mid (12 + (line a k + 2 * line b k)))
    (eu : line u k ≡ line (get_or (l₀ ∷ l₁ ∷ l₂ ∷ l₃ ∷ []) (line c k + 2 * line d k) 0) k) where
  lower : (q : ℕ) → q < 4 → line (get_or (l₀ ∷ l₁ ∷ l₂ ∷ l₃ ∷ []) q 0) k ≡ answer_at h.mid (4 * q + (line a k + 2 * line b k))
  lower zero l = e₀
  lower (suc zero) l = e₁
  lower (suc (suc zero)) l = e₂
  lower (suc (suc (suc zero))) l = e₃
  lower (suc (suc (suc (suc q)))) l = absurd (omega arith)

  pub word_mid : line u k ≡ mid_at h n
  unfolding mid_at inputs_of
  word_mid =
      eu ∙ lower (line c k + 2 * line d k) (omega arith) ∙ ap (answer_at h.mid) (omega (arith, ea, eb, ec, ed))

-- the word of a pattern is one of four
pub four_words : (u₀ u₁ u₂ u₃ x n : ℕ) → n < 256 → (n / 64 ≡ 0 → line u₀ (n % 64) ≡ x) → (n / 64 ≡ 1 → line u₁ (n % 64) ≡ x)
    → (n / 64 ≡ 2 → line u₂ (n % 64) ≡ x) → (n / 64 ≡ 3 → line u₃ (n % 64) ≡ x) → line (get_or (u₀ ∷ u₁ ∷ u₂ ∷ u₃ ∷ []) (n / 64) 0) (n % 64) ≡ x
four_words u₀ u₁ u₂ u₃ x n h e₀ e₁ e₂ e₃ = go (n / 64) refl
  where
    go : (j : ℕ) → n / 64 ≡ j → line (get_or (u₀ ∷ u₁ ∷ u₂ ∷ u₃ ∷ []) j 0) (n % 64) ≡ x
    go zero e = e₀ e
    go (suc zero) e = e₁ e
    go (suc (suc zero)) e = e₂ e
    go (suc (suc (suc zero))) e = e₃ e
    go (suc (suc (suc (suc j)))) e = absurd (omega arith)

-- ---- the patterns of a class

-- the class of a pattern, by where the old and the new mid answer 1
abbrev class_in : (old new : List ℕ) (n : ℕ) → ℕ
class_in old new n = line (get_or old (n / 64) 0) (n % 64) + 2 * line (get_or new (n / 64) 0) (n % 64)

module _ (old new s : List ℕ) (class : ℕ) where
  -- word j of a set has the patterns of the class
  abbrev pub OfClass : (j : ℕ) → Type 0
  OfClass j = (k : ℕ) → k < 64 → line (get_or s j 0) k ≡ one_if (eqb (line (get_or old j 0) k + 2 * line (get_or new j 0) k) class)

  pub class_first : (r : ℕ) → r ≡ first_from (set_test s) 256 0 → OfClass 0 → OfClass 1 → OfClass 2 → OfClass 3
      → r ≡ first_from (λ n. eqb (class_in old new n) class) 256 0
  class_first r e f₀ f₁ f₂ f₃ =
      e ∙ first_passes s (λ n. eqb (class_in old new n) class) (λ n h. word (n / 64) (n % 64) (omega arith) (omega arith))
    where
      word : (j k : ℕ) → j < 4 → k < 64 → line (get_or s j 0) k ≡ one_if (eqb (line (get_or old j 0) k + 2 * line (get_or new j 0) k) class)
      word zero k h = f₀ k
      word (suc zero) k h = f₁ k
      word (suc (suc zero)) k h = f₂ k
      word (suc (suc (suc zero))) k h = f₃ k
      word (suc (suc (suc (suc j)))) k h = absurd (omega arith)

-- of the sets of a half's mids
pub half_first : (h g : Half) (old new : List ℕ) → ((n : ℕ) → n < 256 → line (get_or old (n / 64) 0) (n % 64) ≡ mid_at h n)
    → ((n : ℕ) → n < 256 → line (get_or new (n / 64) 0) (n % 64) ≡ mid_at g n)
    → (class r : ℕ) → r ≡ first_from (λ n. eqb (class_in old new n) class) 256 0 → r ≡ least_with h g class
unfolding least_with
half_first h g old new eo en class r e =
    e
    ∙ first_same (λ n. eqb (class_in old new n) class) (λ n. eqb (class_at h g n) class) 256 0
    (λ n z l. ap₂ (λ (x y : ℕ). eqb (x + 2 * y) class) (eo n l) (en n l))
