-- What is found by halves, as the code meets it. Assumes nothing.
use Prim.Native.Nat.{ℕ, zero, suc, ◌+◌, ◌*◌, ◌/◌, ◌%◌, ◌≤◌, ◌<◌}
use mathlib.Core.Path.{◌≡◌, refl, sym, ap, ap₂, ◌∙◌}
use mathlib.Core.Bool.{Bool, true, false, not, beq}
use mathlib.Core.List.{List, [], ◌∷◌}
use mathlib.Core.Logic.{inl, inr}
use native.Mathlib.Nat.{div-one}
use native.Mathlib.Omega.{arith}
use lib.Dec.{lit<}
use lib.ListN.{length, get_or}
use Rattle.lut.specs.Table.{answer_at, one_if, high, low}
use Rattle.lut.proofs.Tables.{digit_on}
use Rattle.sum.specs.Model.{first_mid, last_mid, inputs_of, sum_hit}
use Rattle.sum_telling.specs.Telling.{patterns, differ_at, least_pattern}
use Rattle.sum_telling.specs.declared.half.Half.{Half}
use Rattle.sum_telling.specs.Halves.{first_half, last_half, mid_at, least_with, half_least, packed, each_of}
use Rattle.sum_telling.proofs.First.{first_is}
use Rattle.sum_telling.proofs.Split.{every_both, first_mid_law, last_mid_law}
use Rattle.sum_telling.proofs.Found.{with_le, same_none}

-- the least patterns of four classes, and their sources
pub half_four : (h g : Half) (a b c d : ℕ) → a ≡ least_with h g 0 → b ≡ least_with h g 1 → c ≡ least_with h g 2 → d ≡ least_with h g 3
    → a ∷ b ∷ c ∷ d ∷ [] ≡ half_least h g
unfolding half_least
half_four h g a b c d ea eb ec ed = ap₂ ◌∷◌ ea (ap₂ ◌∷◌ eb (ap₂ ◌∷◌ ec (ap₂ ◌∷◌ ed refl)))

pub half_same : (h : Half) (a d : ℕ) → a ≡ least_with h h 0 → d ≡ least_with h h 3 → a ∷ 256 ∷ 256 ∷ d ∷ [] ≡ half_least h h
half_same h a d ea ed = half_four h h a 256 256 d ea (same_none h 1 (inl refl)) (same_none h 2 (inr refl)) ed

-- ---- four patterns in one number

pub with_found : (h g : Half) (c n : ℕ) → n ≡ least_with h g c → n ≤ 256
with_found h g c n e = rw e (with_le h g c)

-- each is found again
unpacked : (a b c d x : ℕ) → a ≤ 256 → b ≤ 256 → c ≤ 256 → d ≤ 256 → x ≡ a + b * 65536 + c * 4294967296 + d * 281474976710656
    → (x % 65536 ≡ a) × (x / 65536 % 65536 ≡ b) × (x / 4294967296 % 65536 ≡ c) × (x / 281474976710656 ≡ d)
unpacked a b c d x ha hb hc hd e = (omega arith, omega arith, omega arith, omega arith)

pub half_parts : (h g : Half) (x : ℕ) → x ≡ packed (half_least h g)
    → (x % 65536 ≡ least_with h g 0) × (x / 65536 % 65536 ≡ least_with h g 1) × (x / 4294967296 % 65536 ≡ least_with h g 2) × (x / 281474976710656 ≡ least_with h g 3)
unfolding half_least
half_parts h g x e =
    unpacked (least_with h g 0) (least_with h g 1) (least_with h g 2) (least_with h g 3) x (with_le h g 0) (with_le h g 1) (with_le h g 2) (with_le h g 3) e

-- what holds of a half's pattern and its sources, class by class
pub each_class : (P : ℕ → ℕ → Type 0) (h g : Half) (x a b c d : ℕ) → x ≡ packed (half_least h g) → P (x % 65536) a → P (x / 65536 % 65536) b
    → P (x / 4294967296 % 65536) c → P (x / 281474976710656) d → (i : ℕ) → i < 4 → P (least_with h g i) (get_or (a ∷ b ∷ c ∷ d ∷ []) i 0)
each_class P h g x a b c d e pa pb pc pd zero l = rw (half_parts h g x e).0 at pa
each_class P h g x a b c d e pa pb pc pd (suc zero) l = rw (half_parts h g x e).1 at pb
each_class P h g x a b c d e pa pb pc pd (suc (suc zero)) l = rw (half_parts h g x e).2 at pc
each_class P h g x a b c d e pa pb pc pd (suc (suc (suc zero))) l = rw (half_parts h g x e).3 at pd
each_class P h g x a b c d e pa pb pc pd (suc (suc (suc (suc i)))) l = absurd (omega arith)

-- the sources of each class of a half
pub half_each : (f : ℕ → ℕ) (h g : Half) (r : List ℕ) → length r ≡ 4 → ((i : ℕ) → i < 4 → (get_or r i 0 ≡ f (least_with h g i)) × (get_or r i 0 ≤ patterns))
    → r ≡ each_of f (half_least h g)
unfolding half_least
half_each f h g [] l e = absurd (omega arith)
half_each f h g (a ∷ []) l e = absurd (omega arith)
half_each f h g (a ∷ b ∷ []) l e = absurd (omega arith)
half_each f h g (a ∷ b ∷ c ∷ []) l e = absurd (omega arith)
half_each f h g (a ∷ b ∷ c ∷ d ∷ []) l e =
    ap₂ ◌∷◌ (e 0 (lit< tt)).0 (ap₂ ◌∷◌ (e 1 (lit< tt)).0 (ap₂ ◌∷◌ (e 2 (lit< tt)).0 (ap₂ ◌∷◌ (e 3 (lit< tt)).0 refl)))
half_each f h g (a ∷ b ∷ c ∷ d ∷ x ∷ r) l e = absurd (omega arith)

-- ---- the pattern without a source

-- what final answers there
pub none_hit : (w : List ℕ) → answer_at (low (get_or w 0 0)) (mid_at (first_half w) 0 + 2 * mid_at (last_half w) 0) ≡ one_if (sum_hit w 0)
unfolding sum_hit
none_hit w =
    let both = every_both 0 (lit< tt) in
    let t = low (get_or w 0 0) in
    ap₂ (λ (x y : ℕ). answer_at t (x + 2 * y)) (sym (first_mid_law w 0 0 0 both)) (sym (last_mid_law w 0 0 0 both))
    ∙ digit_on (answer_at t (first_mid w 0 + 2 * last_mid w 0)) (omega arith)

-- where it tells it is the least
pub none_tells_first : (v w : List ℕ) → (one_if (sum_hit v 0) ≡ one_if (sum_hit w 0) → ⊥) → 0 ≡ least_pattern v w
unfolding least_pattern
none_tells_first v w n =
    sym
    (first_is (differ_at v w) patterns 0 0 (omega arith) (omega arith) (λ s h l. absurd (omega (arith, l)))
    (λ l. digits (sum_hit v 0) (sum_hit w 0) n))
  where
    digits : (a b : Bool) → (one_if a ≡ one_if b → ⊥) → not (beq a b) ≡ true
    digits true true k = absurd (k refl)
    digits true false k = refl
    digits false true k = refl
    digits false false k = absurd (k refl)

-- a half's mid there asks each table at its first address
pub mid_none : (h : Half) (r : ℕ) → r ≡ answer_at h.mid (h.first % 2 + 2 * (h.first / 65536 % 2) + 4 * (h.second % 2 + 2 * (h.second / 65536 % 2)))
    → (r ≡ mid_at h 0) × (r < 2)
unfolding mid_at inputs_of
mid_none h r e =
    let a : h.first % 65536 % 2 ≡ h.first % 2 = omega arith in
    let b : h.second % 65536 % 2 ≡ h.second % 2 = omega arith in
    (e ∙ ap (answer_at h.mid) (at_first h.first h.second a b), omega (arith, e))
  where
    linear : (p q r t p' q' r' t' : ℕ) → p' ≡ p → q' ≡ q → r' ≡ r → t' ≡ t → p + 2 * q + 4 * (r + 2 * t) ≡ p' + 2 * q' + 4 * r' + 8 * t'
    linear p q r t p' q' r' t' e₁ e₂ e₃ e₄ = omega arith

    at_first : (v w : ℕ) → v % 65536 % 2 ≡ v % 2 → w % 65536 % 2 ≡ w % 2
        → v % 2 + 2 * (v / 65536 % 2) + 4 * (w % 2 + 2 * (w / 65536 % 2)) ≡ answer_at (low v) 0 + 2 * answer_at (high v) 0 + 4 * answer_at (low w) 0 + 8 * answer_at (high w) 0
    at_first v w a b =
        let v₀ : answer_at (low v) 0 ≡ v % 2 = ap (λ (x : ℕ). x % 2) (div-one (v % 65536)) ∙ a in
        let v₁ : answer_at (high v) 0 ≡ v / 65536 % 2 = ap (λ (x : ℕ). x % 2) (div-one (v / 65536)) in
        let w₀ : answer_at (low w) 0 ≡ w % 2 = ap (λ (x : ℕ). x % 2) (div-one (w % 65536)) ∙ b in
        let w₁ : answer_at (high w) 0 ≡ w / 65536 % 2 = ap (λ (x : ℕ). x % 2) (div-one (w / 65536)) in
        linear (v % 2) (v / 65536 % 2) (w % 2) (w / 65536 % 2) _ _ _ _ v₀ v₁ w₀ w₁
