-- What is found by halves is the least pattern that tells. Assumes nothing.
use Prim.Native.Nat.{ℕ, zero, suc, ◌+◌, ◌*◌, ◌/◌, ◌%◌, ◌≤◌, ◌<◌, min}
use mathlib.Core.Path.{◌≡◌, refl, sym, ap, ap₂, ◌∙◌}
use mathlib.Core.Bool.{Bool, true, false, not, beq, true≢false}
use mathlib.Core.List.{List}
use mathlib.Core.Logic.{◌⊎◌, ⊎_elim}
use native.Mathlib.Decide.{dec_lt, dec_le}
use native.Mathlib.Omega.{arith}
use borrow.Author.Tests.{eq-eqb, eqb-true, ne_eqb, not-true}
use lib.Dec.{eqb, leb, leb→le}
use lib.ListN.{get_or}
use Rattle.lines.proofs.Computed.{every_below_law}
use Rattle.lut.specs.Table.{answer_at, low}
use Rattle.sum.specs.Model.{first_mid, last_mid, sum_hit}
use Rattle.sum_telling.specs.Telling.{patterns, differ_at, least_pattern}
use Rattle.sum_telling.specs.declared.half.Half.{Half}
use Rattle.sum_telling.specs.Halves.{first_half, last_half, mid_at, class_at, least_with, half_least, first_sources, last_sources, candidate, row_least, final_least, each_of, found_least}
use Rattle.sum_telling.proofs.First.{First, first_is, first_found}
use Rattle.sum_telling.proofs.Split.{Both, any_both, every_both, first_of, last_of, first_mid_law, last_mid_law}

-- ---- the least pattern of a class

module _ (h g : Half) (class : ℕ) where
  with_first : First (λ n. eqb (class_at h g n) class) 256 0 (least_with h g class)
  unfolding least_with
  with_first = first_found (λ n. eqb (class_at h g n) class) 256 0

  pub with_le : least_with h g class ≤ 256
  with_le = with_first.within

  pub with_class : least_with h g class < 256 → class_at h g (least_with h g class) ≡ class
  with_class l = eqb-true (class_at h g (least_with h g class)) class (with_first.passes l)

  pub with_least : (n : ℕ) → n < 256 → class_at h g n ≡ class → least_with h g class ≤ n
  with_least n l e = go (dec_lt n (least_with h g class))
    where
      go : Dec (n < least_with h g class) → least_with h g class ≤ n
      go (yes k) = absurd (true≢false (sym (eq-eqb (class_at h g n) class e) ∙ with_first.before n (omega arith) k))
      go (no k) = omega (arith, k)

-- of a half that is the same in both sums no pattern has a class with two answers
pub same_none : (h : Half) (class : ℕ) → (class ≡ 1) ⊎ (class ≡ 2) → 256 ≡ least_with h h class
unfolding least_with
same_none h class e =
    sym
    (first_is (λ n. eqb (class_at h h n) class) 256 0 256 (omega arith) (omega arith)
    (λ n z l. ne_eqb (class_at h h n) class (λ q. ⊎_elim (λ k. omega (arith, q, k)) (λ k. omega (arith, q, k)) e)) (λ l. absurd (omega (arith, l))))

-- ---- a lesser half pattern has lesser sources

module _ (f : ℕ → ℕ) (up : (n : ℕ) → n < 256 → f n < f (suc n)) where
  rises : (n m : ℕ) → n ≤ m → m ≤ 256 → f n ≤ f m
  rises n zero l h = let e : n ≡ 0 = omega arith in rw e (omega arith)
  rises n (suc m) l h =
      elim (dec_lt n (suc m)) [
        | yes k ↦ omega (arith, rises n m (omega (arith, k)) (omega arith), up m (omega arith))
        | no k ↦ let e : n ≡ suc m = omega (arith, k) in rw e (omega arith)
      ]

first_up : (n : ℕ) → n < 256 → first_sources n < first_sources (suc n)
unfolding first_sources
first_up n h = leb→le _ _ (every_below_law 256 (λ n. leb (suc (first_sources n)) (first_sources (suc n))) tt n h)

last_up : (n : ℕ) → n < 256 → last_sources n < last_sources (suc n)
unfolding last_sources
last_up n h = leb→le _ _ (every_below_law 256 (λ n. leb (suc (last_sources n)) (last_sources (suc n))) tt n h)

pub first_most : (n : ℕ) → n ≤ 256 → first_sources n ≤ patterns
unfolding first_sources
first_most n h = leb→le _ _ (every_below_law 257 (λ n. leb (first_sources n) patterns) tt n (omega arith))

pub last_most : (n : ℕ) → n ≤ 256 → last_sources n ≤ patterns
unfolding last_sources
last_most n h = leb→le _ _ (every_below_law 257 (λ n. leb (last_sources n) patterns) tt n (omega arith))

-- none is no pattern
none_first : (n : ℕ) → n ≤ 256 → first_sources n < patterns → n < 256
unfolding first_sources
none_first n h l = elim (dec_lt n 256) [ yes k ↦ k | no k ↦ let e : n ≡ 256 = omega (arith, h, k) in absurd (omega (arith, rw e at l)) ]

none_last : (n : ℕ) → n ≤ 256 → last_sources n < patterns → n < 256
unfolding last_sources
none_last n h l = elim (dec_lt n 256) [ yes k ↦ k | no k ↦ let e : n ≡ 256 = omega (arith, h, k) in absurd (omega (arith, rw e at l)) ]

-- ---- the least of four

record Picked (f : ℕ → ℕ) (m : ℕ) : Type 0 where
  pub at : ℕ
  pub below : at < 4
  pub is : m ≡ f at

abbrev least_of_four : (ℕ → ℕ) → ℕ
least_of_four f = min (min (f 0) (f 1)) (min (f 2) (f 3))

four_least : (f : ℕ → ℕ) (i : ℕ) → i < 4 → least_of_four f ≤ f i
four_least f zero h = omega arith
four_least f (suc zero) h = omega arith
four_least f (suc (suc zero)) h = omega arith
four_least f (suc (suc (suc zero))) h = omega arith
four_least f (suc (suc (suc (suc i)))) h = absurd (omega arith)

four_picked : (f : ℕ → ℕ) → Picked f (least_of_four f)
four_picked f = go (dec_le (f 0) (f 1)) (dec_le (f 2) (f 3)) (dec_le (min (f 0) (f 1)) (min (f 2) (f 3)))
  where
    go : Dec (f 0 ≤ f 1) → Dec (f 2 ≤ f 3) → Dec (min (f 0) (f 1) ≤ min (f 2) (f 3)) → Picked f (least_of_four f)
    go (yes a) b (yes c) = record { at = 0; below = omega arith; is = omega (arith, a, c) }
    go (no a) b (yes c) = record { at = 1; below = omega arith; is = omega (arith, a, c) }
    go a (yes b) (no c) = record { at = 2; below = omega arith; is = omega (arith, b, c) }
    go a (no b) (no c) = record { at = 3; below = omega arith; is = omega (arith, b, c) }

-- ---- the candidates of two chains of words

half_at : (h g : Half) (c : ℕ) → c < 4 → get_or (half_least h g) c 0 ≡ least_with h g c
unfolding half_least
half_at h g zero l = refl
half_at h g (suc zero) l = refl
half_at h g (suc (suc zero)) l = refl
half_at h g (suc (suc (suc zero))) l = refl
half_at h g (suc (suc (suc (suc c)))) l = absurd (omega arith)

each_at : (f : ℕ → ℕ) (l : List ℕ) (c : ℕ) → c < 4 → get_or (each_of f l) c 0 ≡ f (get_or l c 0)
each_at f l zero h = refl
each_at f l (suc zero) h = refl
each_at f l (suc (suc zero)) h = refl
each_at f l (suc (suc (suc zero))) h = refl
each_at f l (suc (suc (suc (suc c)))) h = absurd (omega arith)

digits_differ : (x y : ℕ) → x < 2 → y < 2 → not (beq (eqb x 1) (eqb y 1)) ≡ not (eqb x y)
digits_differ zero zero hx hy = refl
digits_differ zero (suc zero) hx hy = refl
digits_differ (suc zero) zero hx hy = refl
digits_differ (suc zero) (suc zero) hx hy = refl
digits_differ zero (suc (suc y)) hx hy = absurd (omega arith)
digits_differ (suc zero) (suc (suc y)) hx hy = absurd (omega arith)
digits_differ (suc (suc x)) y hx hy = absurd (omega arith)

module _ (v w : List ℕ) where
  abbrev t : ℕ
  t = low (get_or v 0 0)

  abbrev u : ℕ
  u = low (get_or w 0 0)

  -- the classes of two half patterns
  abbrev first_class : ℕ → ℕ
  first_class = class_at (first_half v) (first_half w)

  abbrev last_class : ℕ → ℕ
  last_class = class_at (last_half v) (last_half w)

  -- the final tables differ, by class
  abbrev alike_at : (c e : ℕ) → Bool
  alike_at c e = eqb (answer_at t (c % 2 + 2 * (e % 2))) (answer_at u (c / 2 + 2 * (e / 2)))

  abbrev first_least : ℕ → ℕ
  first_least = least_with (first_half v) (first_half w)

  abbrev last_least : ℕ → ℕ
  last_least = least_with (last_half v) (last_half w)

  abbrev of : (c e : ℕ) → ℕ
  of c e = candidate t u (first_sources (first_least c)) (last_sources (last_least e)) c e

  mid_lt : (h : Half) (n : ℕ) → mid_at h n < 2
  unfolding mid_at
  mid_lt h n = omega arith

  class_lt : (h g : Half) (n : ℕ) → class_at h g n < 4
  class_lt h g n = omega (arith, mid_lt h n, mid_lt g n)

  -- the model does not answer alike on a pattern exactly where the final tables differ at its classes
  differs : (s a b : ℕ) → Both s a b → differ_at v w s ≡ not (alike_at (first_class a) (last_class b))
  unfolding sum_hit
  differs s a b both =
      let x = first_mid v s in
      let y = first_mid w s in
      let x' = last_mid v s in
      let y' = last_mid w s in
      let ea : first_class a ≡ x + 2 * y = ap₂ (λ (p q : ℕ). p + 2 * q) (sym (first_mid_law v s a b both)) (sym (first_mid_law w s a b both)) in
      let eb : last_class b ≡ x' + 2 * y' = ap₂ (λ (p q : ℕ). p + 2 * q) (sym (last_mid_law v s a b both)) (sym (last_mid_law w s a b both)) in
      let o : x + 2 * x' ≡ first_class a % 2 + 2 * (last_class b % 2) = (split x y x' y' (first_class a) (last_class b) (omega arith) (omega arith) (omega arith) (omega arith) ea eb).0 in
      let n : y + 2 * y' ≡ first_class a / 2 + 2 * (last_class b / 2) = (split x y x' y' (first_class a) (last_class b) (omega arith) (omega arith) (omega arith) (omega arith) ea eb).1 in
      digits_differ (answer_at t (x + 2 * x')) (answer_at u (y + 2 * y')) (omega arith) (omega arith) ∙ ap₂ (λ (p q : ℕ). not (eqb (answer_at t p) (answer_at u q))) o n
    where
      split : (x y x' y' c e : ℕ) → x < 2 → y < 2 → x' < 2 → y' < 2 → c ≡ x + 2 * y → e ≡ x' + 2 * y'
          → (x + 2 * x' ≡ c % 2 + 2 * (e % 2)) × (y + 2 * y' ≡ c / 2 + 2 * (e / 2))
      split x y x' y' c e hx hy hx' hy' ec ee =
          let c₀ : c % 2 ≡ x = omega arith in
          let c₁ : c / 2 ≡ y = omega arith in
          let e₀ : e % 2 ≡ x' = omega arith in
          let e₁ : e / 2 ≡ y' = omega arith in
          (rw (c₀, e₀), rw (c₁, e₁))

  -- a pattern that tells is no less than the candidate of its classes
  tells_candidate : (s : ℕ) → s < patterns → differ_at v w s ≡ true → of (first_class (first_of s)) (last_class (last_of s)) ≤ s
  tells_candidate s h d =
      let both = every_both s h in
      let c = first_class (first_of s) in
      let e = last_class (last_of s) in
      let no : alike_at c e ≡ false = not-true (alike_at c e) (sym (differs s (first_of s) (last_of s) both) ∙ d) in
      let f : first_sources (first_least c) ≤ first_sources (first_of s) =
      rises first_sources first_up (first_least c) (first_of s) (with_least (first_half v) (first_half w) c (first_of s) both.first_fits refl) (omega (arith, both.first_fits)) in
      let l : last_sources (last_least e) ≤ last_sources (last_of s) =
      rises last_sources last_up (last_least e) (last_of s) (with_least (last_half v) (last_half w) e (last_of s) both.last_fits refl) (omega (arith, both.last_fits)) in
      rw no (omega (arith, f, l, both.is))

  -- a candidate below 65,536 tells
  candidate_tells : (c e : ℕ) → of c e < patterns → differ_at v w (of c e) ≡ true
  candidate_tells c e h = go (alike_at c e) refl
    where
      go : (b : Bool) → alike_at c e ≡ b → differ_at v w (of c e) ≡ true
      go true q = absurd (omega (arith, rw q at h))
      go false q =
          let k : first_sources (first_least c) + last_sources (last_least e) + 0 < patterns = rw q at h in
          let a = none_first (first_least c) (with_le (first_half v) (first_half w) c) (omega (arith, k)) in
          let b = none_last (last_least e) (with_le (last_half v) (last_half w) e) (omega (arith, k)) in
          let both = any_both (first_least c) (last_least e) a b in
          let z : of c e ≡ first_sources (first_least c) + last_sources (last_least e) = rw q (omega arith) in
          let d = differs (first_sources (first_least c) + last_sources (last_least e)) (first_least c) (last_least e) both in
          let x = with_class (first_half v) (first_half w) c a in
          let y = with_class (last_half v) (last_half w) e b in
          ap (differ_at v w) z ∙ d ∙ ap not (ap₂ alike_at x y ∙ q)

  abbrev firsts : List ℕ
  firsts = each_of first_sources (half_least (first_half v) (first_half w))

  abbrev lasts : List ℕ
  lasts = each_of last_sources (half_least (last_half v) (last_half w))

  entries : (c e : ℕ) → c < 4 → e < 4 → candidate t u (get_or firsts c 0) (get_or lasts e 0) c e ≡ of c e
  entries c e hc he =
      ap₂ (λ (x y : ℕ). candidate t u x y c e) (each_at first_sources (half_least (first_half v) (first_half w)) c hc ∙ ap first_sources (half_at (first_half v) (first_half w) c hc))
      (each_at last_sources (half_least (last_half v) (last_half w)) e he ∙ ap last_sources (half_at (last_half v) (last_half w) e he))

  found_le : (c e : ℕ) → c < 4 → e < 4 → found_least v w ≤ of c e
  unfolding found_least final_least row_least
  found_le c e hc he =
      let rows = four_least (λ i. row_least t u i (get_or firsts i 0) lasts) c hc in
      let row = four_least (λ i. candidate t u (get_or firsts c 0) (get_or lasts i 0) c i) e he in
      omega (arith, rows, row, entries c e hc he)

  -- what is found is one of them
  record One (m : ℕ) : Type 0 where
    pub c : ℕ
    pub e : ℕ
    pub is : m ≡ of c e

  found_one : One (found_least v w)
  unfolding found_least final_least row_least
  found_one =
      let rows = four_picked (λ i. row_least t u i (get_or firsts i 0) lasts) in
      let row = four_picked (λ i. candidate t u (get_or firsts rows.at 0) (get_or lasts i 0) rows.at i) in
      record { c = rows.at; e = row.at; is = rows.is ∙ row.is ∙ entries rows.at row.at rows.below row.below }

  -- nothing below what is found tells
  none_below : (s : ℕ) → s < patterns → s < found_least v w → differ_at v w s ≡ false
  none_below s h l = go (differ_at v w s) refl
    where
      go : (b : Bool) → differ_at v w s ≡ b → differ_at v w s ≡ false
      go true d =
          absurd
          (omega (
            arith,
            l,
            tells_candidate s h d,
            found_le (first_class (first_of s)) (last_class (last_of s)) (class_lt (first_half v) (first_half w) (first_of s)) (class_lt (last_half v) (last_half w) (last_of s)),
          ))
      go false d = d

  -- what is found is the least pattern that tells; where it is no pattern, none does
  pub found_is_least : found_least v w < patterns → found_least v w ≡ least_pattern v w
  unfolding least_pattern
  found_is_least h =
      let o = found_one in
      sym
      (first_is (differ_at v w) patterns 0 (found_least v w) (omega arith) (omega (arith, h)) (λ s z l. none_below s (omega (arith, h, l)) l)
      (λ l. ap (differ_at v w) o.is ∙ candidate_tells o.c o.e (rw o.is at h)))

  pub found_none : patterns ≤ found_least v w → patterns ≡ least_pattern v w
  unfolding least_pattern
  found_none h = sym (first_is (differ_at v w) patterns 0 patterns (omega arith) (omega arith) (λ s z l. none_below s l (omega (arith, h, l))) (λ l. absurd (omega (arith, l))))
