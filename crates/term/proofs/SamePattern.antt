-- Equal words, the same pattern once cut, and hits alike on every sample are one thing, and `term_telling` gives the least sample
-- that tells two other patterns apart. Assumes nothing.
use Rattle.std.proofs.Common.{◌≡◌, sym, ap, ap₂, ◌∙◌, Bool, true, false, not, ⊎_elim, List, ℕ, ◌+◌, ◌^◌, ◌<◌, min, le_of_lt, arith, bit_and, bit_xor, eqb, pow_pos, eq-eqb, ne_eqb, Some}
use native.Mathlib.Nat.{min-eq_left, min-eq_right}
use native.Mathlib.Decide.{ℕ_discrete, dec_lt}
use lib.Bits.{and_le_l, and_le_r, xor_comm}
use lib.Count.{count_trailing_zeros}
use Rattle.lines.proofs.Truth.{eqb_iff}
use Rattle.lut.specs.Input.{on_sample}
use Rattle.lut.specs.Telling.{HitAlike, TellsApart, Says, Least}
use Rattle.lut.specs.declared.Input.TheVariants.{Sample}
use Rattle.lut.specs.declared.Telling.{Telling}
use Rattle.lut.specs.declared.Telling.TheVariants.{Alike, Apart}
use Rattle.term.specs.Rule.{term_hit, hit, Accepted}
use Rattle.term.specs.Words.{term_words}
use Rattle.term.specs.Model.{chain_hit}
use Rattle.term.specs.Back.{read_term}
use Rattle.term.specs.declared.Pattern.{Pattern}
use Rattle.term.specs.Telling.{term_telling, lowest_line}
use Rattle.term.proofs.PlainRule.{term_masked}
use Rattle.term.proofs.LeastSample.{cut_within, lowest, below_alike, lowest_tells, Tells}
use Rattle.term.proofs.ReadingBack.{read_words, term_words_cut}
use Rattle.term.proofs.Hits.{term_hits}
use Rattle.term.proofs.Stepping.{exponent_lt}
use Rattle.lut.proofs.Asked.{alike_on_samples}

-- a sample tells two patterns apart, and no lesser one does
pub record LeastApart (f g : ℕ → Bool) (sample : ℕ) : Type 0 where
  pub apart : TellsApart (on_sample f) (on_sample g) (Sample sample)
  pub least : (r : ℕ) → r < sample → f r ≡ g r

-- what the call's answer says
abbrev pub SaysLeast : (f g : ℕ → Bool) → Telling → Type 0
SaysLeast f g t = Says (on_sample f) (on_sample g) t × Least (on_sample f) (on_sample g) t

-- ---- the three cases of the definition

module _ (t₁ m₁ t₂ m₂ : ℕ) where
  pub least_same : bit_and t₁ m₁ ≡ bit_and t₂ m₂ → m₁ ≡ m₂ → term_telling t₁ m₁ t₂ m₂ ≡ Alike
  unfolding term_telling
  least_same e f = simp (eq-eqb _ _ e, eq-eqb _ _ f)

  pub least_mask : bit_and t₁ m₁ ≡ bit_and t₂ m₂ → (m₁ ≡ m₂ → ⊥) → term_telling t₁ m₁ t₂ m₂ ≡ Apart (Sample (bit_and t₁ m₁ + lowest_line (bit_xor m₁ m₂)))
  unfolding term_telling
  least_mask e f = simp (eq-eqb _ _ e, ne_eqb _ _ f)

  pub least_target : (bit_and t₁ m₁ ≡ bit_and t₂ m₂ → ⊥) → term_telling t₁ m₁ t₂ m₂ ≡ Apart (Sample (min (bit_and t₁ m₁) (bit_and t₂ m₂)))
  unfolding term_telling
  least_target e = simp (ne_eqb _ _ e)

-- ---- what each case says

not_self : (b : Bool) → b ≡ not b → ⊥
not_self true e = let z : ◌≡◌ {A = ℕ} 0 1 = cc in omega arith
not_self false e = let z : ◌≡◌ {A = ℕ} 0 1 = cc in omega arith

module _ (t₁ m₁ t₂ m₂ : ℕ) (ht₁ : t₁ < 2 ^ 32) (hm₁ : m₁ < 2 ^ 32) (ht₂ : t₂ < 2 ^ 32) (hm₂ : m₂ < 2 ^ 32) where
  -- hits, by the cut numbers
  from_cut : (s : ℕ) → s < 2 ^ 32 → eqb (bit_and s m₁) (bit_and t₁ m₁) ≡ eqb (bit_and s m₂) (bit_and t₂ m₂) → term_hit t₁ m₁ s ≡ term_hit t₂ m₂ s
  from_cut s h e = sym (term_masked t₁ m₁ s hm₁) ∙ e ∙ term_masked t₂ m₂ s hm₂

  to_cut : (s : ℕ) → s < 2 ^ 32 → term_hit t₁ m₁ s ≡ term_hit t₂ m₂ s → eqb (bit_and s m₁) (bit_and t₁ m₁) ≡ eqb (bit_and s m₂) (bit_and t₂ m₂)
  to_cut s h e = term_masked t₁ m₁ s hm₁ ∙ e ∙ sym (term_masked t₂ m₂ s hm₂)

  says_same : bit_and t₁ m₁ ≡ bit_and t₂ m₂ → m₁ ≡ m₂ → HitAlike (on_sample (term_hit t₁ m₁)) (on_sample (term_hit t₂ m₂))
  says_same e f = alike_on_samples _ _ (λ s h. from_cut s h (ap₂ eqb (ap (bit_and s) f) e))

  -- one hits and the other misses
  told_apart : (s : ℕ) → s < 2 ^ 32 → (b : Bool) → eqb (bit_and s m₁) (bit_and t₁ m₁) ≡ b → eqb (bit_and s m₂) (bit_and t₂ m₂) ≡ not b → term_hit t₁ m₁ s ≡ term_hit t₂ m₂ s → ⊥
  told_apart s h b e₁ e₂ p = not_self b (sym e₁ ∙ to_cut s h p ∙ e₂)

  says_target : bit_and t₁ m₁ < bit_and t₂ m₂ → LeastApart (term_hit t₁ m₁) (term_hit t₂ m₂) (bit_and t₁ m₁)
  says_target l =
      let b = and_le_l t₁ m₁ in
      record {
        apart = record {
          fits = omega arith;
          tells =
              told_apart (bit_and t₁ m₁) (omega arith) true (eq-eqb (bit_and (bit_and t₁ m₁) m₁) (bit_and t₁ m₁) (cut_within t₁ m₁))
              (ne_eqb (bit_and (bit_and t₁ m₁) m₂) (bit_and t₂ m₂) (λ e. omega (arith, and_le_l (bit_and t₁ m₁) m₂)));
        };
        least = λ r h. from_cut r (omega arith) (ne_eqb (bit_and r m₁) (bit_and t₁ m₁) (λ e. omega (arith, and_le_l r m₁)) ∙ sym (ne_eqb (bit_and r m₂) (bit_and t₂ m₂) (λ e. omega (arith, and_le_l r m₂))));
      }

  pub says_mask : bit_and t₁ m₁ ≡ bit_and t₂ m₂ → (m₁ ≡ m₂ → ⊥) → LeastApart (term_hit t₁ m₁) (term_hit t₂ m₂) (bit_and t₁ m₁ + lowest_line (bit_xor m₁ m₂))
  unfolding lowest
  says_mask e n =
      let a : ℕ = bit_and t₁ m₁ in
      let s : ℕ = a + lowest 32 (bit_xor m₁ m₂) in
      let w₁ : bit_and a m₁ ≡ a = cut_within t₁ m₁ in
      let w₂ : bit_and a m₂ ≡ a = rw e (cut_within t₂ m₂) in
      let up : a < s = omega (arith, pow_pos (count_trailing_zeros 32 (bit_xor m₁ m₂))) in
      let t : Tells a s m₁ m₂ = lowest_tells 32 a m₁ m₂ w₁ w₂ hm₁ hm₂ n in
      let small : s < 2 ^ 32 = ⊎_elim (λ w. omega (arith, and_le_r s m₁)) (λ w. omega (arith, and_le_r s m₂)) t in
      record {
        apart = record {
          fits = small;
          tells = λ p.
              ⊎_elim
              (λ w. told_apart s small false (ne_eqb (bit_and s m₁) a (λ q. omega arith)) (eq-eqb (bit_and s m₂) (bit_and t₂ m₂) (w.1 ∙ e)) p)
              (λ w. told_apart s small true (eq-eqb (bit_and s m₁) a w.0) (ne_eqb (bit_and s m₂) (bit_and t₂ m₂) (λ q. omega arith)) p)
              t;
        };
        least = λ r h. from_cut r (omega arith) (eqb_iff (bit_and r m₁) a (bit_and r m₂) (bit_and t₂ m₂)
            (λ p. below_alike 32 a m₁ m₂ r w₁ w₂ h p ∙ e)
            (λ p. below_alike 32 a m₂ m₁ r w₂ w₁ (rw xor_comm h) (p ∙ sym e)));
      }

swapped : (t₁ m₁ t₂ m₂ s : ℕ) → LeastApart (term_hit t₂ m₂) (term_hit t₁ m₁) s → LeastApart (term_hit t₁ m₁) (term_hit t₂ m₂) s
swapped t₁ m₁ t₂ m₂ s l = record { apart = record { fits = l.apart.fits; tells = λ p. l.apart.tells (sym p) }; least = λ r h. sym (l.least r h) }

-- THE LAW OF THE LEAST TELLING SAMPLE
module _ (t₁ m₁ t₂ m₂ : ℕ) (ht₁ : t₁ < 2 ^ 32) (hm₁ : m₁ < 2 ^ 32) (ht₂ : t₂ < 2 ^ 32) (hm₂ : m₂ < 2 ^ 32) where
  says_lesser : (bit_and t₁ m₁ ≡ bit_and t₂ m₂ → ⊥) → LeastApart (term_hit t₁ m₁) (term_hit t₂ m₂) (min (bit_and t₁ m₁) (bit_and t₂ m₂))
  says_lesser n = go (dec_lt (bit_and t₁ m₁) (bit_and t₂ m₂))
    where
      go : Dec (bit_and t₁ m₁ < bit_and t₂ m₂) → LeastApart (term_hit t₁ m₁) (term_hit t₂ m₂) (min (bit_and t₁ m₁) (bit_and t₂ m₂))
      go (yes l) = rw (min-eq_left (le_of_lt l)) (says_target t₁ m₁ t₂ m₂ ht₁ hm₁ ht₂ hm₂ l)
      go (no f) =
          let l : bit_and t₂ m₂ < bit_and t₁ m₁ = omega arith in
          rw (min-eq_right (le_of_lt l)) (swapped t₁ m₁ t₂ m₂ (bit_and t₂ m₂) (says_target t₂ m₂ t₁ m₁ ht₂ hm₂ ht₁ hm₁ l))

  pub telling_law : SaysLeast (term_hit t₁ m₁) (term_hit t₂ m₂) (term_telling t₁ m₁ t₂ m₂)
  telling_law = go (ℕ_discrete (bit_and t₁ m₁) (bit_and t₂ m₂)) (ℕ_discrete m₁ m₂)
    where
      go : Dec (bit_and t₁ m₁ ≡ bit_and t₂ m₂) → Dec (m₁ ≡ m₂) → SaysLeast (term_hit t₁ m₁) (term_hit t₂ m₂) (term_telling t₁ m₁ t₂ m₂)
      go (yes e) (yes f) = rw (least_same t₁ m₁ t₂ m₂ e f) (says_same t₁ m₁ t₂ m₂ ht₁ hm₁ ht₂ hm₂ e f, tt)
      go (yes e) (no f) = rw (least_mask t₁ m₁ t₂ m₂ e f) (let l = says_mask t₁ m₁ t₂ m₂ ht₁ hm₁ ht₂ hm₂ e f in (l.apart, l.least))
      go (no e) f = rw (least_target t₁ m₁ t₂ m₂ e) (let l = says_lesser e in (l.apart, l.least))

  -- ---- equal words, equal masks and cut targets, hits alike on every sample

  pub words_same : term_words t₁ m₁ ≡ term_words t₂ m₂ → (m₁ ≡ m₂) × (bit_and t₁ m₁ ≡ bit_and t₂ m₂)
  words_same e =
      let p : Pattern = record { target = bit_and t₁ m₁; mask = m₁ } in
      let q : Pattern = record { target = bit_and t₂ m₂; mask = m₂ } in
      let r : Some p ≡ Some q = sym (read_words t₁ m₁ ht₁ hm₁) ∙ ap read_term e ∙ read_words t₂ m₂ ht₂ hm₂ in
      let same : p ≡ q = cc in
      (ap (λ (x : Pattern). x.mask) same, ap (λ (x : Pattern). x.target) same)

  pub same_words : m₁ ≡ m₂ → bit_and t₁ m₁ ≡ bit_and t₂ m₂ → term_words t₁ m₁ ≡ term_words t₂ m₂
  same_words f e = sym (term_words_cut t₁ m₁) ∙ ap₂ term_words e f ∙ term_words_cut t₂ m₂

  pub words_alike : term_words t₁ m₁ ≡ term_words t₂ m₂ → (s : ℕ) → term_hit t₁ m₁ s ≡ term_hit t₂ m₂ s
  words_alike e s = sym (term_hits t₁ m₁ s) ∙ ap (λ (ws : List ℕ). chain_hit ws s) e ∙ term_hits t₂ m₂ s

  pub alike_same : HitAlike (on_sample (term_hit t₁ m₁)) (on_sample (term_hit t₂ m₂)) → (m₁ ≡ m₂) × (bit_and t₁ m₁ ≡ bit_and t₂ m₂)
  alike_same h = go (ℕ_discrete (bit_and t₁ m₁) (bit_and t₂ m₂)) (ℕ_discrete m₁ m₂)
    where
      told : (s : ℕ) → LeastApart (term_hit t₁ m₁) (term_hit t₂ m₂) s → ⊥
      told s l = l.apart.tells (h (Sample s) l.apart.fits)

      go : Dec (bit_and t₁ m₁ ≡ bit_and t₂ m₂) → Dec (m₁ ≡ m₂) → (m₁ ≡ m₂) × (bit_and t₁ m₁ ≡ bit_and t₂ m₂)
      go (yes e) (yes f) = (f, e)
      go (yes e) (no f) = absurd (told _ (says_mask t₁ m₁ t₂ m₂ ht₁ hm₁ ht₂ hm₂ e f))
      go (no e) f = absurd (told _ (says_lesser e))

  pub alike_words : HitAlike (on_sample (term_hit t₁ m₁)) (on_sample (term_hit t₂ m₂)) → term_words t₁ m₁ ≡ term_words t₂ m₂
  alike_words h = let p = alike_same h in same_words p.0 p.1

-- ---- the call

module _ (a b : Pattern) (p : Accepted a) (q : Accepted b) where
  -- both other promises follow from the first
  pub answer_says : (r : Telling) → r ≡ term_telling a.target a.mask b.target b.mask → Says (hit a) (hit b) r × Least (hit a) (hit b) r
  answer_says r e = rw e (telling_law a.target a.mask b.target b.mask p.target_fits p.mask_fits q.target_fits q.mask_fits)

  -- where only the masks differ, the sum is a sample, and so the line is one of the 32
  module _ (e : bit_and a.target a.mask ≡ bit_and b.target b.mask) (n : a.mask ≡ b.mask → ⊥) where
    pub sum_fits : bit_and a.target a.mask + lowest_line (bit_xor a.mask b.mask) < 2 ^ 32
    sum_fits = (says_mask a.target a.mask b.target b.mask p.target_fits p.mask_fits q.target_fits q.mask_fits e n).apart.fits

    pub lowest_fits : count_trailing_zeros 32 (bit_xor a.mask b.mask) < 32
    lowest_fits = exponent_lt _ (omega (arith, sum_fits))
