-- Two accepted ranges hit alike on every sample exactly when they are equal without the lines that cannot matter;
-- otherwise the telling sample tells them apart. Assumes nothing.
use Rattle.std.proofs.Common.{◌≡◌, refl, sym, ap, ◌∙◌, Bool, true, false, cond, true≢false, ℕ, zero, suc, ◌+◌, ◌*◌, ◌/◌, ◌%◌, ◌^◌, ◌≤◌, ◌<◌, min, max, arith, eqb-true, bit_xor, eqb, pow_pos}
use mathlib.Core.Bool.{beq}
use native.Mathlib.Nat.{two-pow-succ}
use native.Mathlib.Decide.{dec_lt}
use borrow.Author.Tests.{eqb-false}
use lib.Bits.{differ, xor_step, xor_shr}
use lib.Count.{ones, ones_in, under, count_trailing_zeros}
use Rattle.lines.specs.Line.{line, flip_line}
use Rattle.lines.specs.Gather.{gathered, scattered}
use Rattle.lines.proofs.Truth.{agree, disagree, T_true}
use Rattle.lines.proofs.Digit.{bit_lt, line_half, line_zero}
use Rattle.lines.proofs.Ones.{ones_in_law}
use Rattle.lines.proofs.Scattering.{scatter_lt, gather_back}
use Rattle.lines.proofs.Flip.{flip_lt, flip_masked, flip_unmasked, rank_lt}
use Rattle.lut.specs.Telling.{HitAlike, TellsApart, Says}
use Rattle.lut.specs.declared.Input.{Input}
use Rattle.lut.specs.declared.Input.TheVariants.{Nothing, Sample, Samples, Sources}
use Rattle.lut.specs.declared.Telling.{Telling}
use Rattle.lut.specs.declared.Telling.TheVariants.{Alike, Apart}
use Rattle.range.specs.declared.Range.{Range}
use Rattle.range.specs.Rule.{range_hit, hit_of, hit, Accepted}
use Rattle.range_telling.specs.Reduce.{idle, reduce_of}
use Rattle.range_telling.specs.Telling.{turn_value, turn_sample, tell_line, first_differ, tell_masks, tell_bounds, tell_reduced, range_telling}
use Rattle.range.proofs.Carry.{upper_fits}
use Rattle.range.proofs.Decode.{range_path}
use Rattle.range_telling.proofs.Halving.{busy_parts, reduce_hit, reduce_accepted, reduce_not_idle}
use Rattle.range_telling.proofs.Turn.{inside, inside_yes, inside_below, inside_above, turn_value_law}

-- the hit of a sample that has a value on the masked lines
hit_inside : (r : Range) (sample v : ℕ) → gathered 32 sample r.mask ≡ v → hit_of r sample ≡ inside r.lower r.upper v
unfolding range_hit
hit_inside r sample v e = ap (inside r.lower r.upper) e

back : (mask v : ℕ) → mask < 2 ^ 32 → v < 2 ^ ones mask → gathered 32 (scattered 32 v mask) mask ≡ v
back mask v hm hv = gather_back 32 v mask (rw (ones_in_law 32 mask hm) hv)

-- What is known of a reduced range.
pub record Reduced (r : Range) : Type 0 where
  pub accepted : Accepted r
  pub busy : idle r ≡ false

-- ---- a line that one range has and the other has not

-- every masked line of a reduced range matters
pub turn_sample_law : (r : Range) (i : ℕ) → Reduced r → i < 32 → line r.mask i ≡ 1
    → hit_of r (turn_sample r i) ≡ hit_of r (flip_line i (turn_sample r i)) → ⊥
unfolding turn_sample
turn_sample_law r i red hi hl e =
    let mask = r.mask in
    let j = ones_in i mask in
    let v = turn_value r.lower r.upper j in
    let a = red.accepted in
    let hj : j < ones mask = rw (ones_in_law 32 mask red.accepted.fits) at (rank_lt 32 i mask hi hl) in
    let t = turn_value_law r.lower r.upper (ones mask) j a.positive a.ordered a.within hj (busy_parts r red.busy) in
    let at_v = back mask v red.accepted.fits t.0 in
    let at-flip = flip_masked 32 i (scattered 32 v mask) mask hi hl ∙ ap (flip_line j) at_v in
    t.1 (sym (hit_inside r (scattered 32 v mask) v at_v) ∙ e ∙ hit_inside r (flip_line i (scattered 32 v mask)) (flip_line j v) at-flip)

pub turn_sample_lt : (r : Range) (i : ℕ) → turn_sample r i < 2 ^ 32
unfolding turn_sample
turn_sample_lt r i = scatter_lt 32 (turn_value r.lower r.upper (ones_in i r.mask)) r.mask

-- an unmasked line does not matter
pub flip_hit : (r : Range) (i sample : ℕ) → line r.mask i ≡ 0 → hit_of r (flip_line i sample) ≡ hit_of r sample
flip_hit r i sample h =
    hit_inside r (flip_line i sample) (gathered 32 sample r.mask) (flip_unmasked 32 i sample r.mask h)
    ∙ sym (hit_inside r sample (gathered 32 sample r.mask) refl)

tell_line_law : (a b : Range) (i : ℕ) → Reduced a → i < 32 → line a.mask i ≡ 1 → line b.mask i ≡ 0
    → TellsApart (hit a) (hit b) (Sample (tell_line a b i))
unfolding tell_line
tell_line_law a b i ra hi ha hb = go (beq (hit_of a s) (hit_of b s)) refl
  where
    s : ℕ
    s = turn_sample a i

    go : (t : Bool) → beq (hit_of a s) (hit_of b s) ≡ t → TellsApart (hit a) (hit b) (Sample (cond t (flip_line i s) s))
    go true e =
        record {
          fits = flip_lt 32 i s hi (turn_sample_lt a i);
          tells = λ p.
              turn_sample_law a i ra hi ha
              (agree (hit_of a s) (hit_of b s) (T_true (beq (hit_of a s) (hit_of b s)) e) ∙ sym (flip_hit b i s hb) ∙ sym p);
        }
    go false e = record { fits = turn_sample_lt a i; tells = disagree (hit_of a s) (hit_of b s) e }

-- the first line at which two masks differ
pub differ_line : (n m m' : ℕ) → m < 2 ^ n → m' < 2 ^ n → (m ≡ m' → ⊥)
    → (first_differ n m m' < n) × (line m (first_differ n m m') ≡ line m' (first_differ n m m') → ⊥)
unfolding first_differ
differ_line zero m m' h h' ne = absurd (ne (omega arith))
differ_line (suc n) m m' h h' ne =
    go (eqb (m % 2) (m' % 2)) refl (differ_line n (m / 2) (m' / 2) (omega (arith, two-pow-succ n)) (omega (arith, two-pow-succ n)))
  where
    i : ℕ
    i = first_differ n (m / 2) (m' / 2)

    go : (t : Bool) → eqb (m % 2) (m' % 2) ≡ t → ((m / 2 ≡ m' / 2 → ⊥) → (i < n) × (line (m / 2) i ≡ line (m' / 2) i → ⊥))
        → (cond t (suc i) 0 < suc n) × (line m (cond t (suc i) 0) ≡ line m' (cond t (suc i) 0) → ⊥)
    go true e ih =
        let low = eqb-true (m % 2) (m' % 2) e in
        let next = ih (λ p. ne (omega arith)) in
        (omega (arith, next.0), λ p. next.1 (sym (line_half m i) ∙ p ∙ line_half m' i))
    go false e ih = (omega arith, λ p. eqb-false (m % 2) (m' % 2) e (sym (line_zero m) ∙ p ∙ line_zero m'))

-- the lowest lines are alike, or the number of the differing lines is odd
lowest_differs : (x y b q t : ℕ) → x < 2 → y < 2 → b ≡ q * 2 + differ x y → cond (eqb x y) (suc t) 0 ≡ under (b % 2) t
lowest_differs zero zero b q t hx hy e = let even : b % 2 ≡ 0 = omega (arith, e) in rw even
lowest_differs zero (suc zero) b q t hx hy e = let odd : b % 2 ≡ 1 = omega (arith, e) in rw odd
lowest_differs zero (suc (suc y)) b q t hx hy e = absurd (omega arith)
lowest_differs (suc zero) zero b q t hx hy e = let odd : b % 2 ≡ 1 = omega (arith, e) in rw odd
lowest_differs (suc zero) (suc zero) b q t hx hy e = let even : b % 2 ≡ 0 = omega (arith, e) in rw even
lowest_differs (suc zero) (suc (suc y)) b q t hx hy e = absurd (omega arith)
lowest_differs (suc (suc x)) y b q t hx hy e = absurd (omega arith)

-- the same line by the machine's count
pub first_differ_law : (n m m' : ℕ) → first_differ n m m' ≡ count_trailing_zeros n (bit_xor m m')
unfolding first_differ count_trailing_zeros
first_differ_law zero m m' = refl
first_differ_law (suc n) m m' =
    rw (first_differ_law n (m / 2) (m' / 2), ← xor_shr m m' 1)
    (lowest_differs (m % 2) (m' % 2) (bit_xor m m') _ _ (bit_lt m) (bit_lt m') (xor_step m m'))

-- by that count, the line at which they differ
module _ (m m' : ℕ) (h : m < 2 ^ 32) (h' : m' < 2 ^ 32) (ne : m ≡ m' → ⊥) where
  pub differ_within : count_trailing_zeros 32 (bit_xor m m') < 32
  differ_within = rw (← first_differ_law 32 m m') (differ_line 32 m m' h h' ne).0

  pub differ_lines : line m (count_trailing_zeros 32 (bit_xor m m')) ≡ line m' (count_trailing_zeros 32 (bit_xor m m')) → ⊥
  differ_lines = rw (← first_differ_law 32 m m') (differ_line 32 m m' h h' ne).1

tell_masks_law : (a b : Range) (i : ℕ) → Reduced a → Reduced b → i < 32 → (line a.mask i ≡ line b.mask i → ⊥)
    → TellsApart (hit a) (hit b) (Sample (tell_masks a b i))
unfolding tell_masks
tell_masks_law a b i ra rb hi ne = go (eqb (line a.mask i) 1) refl
  where
    go : (t : Bool) → eqb (line a.mask i) 1 ≡ t → TellsApart (hit a) (hit b) (Sample (cond t (tell_line a b i) (tell_line b a i)))
    go true e =
        let one = eqb-true (line a.mask i) 1 e in
        tell_line_law a b i ra hi one (omega (arith, bit_lt (b.mask / 2 ^ i)))
    go false e =
        let not-one = eqb-false (line a.mask i) 1 e in
        let t = tell_line_law b a i rb hi (omega (arith, bit_lt (a.mask / 2 ^ i), bit_lt (b.mask / 2 ^ i))) (omega (arith, bit_lt (a.mask / 2 ^ i))) in
        record { fits = t.fits; tells = λ p. t.tells (sym p) }

-- ---- two ranges over one mask

lower_tells : (l u l' u' : ℕ) → l ≤ u → l' ≤ u' → (l ≡ l' → ⊥) → inside l u (min l l') ≡ inside l' u' (min l l') → ⊥
lower_tells l u l' u' o o' ne = go (dec_lt l l')
  where
    go : Dec (l < l') → inside l u (min l l') ≡ inside l' u' (min l l') → ⊥
    go (yes h) =
        let m : min l l' ≡ l = omega arith in
        rw m (λ p. true≢false (sym (inside_yes l u l (omega arith) o) ∙ p ∙ inside_below l' u' l h))
    go (no h) =
        let m : min l l' ≡ l' = omega arith in
        rw m (λ p. true≢false (sym (inside_yes l' u' l' (omega arith) o') ∙ sym p ∙ inside_below l u l' (omega arith)))

upper_tells : (l u l' u' : ℕ) → l ≤ u → l' ≤ u' → (u ≡ u' → ⊥) → inside l u (max u u') ≡ inside l' u' (max u u') → ⊥
upper_tells l u l' u' o o' ne = go (dec_lt u u')
  where
    go : Dec (u < u') → inside l u (max u u') ≡ inside l' u' (max u u') → ⊥
    go (yes h) =
        let m : max u u' ≡ u' = omega arith in
        rw m (λ p. true≢false (sym (inside_yes l' u' u' o' (omega arith)) ∙ sym p ∙ inside_above l u u' h))
    go (no h) =
        let m : max u u' ≡ u = omega arith in
        rw m (λ p. true≢false (sym (inside_yes l u u o (omega arith)) ∙ p ∙ inside_above l' u' u (omega arith)))

module _ (a b : Range) (ra : Reduced a) (rb : Reduced b) (masks : a.mask ≡ b.mask) where
  upper_lt : a.upper < 2 ^ ones a.mask
  upper_lt = let w = ra.accepted.within in omega (arith, pow_pos (ones a.mask))

  other_upper_lt : b.upper < 2 ^ ones a.mask
  other_upper_lt = rw masks (let w = rb.accepted.within in omega (arith, pow_pos (ones b.mask)))

  -- a value on the masked lines tells the ranges apart if it lies within the bounds of one and not of the other
  at_value : (v : ℕ) → v < 2 ^ ones a.mask → (inside a.lower a.upper v ≡ inside b.lower b.upper v → ⊥)
      → TellsApart (hit a) (hit b) (Sample (scattered 32 v a.mask))
  at_value v hv ne =
      let s = scattered 32 v a.mask in
      let at_v = back a.mask v ra.accepted.fits hv in
      record {
        fits = scatter_lt 32 v a.mask;
        tells = λ p. ne (sym (hit_inside a s v at_v) ∙ p ∙ hit_inside b s v (ap (gathered 32 s) (sym masks) ∙ at_v));
      }

-- what a telling says of two reduced ranges
abbrev pub Settled : Range → Range → Telling → Type 0
Settled a b Alike = a ≡ b
Settled a b (Apart i) = TellsApart (hit a) (hit b) i

settled_bounds : (a b : Range) → Reduced a → Reduced b → a.mask ≡ b.mask → Settled a b (tell_bounds a b)
unfolding tell_bounds
settled_bounds a b ra rb masks = go (eqb a.lower b.lower) refl (eqb a.upper b.upper) refl
  where
    go : (t : Bool) → eqb a.lower b.lower ≡ t → (t' : Bool) → eqb a.upper b.upper ≡ t'
        → Settled a b (cond t (cond t' Alike (Apart (Sample (scattered 32 (max a.upper b.upper) a.mask))))
        (Apart (Sample (scattered 32 (min a.lower b.lower) a.mask))))
    go true e true e' = range_path a b (eqb-true a.lower b.lower e) (eqb-true a.upper b.upper e') masks
    go true e false e' =
        at_value a b ra rb masks (max a.upper b.upper) (omega (arith, upper_lt a b ra rb masks, other_upper_lt a b ra rb masks))
        (upper_tells a.lower a.upper b.lower b.upper ra.accepted.ordered rb.accepted.ordered (eqb-false a.upper b.upper e'))
    go false e t' e' =
        let o = ra.accepted.ordered in
        at_value a b ra rb masks (min a.lower b.lower) (omega (arith, upper_lt a b ra rb masks))
        (lower_tells a.lower a.upper b.lower b.upper o rb.accepted.ordered (eqb-false a.lower b.lower e))

pub settled : (a b : Range) → Reduced a → Reduced b → Settled a b (tell_reduced a b)
unfolding tell_reduced
settled a b ra rb = go (eqb a.mask b.mask) refl
  where
    i : ℕ
    i = first_differ 32 a.mask b.mask

    go : (t : Bool) → eqb a.mask b.mask ≡ t → Settled a b (cond t (tell_bounds a b) (Apart (Sample (tell_masks a b i))))
    go true e = settled_bounds a b ra rb (eqb-true a.mask b.mask e)
    go false e =
        let d = differ_line 32 a.mask b.mask ra.accepted.fits rb.accepted.fits (eqb-false a.mask b.mask e) in
        tell_masks_law a b i ra rb d.0 d.1

-- ---- any two accepted ranges

pub reduced : (r : Range) → Accepted r → Reduced (reduce_of r)
unfolding reduce_of
reduced r a =
    record {
      accepted = reduce_accepted 32 r a;
      busy = reduce_not_idle 32 r (upper_fits r.lower r.upper r.mask a);
    }

pub reduced_hit : (r : Range) (sample : ℕ) → hit_of (reduce_of r) sample ≡ hit_of r sample
unfolding reduce_of
reduced_hit r sample = reduce_hit 32 r sample

-- the same over any input
pub reduced_alike : (r : Range) (i : Input) → hit (reduce_of r) i ≡ hit r i
reduced_alike r Nothing = refl
reduced_alike r (Sample s) = reduced_hit r s
reduced_alike r (Samples earlier later) = refl
reduced_alike r (Sources s) = refl

module _ (a b : Range) (aa : Accepted a) (ab : Accepted b) where
  both_settled : Settled (reduce_of a) (reduce_of b) (tell_reduced (reduce_of a) (reduce_of b))
  both_settled = settled (reduce_of a) (reduce_of b) (reduced a aa) (reduced b ab)

  -- no sample tells them apart, or the one that is given does
  pub tells : Says (hit a) (hit b) (range_telling a b)
  unfolding range_telling
  tells = go (tell_reduced (reduce_of a) (reduce_of b)) both_settled
    where
      go : (t : Telling) → Settled (reduce_of a) (reduce_of b) t → Says (hit a) (hit b) t
      go Alike e = λ i h. sym (reduced_alike a i) ∙ ap (λ (r : Range). hit r i) e ∙ reduced_alike b i
      go (Apart i) p = record { fits = p.fits; tells = λ q. p.tells (reduced_alike a i ∙ q ∙ sym (reduced_alike b i)) }

  -- two ranges that hit alike on every sample are equal without the lines that cannot matter
  pub alike_reduced : HitAlike (hit a) (hit b) → reduce_of a ≡ reduce_of b
  alike_reduced alike = go (tell_reduced (reduce_of a) (reduce_of b)) both_settled
    where
      go : (t : Telling) → Settled (reduce_of a) (reduce_of b) t → reduce_of a ≡ reduce_of b
      go Alike e = e
      go (Apart i) p = absurd (p.tells (reduced_alike a i ∙ alike i p.fits ∙ sym (reduced_alike b i)))
