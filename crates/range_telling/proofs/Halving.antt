-- Dropping lines that cannot matter changes no hit, keeps the range accepted, and ends with a range whose lowest masked line matters.
-- Assumes nothing.
use Rattle.std.proofs.Common.{◌≡◌, refl, sym, ap, ap₂, ◌∙◌, Bool, true, false, cond, ◌&&◌, ◌⊎◌, inl, inr, ⊎_elim, ℕ, zero, suc, ◌+◌, ◌-◌, ◌/◌, ◌%◌, ◌^◌, ◌≤◌, ◌<◌, lt_of_le_of_lt, arith, eqb-true, eqb}
use mathlib.Core.Bool.{and-false}
use native.Mathlib.Nat.{two-pow-succ}
use borrow.Author.Tests.{eqb-false}
use lib.Count.{ones}
use Rattle.lines.specs.Line.{line}
use Rattle.lines.specs.Gather.{gathered, drop_lowest}
use Rattle.lines.proofs.Truth.{both_true, both_false, leb_iff}
use Rattle.lines.proofs.Ones.{ones_in_law}
use Rattle.lines.proofs.Drop.{gather_drop, ones_drop, drop_le, drop_line}
use Rattle.range.specs.declared.Range.{Range}
use Rattle.range.specs.Rule.{range_hit, hit_of, Accepted}
use Rattle.range_telling.specs.Reduce.{idle, halved, reduce_from}

pub idle_parts : (r : Range) → idle r ≡ true → (r.lower % 2 ≡ 0) × (r.upper % 2 ≡ 1)
idle_parts r e =
    let t = both_true (eqb (r.lower % 2) 0) (eqb (r.upper % 2) 1) e in
    (eqb-true (r.lower % 2) 0 t.0, eqb-true (r.upper % 2) 1 t.1)

pub busy_parts : (r : Range) → idle r ≡ false → (r.lower % 2 ≡ 1) ⊎ (r.upper % 2 ≡ 0)
busy_parts r e =
    ⊎_elim
    (λ f. let n = eqb-false (r.lower % 2) 0 f in inl (omega arith))
    (λ f. let n = eqb-false (r.upper % 2) 1 f in inr (omega arith))
    (both_false (eqb (r.lower % 2) 0) (eqb (r.upper % 2) 1) e)

-- ---- one line

pub halved_hit : (r : Range) (sample : ℕ) → idle r ≡ true → hit_of (halved r) sample ≡ hit_of r sample
unfolding range_hit
halved_hit r sample e =
    let p = idle_parts r e in
    let x = gathered 32 sample r.mask in
    rw (gather_drop 32 sample r.mask)
    (ap₂ (λ (p q : Bool). p && q)
    (leb_iff (r.lower / 2) (x / 2) r.lower x (λ l. omega arith) (λ l. omega arith))
    (leb_iff (x / 2) (r.upper / 2) x r.upper (λ l. omega arith) (λ l. omega arith)))

pub halved_mask : (mask : ℕ) → mask < 2 ^ 32 → drop_lowest 32 mask < 2 ^ 32
halved_mask mask h = lt_of_le_of_lt (drop_le 32 mask) h

pub ones_halved : (mask : ℕ) → mask < 2 ^ 32 → ones (drop_lowest 32 mask) ≡ ones mask - 1
ones_halved mask h =
    sym (ones_in_law 32 (drop_lowest 32 mask) (lt_of_le_of_lt (drop_le 32 mask) h)) ∙ ones_drop 32 mask ∙ ap (λ (k : ℕ). k - 1) (ones_in_law 32 mask h)

-- half of an odd number of k bits has k - 1 bits
half_within : (k u : ℕ) → u ≤ 2 ^ k - 1 → u % 2 ≡ 1 → u / 2 ≤ 2 ^ (k - 1) - 1
half_within zero u h o = absurd (omega arith)
half_within (suc k) u h o =
    let less : suc k - 1 ≡ k = omega arith in
    rw less (omega (arith, two-pow-succ k))

pub halved_accepted : (r : Range) → Accepted r → idle r ≡ true → Accepted (halved r)
halved_accepted r a e =
    let p = idle_parts r e in
    record {
      fits = halved_mask r.mask a.fits;
      positive = omega arith;
      ordered = omega arith;
      within = rw (ones_halved r.mask a.fits) (half_within (ones r.mask) r.upper a.within p.1);
    }

-- ---- all lines

pub reduce_turn : (n : ℕ) (r : Range) → idle r ≡ true → reduce_from (suc n) r ≡ reduce_from n (halved r)
unfolding reduce_from
reduce_turn n r e = ap (λ (t : Bool). cond t (reduce_from n (halved r)) r) e

pub reduce_next : (k : ℕ) (r : Range) → k < 32 → idle r ≡ true → reduce_from (32 - (k + 1)) (halved r) ≡ reduce_from (32 - k) r
reduce_next k r h e =
    let more : 32 - k ≡ suc (32 - (k + 1)) = omega arith in
    rw more (sym (reduce_turn (32 - (k + 1)) r e))

pub reduce_end : (n : ℕ) (r : Range) → n ≡ 0 → reduce_from n r ≡ r
unfolding reduce_from
reduce_end n r e = rw e

pub reduce_stop : (n : ℕ) (r : Range) → idle r ≡ false → reduce_from n r ≡ r
unfolding reduce_from
reduce_stop zero r e = refl
reduce_stop (suc n) r e = ap (λ (t : Bool). cond t (reduce_from n (halved r)) r) e

-- whatever the bounds, the range that is left has a lowest masked line that matters, by its bounds
pub reduce_not_idle : (n : ℕ) (r : Range) → r.upper < 2 ^ n → idle (reduce_from n r) ≡ false
unfolding reduce_from
reduce_not_idle zero r h =
    let even : r.upper % 2 ≡ 0 = omega arith in
    ap (λ (b : Bool). eqb (r.lower % 2) 0 && b) (ap (λ (x : ℕ). eqb x 1) even) ∙ and-false (eqb (r.lower % 2) 0)
reduce_not_idle (suc n) r h = go (idle r) refl (reduce_not_idle n (halved r) (omega (arith, two-pow-succ n)))
  where
    go : (t : Bool) → idle r ≡ t → idle (reduce_from n (halved r)) ≡ false → idle (cond t (reduce_from n (halved r)) r) ≡ false
    go true e ih = ih
    go false e ih = e

pub reduce_hit : (n : ℕ) (r : Range) (sample : ℕ) → hit_of (reduce_from n r) sample ≡ hit_of r sample
unfolding reduce_from
reduce_hit zero r sample = refl
reduce_hit (suc n) r sample = go (idle r) refl (reduce_hit n (halved r) sample)
  where
    go : (t : Bool) → idle r ≡ t → hit_of (reduce_from n (halved r)) sample ≡ hit_of (halved r) sample
        → hit_of (cond t (reduce_from n (halved r)) r) sample ≡ hit_of r sample
    go true e ih = ih ∙ halved_hit r sample e
    go false e ih = refl

pub reduce_accepted : (n : ℕ) (r : Range) → Accepted r → Accepted (reduce_from n r)
unfolding reduce_from
reduce_accepted zero r a = a
reduce_accepted (suc n) r a = go (idle r) refl (reduce_accepted n (halved r))
  where
    go : (t : Bool) → idle r ≡ t → (Accepted (halved r) → Accepted (reduce_from n (halved r)))
        → Accepted (cond t (reduce_from n (halved r)) r)
    go true e ih = ih (halved_accepted r a e)
    go false e ih = a

-- no line is masked that was not
pub reduce_masks : (n : ℕ) (r : Range) (i : ℕ) → line (reduce_from n r).mask i ≡ 1 → line r.mask i ≡ 1
unfolding reduce_from
reduce_masks zero r i h = h
reduce_masks (suc n) r i h = go (idle r) (reduce_masks n (halved r) i) h
  where
    go : (t : Bool) → (line (reduce_from n (halved r)).mask i ≡ 1 → line (halved r).mask i ≡ 1)
        → line (cond t (reduce_from n (halved r)) r).mask i ≡ 1 → line r.mask i ≡ 1
    go true ih h = drop_line 32 r.mask i (ih h)
    go false ih h = h
