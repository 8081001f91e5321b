-- The masked line of rank j cannot matter exactly when 2 ^ (j + 1) divides lower and upper + 1. Assumes nothing.
use Rattle.std.proofs.Common.{◌≡◌, refl, sym, ap, ◌∙◌, Bool, true, false, cond, inl, inr, ⊎_elim, ◌↔◌, ℕ, zero, suc, ◌+◌, ◌*◌, ◌/◌, ◌%◌, ◌^◌, ◌≤◌, ◌<◌, add-one, arith}
use Prim.Native.Nat.{◌∣◌}
use native.Mathlib.Nat.{two-pow-succ, dvd_iff_mod-eq-zero}
use lib.Count.{ones_in}
use lib.Pow.{mod-pow-add}
use Rattle.lines.specs.Line.{line}
use Rattle.lines.proofs.Drop.{ones_drop_in, drop_first, drop_later}
use Rattle.range.specs.declared.Range.{Range}
use Rattle.range.specs.Rule.{Accepted}
use Rattle.range_telling.specs.Matter.{CannotMatter}
use Rattle.range_telling.specs.Reduce.{idle, halved, reduce_from, reduce_of}
use Rattle.range.proofs.Carry.{lower_fits}
use Rattle.range_telling.proofs.Halving.{idle_parts, busy_parts, reduce_masks}
use Rattle.range_telling.proofs.Turn.{bit_cases}
use Rattle.range_telling.proofs.Dropped.{Settled, settled}

-- 2 ^ j divides lower and upper + 1, as remainders
abbrev Even : (j : ℕ) → Range → Type 0
Even j r = (r.lower % 2 ^ j ≡ 0) × ((r.upper + 1) % 2 ^ j ≡ 0)

-- the remainder by 2 ^ (j + 1) is that of the half by 2 ^ j, and the last bit
half_mod : (x j : ℕ) → x % 2 ^ suc j ≡ x / 2 % 2 ^ j * 2 + x % 2
half_mod x j = ap (λ (n : ℕ). x % 2 ^ n) (sym (add-one j)) ∙ mod-pow-add x j 1

next_half : (x : ℕ) → x % 2 ≡ 1 → (x + 1) / 2 ≡ x / 2 + 1
next_half x h = omega arith

-- the halved range is divided once less
even_halved : (j : ℕ) (r : Range) → idle r ≡ true → Even j (halved r) ↔ Even (suc j) r
even_halved j r e =
    let p = idle_parts r e in
    let low = half_mod r.lower j in
    let high = half_mod (r.upper + 1) j in
    let next = ap (λ (x : ℕ). x % 2 ^ j) (next_half r.upper p.1) in
    (λ v. (omega (arith, v.0), omega (arith, v.1)), λ v. (omega (arith, v.0), omega (arith, v.1)))

-- a range that is divided at all has an idle lowest line
even_idle : (j : ℕ) (r : Range) → idle r ≡ false → Even (suc j) r → ⊥
even_idle j r e v =
    let low = half_mod r.lower j in
    let high = half_mod (r.upper + 1) j in
    ⊎_elim (λ odd. omega (arith, v.0)) (λ even. omega (arith, v.1)) (busy_parts r e)

-- a line that is gone stays gone
stays_gone : (n : ℕ) (r : Range) (i : ℕ) → line r.mask i ≡ 0 → line (reduce_from n r).mask i ≡ 0
stays_gone n r i h =
    ⊎_elim (λ e. e) (λ e. let one = reduce_masks n r i e in absurd (omega arith)) (bit_cases ((reduce_from n r).mask / 2 ^ i))

-- which masked lines go
gone_iff : (n : ℕ) (r : Range) (i : ℕ) → i < 32 → 1 ≤ r.lower → r.lower < 2 ^ n → line r.mask i ≡ 1
    → (line (reduce_from n r).mask i ≡ 0) ↔ Even (suc (ones_in i r.mask)) r
unfolding reduce_from
gone_iff zero r i hi l h hm = absurd (omega arith)
gone_iff (suc n) r i hi l h hm = go (idle r) refl (ones_in i r.mask) refl (gone_iff n (halved r) i hi)
  where
    go : (t : Bool) → idle r ≡ t → (j : ℕ) → ones_in i r.mask ≡ j
        → (1 ≤ r.lower / 2 → r.lower / 2 < 2 ^ n → line (halved r).mask i ≡ 1
        → (line (reduce_from n (halved r)).mask i ≡ 0) ↔ Even (suc (ones_in i (halved r).mask)) (halved r))
        → (line (cond t (reduce_from n (halved r)) r).mask i ≡ 0) ↔ Even (suc j) r
    go true e zero ej rest =
        let p = idle_parts r e in
        (λ g. (p.0, omega arith), λ v. stays_gone n (halved r) i (drop_first 32 r.mask i hi ej))
    go true e (suc j) ej rest =
        let p = idle_parts r e in
        let rank : ones_in i (halved r).mask ≡ j = omega (arith, ones_drop_in 32 r.mask i (omega arith)) in
        let ih : (line (reduce_from n (halved r)).mask i ≡ 0) ↔ Even (suc j) (halved r)
        = rw rank at (rest (omega arith) (omega (arith, two-pow-succ n)) (drop_later 32 r.mask i hi (omega arith) ∙ hm)) in
        let once = even_halved (suc j) r e in
        (λ g. once.0 (ih.0 g), λ v. ih.1 (once.1 v))
    go false e j ej rest = (λ g. absurd (omega arith), λ v. absurd (even_idle j r e v))

reduced_gone : (r : Range) (i : ℕ) → i < 32 → Accepted r → line r.mask i ≡ 1
    → (line (reduce_of r).mask i ≡ 0) ↔ Even (suc (ones_in i r.mask)) r
unfolding reduce_of
reduced_gone r i hi a hm = gone_iff 32 r i hi a.positive (lower_fits r.lower r.upper r.mask a) hm

pub cannot_matter_iff : (r : Range) (i : ℕ) → Accepted r → i < 32 → line r.mask i ≡ 1
    → CannotMatter r i ↔ ((2 ^ suc (ones_in i r.mask) ∣ r.lower) × (2 ^ suc (ones_in i r.mask) ∣ r.upper + 1))
cannot_matter_iff r i a hi hm =
    let m = 2 ^ suc (ones_in i r.mask) in
    let low = dvd_iff_mod-eq-zero m {n = r.lower} in
    let high = dvd_iff_mod-eq-zero m {n = r.upper + 1} in (
      λ none. let v = gone.0 (is_gone none (settled r i a hi)) in (low.1 v.0, high.1 v.1),
      λ v. is_none (gone.1 (low.0 v.0, high.0 v.1)) (settled r i a hi),
    )
  where
    gone : (line (reduce_of r).mask i ≡ 0) ↔ Even (suc (ones_in i r.mask)) r
    gone = reduced_gone r i hi a hm

    is_gone : CannotMatter r i → Settled r i → line (reduce_of r).mask i ≡ 0
    is_gone none (inl e) = e.0
    is_gone none (inr e) = absurd (e.1 none)

    is_none : line (reduce_of r).mask i ≡ 0 → Settled r i → CannotMatter r i
    is_none g (inl e) = e.1
    is_none g (inr e) = let one = e.0 in absurd (omega arith)
