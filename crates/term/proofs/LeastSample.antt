-- The least sample that tells two patterns apart: it does, and no lesser sample does. Assumes nothing.
-- A number is within a mask where cutting it to the mask changes nothing.
use Rattle.std.proofs.Common.{◌≡◌, refl, sym, ap, ◌∙◌, ◌⊎◌, inl, inr, ⊎_elim, ℕ, zero, suc, ◌+◌, ◌/◌, ◌%◌, ◌^◌, ◌<◌, ◌≤◌, arith, bit_and, bit_xor}
use native.Mathlib.Nat.{two-pow-succ}
use lib.Arith.{bin_ind}
use lib.Bits.{differ, and_step, and_shr, and_le_l, xor_step, xor_shr}
use lib.Count.{count_trailing_zeros}

-- ---- within a mask

pub cut_within : (t m : ℕ) → bit_and (bit_and t m) m ≡ bit_and t m
cut_within =
    bin_ind (λ (t : ℕ). (m : ℕ) → bit_and (bit_and t m) m ≡ bit_and t m) (λ m. refl) (λ t ih m.
    let half : bit_and t m / 2 ≡ bit_and (t / 2) (m / 2) = and_shr t m 1 in
    let upper : bit_and (bit_and t m / 2) (m / 2) ≡ bit_and t m / 2 = ap (λ (x : ℕ). bit_and x (m / 2)) half ∙ ih (m / 2) ∙ sym half in
    omega (arith, and_step (bit_and t m) m, and_step t m))

-- the lines above the lowest, and the lowest
half_within : (a m : ℕ) → bit_and a m ≡ a → bit_and (a / 2) (m / 2) ≡ a / 2
half_within a m e = omega (arith, and_step a m)

low_within : (a m : ℕ) → bit_and a m ≡ a → a % 2 ≤ m % 2
low_within a m e = omega (arith, and_step a m)

-- ---- the lowest line of two masks' difference

unfoldable pub lowest : ℕ → ℕ → ℕ
lowest k x = 2 ^ count_trailing_zeros k x

lowest_none : (x : ℕ) → lowest 0 x ≡ 1
unfolding lowest count_trailing_zeros
lowest_none x = refl

lowest_odd : (k x : ℕ) → x % 2 ≡ 1 → lowest (suc k) x ≡ 1
unfolding lowest count_trailing_zeros
lowest_odd k x e = rw e

lowest_even : (k x : ℕ) → x % 2 ≡ 0 → lowest (suc k) x ≡ lowest k (x / 2) + lowest k (x / 2)
unfolding lowest count_trailing_zeros
lowest_even k x e = rw e (two-pow-succ (count_trailing_zeros k (x / 2)))

-- the lowest lines of two masks: alike, or only in the first, or only in the second
differ_cases : (x y : ℕ) → x < 2 → y < 2 → ((x ≡ y) × (differ x y ≡ 0)) ⊎ (((x ≡ 1) × (y ≡ 0) × (differ x y ≡ 1)) ⊎ ((x ≡ 0) × (y ≡ 1) × (differ x y ≡ 1)))
differ_cases zero zero hx hy = inl (refl, refl)
differ_cases zero (suc zero) hx hy = inr (inr (refl, refl, refl))
differ_cases zero (suc (suc y)) hx hy = absurd (omega arith)
differ_cases (suc zero) zero hx hy = inr (inl (refl, refl, refl))
differ_cases (suc zero) (suc zero) hx hy = inl (refl, refl)
differ_cases (suc zero) (suc (suc y)) hx hy = absurd (omega arith)
differ_cases (suc (suc x)) y hx hy = absurd (omega arith)

mask_cases : (k m n : ℕ)
    → ((m % 2 ≡ n % 2) × (lowest (suc k) (bit_xor m n) ≡ lowest k (bit_xor (m / 2) (n / 2)) + lowest k (bit_xor (m / 2) (n / 2))))
    ⊎ (((m % 2 ≡ 1) × (n % 2 ≡ 0) × (lowest (suc k) (bit_xor m n) ≡ 1)) ⊎ ((m % 2 ≡ 0) × (n % 2 ≡ 1) × (lowest (suc k) (bit_xor m n) ≡ 1)))
mask_cases k m n =
    let x : ℕ = bit_xor m n in
    let half : x / 2 ≡ bit_xor (m / 2) (n / 2) = xor_shr m n 1 in
    ⊎_elim
    (λ w. inl (w.0, rw half at (lowest_even k x (omega (arith, xor_step m n)))))
    (λ v. inr (⊎_elim (λ w. inl (w.0, w.1, lowest_odd k x (omega (arith, xor_step m n)))) (λ w. inr (w.0, w.1, lowest_odd k x (omega (arith, xor_step m n)))) v))
    (differ_cases (m % 2) (n % 2) (omega arith) (omega arith))

-- ---- the target with that line

-- a sample below it that the first pattern hits is the target itself, or differs from it where the masks agree: the second hits too
same_target : (a m n s : ℕ) → bit_and a n ≡ a → s < a + 1 → bit_and s m ≡ a → bit_and s n ≡ a
same_target a m n s hn hs e =
    let is : s ≡ a = omega (arith, and_le_l s m) in
    ap (λ (x : ℕ). bit_and x n) is ∙ hn

pub below_alike : (k a m n s : ℕ) → bit_and a m ≡ a → bit_and a n ≡ a → s < a + lowest k (bit_xor m n) → bit_and s m ≡ a → bit_and s n ≡ a
below_alike zero a m n s hm hn hs e = same_target a m n s hn (omega (arith, lowest_none (bit_xor m n))) e
below_alike (suc k) a m n s hm hn hs e =
    ⊎_elim
    (λ w.
    let upper : bit_and (s / 2) (n / 2) ≡ a / 2 =
    below_alike k (a / 2) (m / 2) (n / 2) (s / 2) (half_within a m hm) (half_within a n hn) (omega (arith, and_step s m)) (omega (arith, and_step s m)) in
    omega (arith, and_step s n, and_step s m))
    (λ v. same_target a m n s hn (⊎_elim (λ w. omega arith) (λ w. omega arith) v) e)
    (mask_cases k m n)

-- s is within one mask, and the other cuts it back to a
abbrev pub Tells : (a s m n : ℕ) → Type 0
Tells a s m n = ((bit_and s m ≡ s) × (bit_and s n ≡ a)) ⊎ ((bit_and s m ≡ a) × (bit_and s n ≡ s))

-- the lowest lines of the masks differ
tells_low : (a m n s : ℕ) → bit_and a m ≡ a → bit_and a n ≡ a → m % 2 ≡ 1 → n % 2 ≡ 0 → s ≡ a + 1 → (bit_and s m ≡ s) × (bit_and s n ≡ a)
tells_low a m n s hm hn em en es =
    let half : s / 2 ≡ a / 2 = omega (arith, low_within a n hn) in
    let upper-m : bit_and (s / 2) (m / 2) ≡ a / 2 = ap (λ (x : ℕ). bit_and x (m / 2)) half ∙ half_within a m hm in
    let upper-n : bit_and (s / 2) (n / 2) ≡ a / 2 = ap (λ (x : ℕ). bit_and x (n / 2)) half ∙ half_within a n hn in
    (omega (arith, and_step s m, low_within a n hn), omega (arith, and_step s n, low_within a n hn))

-- the lowest lines agree, and the lines above them tell
tells_high : (a m n s : ℕ) → bit_and a m ≡ a → bit_and a n ≡ a → s % 2 ≡ a % 2 → Tells (a / 2) (s / 2) (m / 2) (n / 2) → Tells a s m n
tells_high a m n s hm hn e t =
    let lm = low_within a m hm in
    let ln = low_within a n hn in
    ⊎_elim (λ w. inl (omega (arith, and_step s m), omega (arith, and_step s n))) (λ w. inr (omega (arith, and_step s m), omega (arith, and_step s n))) t

pub lowest_tells : (k a m n : ℕ) → bit_and a m ≡ a → bit_and a n ≡ a → m < 2 ^ k → n < 2 ^ k → (m ≡ n → ⊥) → Tells a (a + lowest k (bit_xor m n)) m n
lowest_tells zero a m n hm hn bm bn d = absurd (d (omega arith))
lowest_tells (suc k) a m n hm hn bm bn d =
    let l : ℕ = lowest (suc k) (bit_xor m n) in
    let p : 2 ^ suc k ≡ 2 ^ k + 2 ^ k = two-pow-succ k in
    ⊎_elim
    (λ w.
    let half : (a + l) / 2 ≡ a / 2 + lowest k (bit_xor (m / 2) (n / 2)) = omega arith in
    let upper : Tells (a / 2) ((a + l) / 2) (m / 2) (n / 2) =
    rw half (lowest_tells k (a / 2) (m / 2) (n / 2) (half_within a m hm) (half_within a n hn) (omega arith) (omega arith) (λ e. d (omega arith))) in
    tells_high a m n (a + l) hm hn (omega arith) upper)
    (λ v.
    ⊎_elim
    (λ w. inl (tells_low a m n (a + l) hm hn w.0 w.1 (omega arith)))
    (λ w. let t = tells_low a n m (a + l) hn hm w.1 w.0 (omega arith) in inr (t.1, t.0))
    v)
    (mask_cases k m n)
