-- How many of the lowest lines are masked. Assumes nothing.
use mathlib.Core.Path.{◌≡◌, refl, sym, ap, ◌∙◌}
use Prim.Native.Nat.{ℕ, zero, suc, ◌+◌, ◌/◌, ◌%◌, ◌^◌, ◌≤◌, ◌<◌}
use native.Mathlib.Nat.{add-zero, zero-add, suc-add, div-one, mod-lt, two-pow-succ}
use native.Mathlib.Decide.{dec_lt}
use native.Mathlib.Omega.{arith}
use lib.Pow.{pow_pos}
use lib.Count.{ones, ones_in, ones_step}
use Rattle.lines.proofs.Digit.{half_lines, cut_lowest, cut_others}

-- of a mask that has n lines, all masked lines are among the n lowest
pub ones_in_law : (n mask : ℕ) → mask < 2 ^ n → ones_in n mask ≡ ones mask
unfolding ones_in ones
ones_in_law zero mask h = ap ones (let z : 0 ≡ mask = omega arith in z)
ones_in_law (suc n) mask h =
    ap (λ (k : ℕ). mask % 2 + k) (ones_in_law n (mask / 2) (omega (arith, two-pow-succ n))) ∙ sym (ones_step mask)

pub ones_in_le : (n mask : ℕ) → ones_in n mask ≤ n
unfolding ones_in
ones_in_le zero mask = omega arith
ones_in_le (suc n) mask = let ih = ones_in_le n (mask / 2) in omega arith

pub ones_pos : (n mask : ℕ) → 0 < mask → mask < 2 ^ n → 0 < ones_in n mask
unfolding ones_in
ones_pos zero mask h l = absurd (omega arith)
ones_pos (suc n) mask h l = go (dec_lt 0 (mask / 2)) (λ p. ones_pos n (mask / 2) p (omega (arith, two-pow-succ n)))
  where
    go : Dec (0 < mask / 2) → (0 < mask / 2 → 0 < ones_in n (mask / 2)) → 0 < mask % 2 + ones_in n (mask / 2)
    go (yes p) ih = let some = ih p in omega arith
    go (no q) ih = omega arith

-- the masked ones of the i lowest lines, cut off
pub ones_cut : (i mask : ℕ) → ones_in i (mask % 2 ^ i) ≡ ones_in i mask
unfolding ones_in
ones_cut zero mask = refl
ones_cut (suc i) mask = rw (cut_lowest i mask, cut_others i mask, ones_cut i (mask / 2))

pub ones_below : (i mask : ℕ) → ones (mask % 2 ^ i) ≡ ones_in i mask
ones_below i mask = sym (ones_in_law i (mask % 2 ^ i) (mod-lt mask (pow_pos i))) ∙ ones_cut i mask

-- the masked lines of k + n lines are those from line k up, and those of the k lowest
pub ones_split : (k n mask : ℕ) → ones_in (k + n) mask ≡ ones_in n (mask / 2 ^ k) + ones_in k mask
unfolding ones_in
ones_split zero n mask = ap (λ (j : ℕ). ones_in j mask) (zero-add n) ∙ ap (ones_in n) (sym (div-one mask)) ∙ sym (add-zero (ones_in n (mask / 1)))
ones_split (suc k) n mask =
    let rest = ones_split k n (mask / 2) ∙ ap (λ (x : ℕ). ones_in n x + ones_in k (mask / 2)) (half_lines mask k) in
    ap (λ (j : ℕ). ones_in j mask) (suc-add k n)
    ∙ (let all : mask % 2 + ones_in (k + n) (mask / 2) ≡ ones_in n (mask / 2 ^ suc k) + (mask % 2 + ones_in k (mask / 2)) = omega arith in all)
