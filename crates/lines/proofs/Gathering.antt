-- The laws of gathering, over any number n of lines. Assumes nothing.
use mathlib.Core.Path.{◌≡◌, refl, sym, ap, ap₂, ◌∙◌}
use Prim.Native.Nat.{ℕ, zero, suc, ◌+◌, ◌*◌, ◌/◌, ◌%◌, ◌^◌, ◌<◌}
use native.Mathlib.Nat.{zero-add, add-zero, suc-add, one-mul, mul-one, mul_comm, mul_assoc, div-one, two-pow-succ, lt_of_lt_of_le}
use native.Mathlib.Numerals.{one-add}
use native.Mathlib.Omega.{arith}
use lib.Count.{ones_in}
use lib.Pow.{pow_mono, pow-add}
use Rattle.lines.specs.Gather.{pack, gathered}
use Rattle.lines.proofs.Digit.{bit_lt, half_lines, cut_lowest, cut_others}
use Rattle.lines.proofs.Ones.{ones_in_le}

pack_lt : (d bit x k : ℕ) → d < 2 → bit < 2 → x < 2 ^ k → pack d bit x < 2 ^ (d + k)
pack_lt zero bit x k hd hb hx = rw (zero-add k) hx
pack_lt (suc zero) bit x k hd hb hx = rw (one-add k) (omega (arith, two-pow-succ k))
pack_lt (suc (suc d)) bit x k hd hb hx = absurd (omega arith)

-- k masked lines make a number of k bits
pub gather_lt : (n sample mask : ℕ) → gathered n sample mask < 2 ^ ones_in n mask
unfolding gathered ones_in
gather_lt zero sample mask = omega arith
gather_lt (suc n) sample mask =
    pack_lt (mask % 2) (sample % 2) _ _ (bit_lt mask) (bit_lt sample) (gather_lt n (sample / 2) (mask / 2))

-- and n lines, masked or not, one of n bits
pub gather_lt_lines : (n sample mask : ℕ) → gathered n sample mask < 2 ^ n
gather_lt_lines n sample mask = lt_of_lt_of_le (gather_lt n sample mask) (pow_mono {i = ones_in n mask} {j = n} (ones_in_le n mask))

-- of n lines only the n lowest bits count
pub gather_cut : (n sample mask : ℕ) → gathered n (sample % 2 ^ n) (mask % 2 ^ n) ≡ gathered n sample mask
unfolding gathered
gather_cut zero sample mask = refl
gather_cut (suc n) sample mask =
    rw (cut_lowest n mask, cut_lowest n sample, cut_others n mask, cut_others n sample, gather_cut n (sample / 2) (mask / 2))

pack_above : (d bit g p q : ℕ) → d < 2 → pack d bit (g * p + q) ≡ g * (2 ^ d * p) + pack d bit q
pack_above zero bit g p q h = ap (λ (x : ℕ). g * x + q) (sym (one-mul p))
pack_above (suc zero) bit g p q h =
    let e : g * (2 * p) ≡ g * p * 2 = ap (λ (x : ℕ). g * x) (mul_comm 2 p) ∙ sym (mul_assoc g p 2) in
    rw e (omega arith)
pack_above (suc (suc d)) bit g p q h = absurd (omega arith)

-- the lines from line k up go above the masked ones of the k lowest
pub gather_split : (k n sample mask : ℕ)
    → gathered (k + n) sample mask ≡ gathered n (sample / 2 ^ k) (mask / 2 ^ k) * 2 ^ ones_in k mask + gathered k sample mask
unfolding gathered ones_in
gather_split zero n sample mask =
    let above = gathered n (sample / 1) (mask / 1) in
    ap (λ (j : ℕ). gathered j sample mask) (zero-add n) ∙ ap₂ (gathered n) (sym (div-one sample)) (sym (div-one mask))
    ∙ sym (add-zero (above * 1) ∙ mul-one above)
gather_split (suc k) n sample mask =
    let above = gathered n (sample / 2 ^ suc k) (mask / 2 ^ suc k) in
    let rest = gathered k (sample / 2) (mask / 2) in
    let raised = 2 ^ ones_in k (mask / 2) in
    ap (λ (j : ℕ). gathered j sample mask) (suc-add k n)
    ∙ ap (pack (mask % 2) (sample % 2))
    (gather_split k n (sample / 2) (mask / 2) ∙ ap (λ (x : ℕ). x * raised + rest) (ap₂ (gathered n) (half_lines sample k) (half_lines mask k)))
    ∙ pack_above (mask % 2) (sample % 2) above raised rest (bit_lt mask)
    ∙ ap (λ (x : ℕ). above * x + gathered (suc k) sample mask) (sym (pow-add 2 (mask % 2) (ones_in k (mask / 2))))
