-- The laws of changing one line. Assumes nothing.
use mathlib.Core.Path.{◌≡◌, refl, sym, ap, ap₂, ◌∙◌}
use Prim.Native.Nat.{ℕ, zero, suc, ◌+◌, ◌-◌, ◌*◌, ◌/◌, ◌%◌, ◌^◌, ◌<◌}
use native.Mathlib.Nat.{zero-add, two-pow-succ}
use native.Mathlib.Numerals.{one-add}
use native.Mathlib.Omega.{arith}
use lib.Bits.{bit_xor, differ, xor_step, xor_zero_r}
use lib.Count.{ones_in}
use Rattle.lines.specs.Line.{line, flip_line}
use Rattle.lines.specs.Gather.{pack, gathered}
use Rattle.lines.proofs.Digit.{bit_lt, line_half, line_zero}

-- ---- the changed number: 2 ^ i more or less

pub flip_up : (i x : ℕ) → line x i ≡ 0 → flip_line i x ≡ x + 2 ^ i
unfolding flip_line
flip_up zero x h = let even = sym (line_zero x) ∙ h in omega arith
flip_up (suc i) x h = let ih = flip_up i (x / 2) (sym (line_half x i) ∙ h) in omega (arith, two-pow-succ i)

pub flip_down : (i x : ℕ) → line x i ≡ 1 → flip_line i x + 2 ^ i ≡ x
unfolding flip_line
flip_down zero x h = let odd = sym (line_zero x) ∙ h in omega arith
flip_down (suc i) x h = let ih = flip_down i (x / 2) (sym (line_half x i) ∙ h) in omega (arith, two-pow-succ i)

pub flip_lt : (n i x : ℕ) → i < n → x < 2 ^ n → flip_line i x < 2 ^ n
unfolding flip_line
flip_lt zero i x hi hx = absurd (omega arith)
flip_lt (suc n) zero x hi hx = omega (arith, two-pow-succ n)
flip_lt (suc n) (suc i) x hi hx =
    let ih = flip_lt n i (x / 2) (omega arith) (omega (arith, two-pow-succ n)) in omega (arith, two-pow-succ n)

-- ---- gathering a changed sample

halved : (x b : ℕ) → b < 2 → (x * 2 + b) / 2 ≡ x
halved x b h = omega arith

low : (x b : ℕ) → b < 2 → (x * 2 + b) % 2 ≡ b
low x b h = omega arith

-- the complement of a bit
other_lt : (x : ℕ) → 1 - x % 2 < 2
other_lt x = omega arith

pack_flip : (d b r g : ℕ) → d < 2 → b < 2 → pack d b (flip_line r g) ≡ flip_line (d + r) (pack d b g)
unfolding flip_line
pack_flip zero b r g hd hb = ap (λ (j : ℕ). flip_line j g) (sym (zero-add r))
pack_flip (suc zero) b r g hd hb = rw (one-add r, halved g b hb, low g b hb)
pack_flip (suc (suc d)) b r g hd hb = absurd (omega arith)

-- a masked line is the bit of the gathered number that counts the masked lines below it
pub flip_masked : (n i sample mask : ℕ) → i < n → line mask i ≡ 1
    → gathered n (flip_line i sample) mask ≡ flip_line (ones_in i mask) (gathered n sample mask)
unfolding gathered flip_line ones_in
flip_masked zero i sample mask hi hm = absurd (omega arith)
flip_masked (suc n) zero sample mask hi hm =
    let g = gathered n (sample / 2) (mask / 2) in
    rw (
      sym (line_zero mask) ∙ hm,
      halved (sample / 2) (1 - sample % 2) (other_lt sample),
      low (sample / 2) (1 - sample % 2) (other_lt sample),
      halved g (sample % 2) (bit_lt sample),
      low g (sample % 2) (bit_lt sample),
    )
flip_masked (suc n) (suc i) sample mask hi hm =
    let rest = flip_line i (sample / 2) in
    rw (halved rest (sample % 2) (bit_lt sample), low rest (sample % 2) (bit_lt sample))
    (ap (pack (mask % 2) (sample % 2)) (flip_masked n i (sample / 2) (mask / 2) (omega arith) (sym (line_half mask i) ∙ hm))
    ∙ pack_flip (mask % 2) (sample % 2) (ones_in i (mask / 2)) (gathered n (sample / 2) (mask / 2)) (bit_lt mask) (bit_lt sample))

-- an unmasked line is not gathered
pub flip_unmasked : (n i sample mask : ℕ) → line mask i ≡ 0 → gathered n (flip_line i sample) mask ≡ gathered n sample mask
unfolding gathered flip_line
flip_unmasked zero i sample mask hm = refl
flip_unmasked (suc n) zero sample mask hm =
    rw (sym (line_zero mask) ∙ hm, halved (sample / 2) (1 - sample % 2) (other_lt sample))
flip_unmasked (suc n) (suc i) sample mask hm =
    let rest = flip_line i (sample / 2) in
    rw (halved rest (sample % 2) (bit_lt sample), low rest (sample % 2) (bit_lt sample))
    (ap (pack (mask % 2) (sample % 2)) (flip_unmasked n i (sample / 2) (mask / 2) (sym (line_half mask i) ∙ hm)))

-- ---- ranks

-- the bit of a masked line is one of the gathered number's bits
pub rank_lt : (n i mask : ℕ) → i < n → line mask i ≡ 1 → ones_in i mask < ones_in n mask
unfolding ones_in
rank_lt zero i mask hi hm = absurd (omega arith)
rank_lt (suc n) zero mask hi hm = let odd = sym (line_zero mask) ∙ hm in omega arith
rank_lt (suc n) (suc i) mask hi hm =
    let ih = rank_lt n i (mask / 2) (omega arith) (sym (line_half mask i) ∙ hm) in omega arith

-- ---- the machine's form

other_bit : (d : ℕ) → d < 2 → differ d 1 ≡ 1 - d
other_bit zero h = refl
other_bit (suc zero) h = refl
other_bit (suc (suc d)) h = absurd (omega arith)

same_bit : (d : ℕ) → differ d 0 ≡ d
same_bit zero = refl
same_bit (suc d) = refl

-- an exclusive or with 2 ^ i
pub xor_flip : (i x : ℕ) → bit_xor x (2 ^ i) ≡ flip_line i x
unfolding flip_line
xor_flip zero x =
    xor_step x 1 ∙ ap₂ (λ (q d : ℕ). q * 2 + d) (xor_zero_r (x / 2)) (other_bit (x % 2) (bit_lt x))
xor_flip (suc i) x =
    let half : 2 ^ suc i / 2 ≡ 2 ^ i = omega (arith, two-pow-succ i) in
    let even : 2 ^ suc i % 2 ≡ 0 = omega (arith, two-pow-succ i) in
    xor_step x (2 ^ suc i) ∙ rw (half, even, xor_flip i (x / 2), same_bit (x % 2))
