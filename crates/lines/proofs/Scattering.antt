-- The laws of scattering, and of gathering what was scattered, over any number n of lines. Assumes nothing.
use mathlib.Core.Path.{◌≡◌, refl, sym, ap, ap₂, ◌∙◌}
use Prim.Native.Nat.{ℕ, zero, suc, ◌+◌, ◌*◌, ◌/◌, ◌%◌, ◌^◌, ◌<◌}
use native.Mathlib.Nat.{zero-div, mod-eq_of_lt, zero-add, two-pow-succ, mod-one}
use native.Mathlib.Numerals.{add-one, one-add}
use native.Mathlib.Omega.{arith}
use lib.Bits.{bit_and, and_step}
use lib.Pow.{mod-pow-add}
use lib.Count.{ones_in}
use Rattle.lines.specs.Line.{line, choose}
use Rattle.lines.specs.Gather.{pack, gathered, scattered}
use Rattle.lines.proofs.Digit.{bit_lt, line_half, line_zero}

-- what a line gets is a bit
low_lt : (d v : ℕ) → choose d 0 (v % 2) < 2
low_lt zero v = omega arith
low_lt (suc d) v = omega arith

-- what is scattered on n lines has n bits
pub scatter_lt : (n value mask : ℕ) → scattered n value mask < 2 ^ n
unfolding scattered
scatter_lt zero value mask = omega arith
scatter_lt (suc n) value mask =
    let ih = scatter_lt n (choose (mask % 2) value (value / 2)) (mask / 2) in
    omega (arith, low_lt (mask % 2) value, two-pow-succ n)

gather_scatter_step : (d v t g k : ℕ) → d < 2 → g ≡ choose d v (v / 2) % 2 ^ k
    → pack d ((t * 2 + choose d 0 (v % 2)) % 2) g ≡ v % 2 ^ (d + k)
gather_scatter_step zero v t g k hd e = e ∙ ap (λ (j : ℕ). v % 2 ^ j) (sym (zero-add k))
gather_scatter_step (suc zero) v t g k hd e =
    ap₂ (λ (x y : ℕ). x * 2 + y) e (let z : (t * 2 + v % 2) % 2 ≡ v % 2 = omega arith in z)
    ∙ sym (mod-pow-add v k 1) ∙ ap (λ (j : ℕ). v % 2 ^ j) (add-one k ∙ sym (one-add k))
gather_scatter_step (suc (suc d)) v t g k hd e = absurd (omega arith)

-- gathering what was scattered gives the value back, cut to as many bits as there are masked lines
pub gather_scatter : (n value mask : ℕ) → gathered n (scattered n value mask) mask ≡ value % 2 ^ ones_in n mask
unfolding gathered scattered ones_in
gather_scatter zero value mask = sym (mod-one value)
gather_scatter (suc n) value mask =
    let rest = choose (mask % 2) value (value / 2) in
    let t = scattered n rest (mask / 2) in
    let half : (t * 2 + choose (mask % 2) 0 (value % 2)) / 2 ≡ t = omega (arith, low_lt (mask % 2) value) in
    gather_scatter_step (mask % 2) value t _ _ (bit_lt mask) (rw half (gather_scatter n rest (mask / 2)))

-- a value of as many bits as there are masked lines comes back whole
pub gather_back : (n value mask : ℕ) → value < 2 ^ ones_in n mask → gathered n (scattered n value mask) mask ≡ value
gather_back n value mask h = gather_scatter n value mask ∙ mod-eq_of_lt h

-- an unmasked line gets 0
pub scatter_unmasked : (n value mask i : ℕ) → line mask i ≡ 0 → line (scattered n value mask) i ≡ 0
unfolding scattered
scatter_unmasked zero value mask i h = ap (λ (q : ℕ). q % 2) (zero-div (2 ^ i))
scatter_unmasked (suc n) value mask zero h =
    let d = sym (line_zero mask) ∙ h in
    let t = scattered n (choose (mask % 2) value (value / 2)) (mask / 2) in
    line_zero (t * 2 + choose (mask % 2) 0 (value % 2)) ∙ rw d (let z : (scattered n value (mask / 2) * 2 + 0) % 2 ≡ 0 = omega arith in z)
scatter_unmasked (suc n) value mask (suc i) h =
    let rest = choose (mask % 2) value (value / 2) in
    let t = scattered n rest (mask / 2) in
    let half : (t * 2 + choose (mask % 2) 0 (value % 2)) / 2 ≡ t = omega (arith, low_lt (mask % 2) value) in
    line_half (t * 2 + choose (mask % 2) 0 (value % 2)) i ∙ ap (λ (x : ℕ). line x i) half
    ∙ scatter_unmasked n rest (mask / 2) i (sym (line_half mask i) ∙ h)

-- what is scattered lies within the mask
pub scatter_within : (n value mask : ℕ) → bit_and (scattered n value mask) mask ≡ scattered n value mask
unfolding scattered
scatter_within zero value mask = refl
scatter_within (suc n) value mask = go (mask % 2) refl (λ v. scatter_within n v (mask / 2))
  where
    go : (d : ℕ) → mask % 2 ≡ d → ((v : ℕ) → bit_and (scattered n v (mask / 2)) (mask / 2) ≡ scattered n v (mask / 2))
        → bit_and (scattered n (choose d value (value / 2)) (mask / 2) * 2 + choose d 0 (value % 2)) mask
        ≡ scattered n (choose d value (value / 2)) (mask / 2) * 2 + choose d 0 (value % 2)
    go zero e ih =
        let t = scattered n value (mask / 2) in
        let half : (t * 2 + 0) / 2 ≡ t = omega arith in
        let upper : bit_and ((t * 2 + 0) / 2) (mask / 2) ≡ t = rw half (ih value) in
        omega (arith, and_step (t * 2 + 0) mask)
    go (suc d) e ih =
        let t = scattered n (value / 2) (mask / 2) in
        let half : (t * 2 + value % 2) / 2 ≡ t = omega arith in
        let upper : bit_and ((t * 2 + value % 2) / 2) (mask / 2) ≡ t = rw half (ih (value / 2)) in
        omega (arith, and_step (t * 2 + value % 2) mask)
