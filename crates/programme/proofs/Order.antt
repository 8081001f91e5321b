-- Gathered numbers are in the order of the masked samples, so that bounds put on the masked lines once spare the
-- gathering. Assumes nothing.
use Prim.Native.Nat.{ℕ, zero, suc, ◌+◌, ◌*◌, ◌/◌, ◌%◌, ◌^◌, ◌<◌, min}
use mathlib.Core.Path.{◌≡◌, refl, sym, ap, ap₂, ◌∙◌}
use mathlib.Core.Bool.{◌&&◌}
use native.Mathlib.Nat.{two-pow-succ}
use native.Mathlib.Omega.{arith}
use lib.Bits.{bit_and, and_step, and_zero_r}
use lib.Count.{ones}
use lib.Dec.{leb}
use lib.Pow.{pow_pos}
use Rattle.lines.specs.Gather.{pack, gathered, scattered}
use Rattle.lines.proofs.Digit.{bit_lt}
use Rattle.lines.proofs.Ones.{ones_in_law}
use Rattle.lines.proofs.Scattering.{gather_back, scatter_within}
use Rattle.lines.proofs.Truth.{leb_iff}
use Rattle.range.specs.Rule.{range_hit, RangeAccepted}
use Rattle.programme.specs.Table.{spread_hit}

-- g and h stand in the same order as a and b
data InOrder (g h a b : ℕ) : Type 0 where
  less : g < h → a < b → InOrder g h a b
  same : g ≡ h → a ≡ b → InOrder g h a b
  more : h < g → b < a → InOrder g h a b

-- one masked line more, or one that is not masked
order_step : (d x y g h a b : ℕ) → d < 2 → x < 2 → y < 2 → InOrder g h a b → InOrder (pack d x g) (pack d y h) (a * 2 + min x d) (b * 2 + min y d)
order_step zero x y g h a b hd hx hy (less p q) = less p (omega arith)
order_step zero x y g h a b hd hx hy (same p q) = same p (omega arith)
order_step zero x y g h a b hd hx hy (more p q) = more p (omega arith)
order_step (suc zero) x y g h a b hd hx hy (less p q) = less (omega arith) (omega arith)
order_step (suc zero) zero zero g h a b hd hx hy (same p q) = same (omega arith) (omega arith)
order_step (suc zero) zero (suc zero) g h a b hd hx hy (same p q) = less (omega arith) (omega arith)
order_step (suc zero) zero (suc (suc y)) g h a b hd hx hy (same p q) = absurd (omega arith)
order_step (suc zero) (suc zero) zero g h a b hd hx hy (same p q) = more (omega arith) (omega arith)
order_step (suc zero) (suc zero) (suc zero) g h a b hd hx hy (same p q) = same (omega arith) (omega arith)
order_step (suc zero) (suc zero) (suc (suc y)) g h a b hd hx hy (same p q) = absurd (omega arith)
order_step (suc zero) (suc (suc x)) y g h a b hd hx hy (same p q) = absurd (omega arith)
order_step (suc zero) x y g h a b hd hx hy (more p q) = more (omega arith) (omega arith)
order_step (suc (suc d)) x y g h a b hd hx hy o = absurd (omega arith)

in_order : (n a b mask : ℕ) → mask < 2 ^ n → InOrder (gathered n a mask) (gathered n b mask) (bit_and a mask) (bit_and b mask)
unfolding gathered
in_order zero a b mask h =
    let z : mask ≡ 0 = omega arith in
    same refl (ap (bit_and a) z ∙ and_zero_r a ∙ sym (ap (bit_and b) z ∙ and_zero_r b))
in_order (suc n) a b mask h =
    rw (and_step a mask, and_step b mask)
    (order_step (mask % 2) (a % 2) (b % 2) _ _ _ _ (bit_lt mask) (bit_lt a) (bit_lt b)
    (in_order n (a / 2) (b / 2) (mask / 2) (omega (arith, two-pow-succ n))))

order_leb : (g h a b : ℕ) → InOrder g h a b → leb g h ≡ leb a b
order_leb g h a b (less p q) = leb_iff g h a b (λ f. omega arith) (λ f. omega arith)
order_leb g h a b (same p q) = leb_iff g h a b (λ f. omega arith) (λ f. omega arith)
order_leb g h a b (more p q) = leb_iff g h a b (λ f. absurd (omega arith)) (λ f. absurd (omega arith))

module _ (bound mask sample : ℕ) (fits : mask < 2 ^ 32) (within : bound < 2 ^ ones mask) where
  back : gathered 32 (scattered 32 bound mask) mask ≡ bound
  back = gather_back 32 bound mask (rw (ones_in_law 32 mask fits) within)

  bound_below : leb (scattered 32 bound mask) (bit_and sample mask) ≡ leb bound (gathered 32 sample mask)
  bound_below =
      ap (λ (x : ℕ). leb x (bit_and sample mask)) (sym (scatter_within 32 bound mask))
      ∙ sym (order_leb _ _ _ _ (in_order 32 (scattered 32 bound mask) sample mask fits))
      ∙ ap (λ (x : ℕ). leb x (gathered 32 sample mask)) back

  bound_above : leb (bit_and sample mask) (scattered 32 bound mask) ≡ leb (gathered 32 sample mask) bound
  bound_above =
      ap (leb (bit_and sample mask)) (sym (scatter_within 32 bound mask))
      ∙ sym (order_leb _ _ _ _ (in_order 32 sample (scattered 32 bound mask) mask fits))
      ∙ ap (leb (gathered 32 sample mask)) back

-- the plain rule of an accepted range by its bounds put on the masked lines
pub spread_hits : (lower upper mask sample : ℕ) → RangeAccepted lower upper mask
    → spread_hit (scattered 32 lower mask) (scattered 32 upper mask) mask sample ≡ range_hit lower upper mask sample
unfolding range_hit
spread_hits lower upper mask sample a =
    ap₂ ◌&&◌ (bound_below lower mask sample a.fits (omega (arith, pow_pos (ones mask))))
    (bound_above upper mask sample a.fits (omega (arith, pow_pos (ones mask))))
