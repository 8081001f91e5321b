-- The laws of dropping the lowest masked line: the gathered number loses its lowest bit. Assumes nothing.
use mathlib.Core.Path.{◌≡◌, refl, sym, ap, ◌∙◌}
use Prim.Native.Nat.{ℕ, zero, suc, ◌+◌, ◌-◌, ◌*◌, ◌/◌, ◌%◌, ◌^◌, ◌≤◌, ◌<◌, min}
use native.Mathlib.Nat.{zero-div, add-zero, two-pow-succ}
use lib.Bits.{bit_and, and_step, and_self}
use native.Mathlib.Omega.{arith}
use lib.Count.{ones_in, count_trailing_zeros}
use Rattle.lines.specs.Line.{line, choose}
use Rattle.lines.specs.Gather.{pack, gathered, scattered, drop_lowest}
use Rattle.lines.proofs.Digit.{bit_lt, line_half, line_zero}

even_mod : (x : ℕ) → x * 2 % 2 ≡ 0
even_mod x = omega arith

even_half : (x : ℕ) → x * 2 / 2 ≡ x
even_half x = omega arith

pub drop_le : (n mask : ℕ) → drop_lowest n mask ≤ mask
unfolding drop_lowest
drop_le zero mask = omega arith
drop_le (suc n) mask = step (mask % 2) (drop_le n (mask / 2))
  where
    step : (d : ℕ) → drop_lowest n (mask / 2) ≤ mask / 2 → choose d (drop_lowest n (mask / 2)) (mask / 2) * 2 ≤ mask
    step zero ih = omega arith
    step (suc d) ih = omega arith

-- the gathered number loses its lowest bit
pub gather_drop : (n sample mask : ℕ) → gathered n sample (drop_lowest n mask) ≡ gathered n sample mask / 2
unfolding gathered drop_lowest
gather_drop zero sample mask = refl
gather_drop (suc n) sample mask =
    let rest = choose (mask % 2) (drop_lowest n (mask / 2)) (mask / 2) in
    rw (even_mod rest, even_half rest) (step (mask % 2) (gather_drop n (sample / 2) (mask / 2)))
  where
    step : (d : ℕ) → gathered n (sample / 2) (drop_lowest n (mask / 2)) ≡ gathered n (sample / 2) (mask / 2) / 2
        → gathered n (sample / 2) (choose d (drop_lowest n (mask / 2)) (mask / 2))
        ≡ pack d (sample % 2) (gathered n (sample / 2) (mask / 2)) / 2
    step zero ih = ih
    step (suc d) ih = omega arith

-- and the mask one of its ones, if it has any, also among the i lowest lines
pub ones_drop_in : (n mask i : ℕ) → i ≤ n → ones_in i (drop_lowest n mask) ≡ ones_in i mask - 1
unfolding ones_in drop_lowest
ones_drop_in n mask zero h = refl
ones_drop_in zero mask (suc i) h = absurd (omega arith)
ones_drop_in (suc n) mask (suc i) h =
    let rest = choose (mask % 2) (drop_lowest n (mask / 2)) (mask / 2) in
    rw (even_mod rest, even_half rest) (step (mask % 2) (bit_lt mask) (ones_drop_in n (mask / 2) i (omega arith)))
  where
    step : (d : ℕ) → d < 2 → ones_in i (drop_lowest n (mask / 2)) ≡ ones_in i (mask / 2) - 1
        → 0 + ones_in i (choose d (drop_lowest n (mask / 2)) (mask / 2)) ≡ d + ones_in i (mask / 2) - 1
    step zero h ih = omega arith
    step (suc zero) h ih = omega arith
    step (suc (suc d)) h ih = absurd (omega arith)

pub ones_drop : (n mask : ℕ) → ones_in n (drop_lowest n mask) ≡ ones_in n mask - 1
ones_drop n mask = ones_drop_in n mask n (omega arith)

-- a line with no masked line below it is unmasked then, and any other stays as it was
pub drop_first : (n mask i : ℕ) → i < n → ones_in i mask ≡ 0 → line (drop_lowest n mask) i ≡ 0
unfolding ones_in drop_lowest
drop_first zero mask i h e = absurd (omega arith)
drop_first (suc n) mask zero h e =
    let rest = choose (mask % 2) (drop_lowest n (mask / 2)) (mask / 2) in
    line_zero (rest * 2) ∙ even_mod rest
drop_first (suc n) mask (suc i) h e =
    let rest = choose (mask % 2) (drop_lowest n (mask / 2)) (mask / 2) in
    line_half (rest * 2) i ∙ ap (λ (x : ℕ). line x i) (even_half rest) ∙ step (mask % 2) e (drop_first n (mask / 2) i (omega arith))
  where
    step : (d : ℕ) → d + ones_in i (mask / 2) ≡ 0 → (ones_in i (mask / 2) ≡ 0 → line (drop_lowest n (mask / 2)) i ≡ 0)
        → line (choose d (drop_lowest n (mask / 2)) (mask / 2)) i ≡ 0
    step zero e ih = ih (omega arith)
    step (suc d) e ih = absurd (omega arith)

pub drop_later : (n mask i : ℕ) → i < n → 0 < ones_in i mask → line (drop_lowest n mask) i ≡ line mask i
unfolding ones_in drop_lowest
drop_later zero mask i h e = absurd (omega arith)
drop_later (suc n) mask zero h e = absurd (omega arith)
drop_later (suc n) mask (suc i) h e =
    let rest = choose (mask % 2) (drop_lowest n (mask / 2)) (mask / 2) in
    line_half (rest * 2) i ∙ ap (λ (x : ℕ). line x i) (even_half rest) ∙ step (mask % 2) e (drop_later n (mask / 2) i (omega arith))
    ∙ sym (line_half mask i)
  where
    step : (d : ℕ) → 0 < d + ones_in i (mask / 2) → (0 < ones_in i (mask / 2) → line (drop_lowest n (mask / 2)) i ≡ line (mask / 2) i)
        → line (choose d (drop_lowest n (mask / 2)) (mask / 2)) i ≡ line (mask / 2) i
    step zero e ih = ih (omega arith)
    step (suc d) e ih = refl

-- an even value is put on the same lines without its lowest bit
pub scatter_drop : (n value mask : ℕ) → value % 2 ≡ 0 → scattered n (value / 2) (drop_lowest n mask) ≡ scattered n value mask
unfolding scattered drop_lowest
scatter_drop zero value mask h = refl
scatter_drop (suc n) value mask h =
    let rest = choose (mask % 2) (drop_lowest n (mask / 2)) (mask / 2) in
    rw (even_mod rest, even_half rest) (step (mask % 2) (scatter_drop n value (mask / 2) h))
  where
    step : (d : ℕ) → scattered n (value / 2) (drop_lowest n (mask / 2)) ≡ scattered n value (mask / 2)
        → scattered n (value / 2) (choose d (drop_lowest n (mask / 2)) (mask / 2)) * 2 + 0
        ≡ scattered n (choose d value (value / 2)) (mask / 2) * 2 + choose d 0 (value % 2)
    step zero ih = ap (λ (x : ℕ). x * 2 + 0) ih
    step (suc d) ih = ap (λ (x : ℕ). scattered n (value / 2) (mask / 2) * 2 + x) (sym h)

-- without a masked line there is nowhere to put a bit
pub scatter_none : (n value : ℕ) → scattered n value 0 ≡ 0
unfolding scattered
scatter_none zero value = refl
scatter_none (suc n) value = ap (λ (x : ℕ). x * 2 + 0) (scatter_none n value)

-- a mask with a line has a lowest one
pub lowest_lt : (n mask : ℕ) → 0 < mask → mask < 2 ^ n → count_trailing_zeros n mask < n
unfolding count_trailing_zeros
lowest_lt zero mask h l = absurd (omega arith)
lowest_lt (suc n) mask h l = go (mask % 2) refl (λ p. lowest_lt n (mask / 2) p (omega (arith, two-pow-succ n)))
  where
    go : (d : ℕ) → mask % 2 ≡ d → (0 < mask / 2 → count_trailing_zeros n (mask / 2) < n) → count_trailing_zeros (suc n) mask < suc n
    go zero e ih = rw e (let low = ih (omega arith) in omega arith)
    go (suc zero) e ih = rw e (omega arith)
    go (suc (suc d)) e ih = absurd (omega (arith, bit_lt mask))

one_up : (x y b p : ℕ) → x ≡ y + b * p → x * 2 + 0 ≡ y * 2 + 0 + b * (p + p)
one_up x y b p e = omega arith

-- the lowest bit goes on the lowest masked line
pub scatter_lowest : (n value mask : ℕ) → 0 < mask → mask < 2 ^ n
    → scattered n value mask ≡ scattered n (value / 2) (drop_lowest n mask) + value % 2 * 2 ^ count_trailing_zeros n mask
unfolding scattered drop_lowest count_trailing_zeros
scatter_lowest zero value mask h l = absurd (omega arith)
scatter_lowest (suc n) value mask h l =
    let rest = choose (mask % 2) (drop_lowest n (mask / 2)) (mask / 2) in
    rw (even_mod rest, even_half rest) (go (mask % 2) refl (λ p. scatter_lowest n value (mask / 2) p (omega (arith, two-pow-succ n))))
  where
    go : (d : ℕ) → mask % 2 ≡ d
        → (0 < mask / 2 → scattered n value (mask / 2) ≡ scattered n (value / 2) (drop_lowest n (mask / 2)) + value % 2 * 2 ^ count_trailing_zeros n (mask / 2))
        → scattered n (choose (mask % 2) value (value / 2)) (mask / 2) * 2 + choose (mask % 2) 0 (value % 2)
        ≡ scattered n (value / 2) (choose (mask % 2) (drop_lowest n (mask / 2)) (mask / 2)) * 2 + 0 + value % 2 * 2 ^ count_trailing_zeros (suc n) mask
    go zero e ih =
        rw (e, two-pow-succ) (one_up (scattered n value (mask / 2)) (scattered n (value / 2) (drop_lowest n (mask / 2))) (value % 2) (2 ^ count_trailing_zeros n (mask / 2)) (ih (omega arith)))
    go (suc zero) e ih = rw e (omega arith)
    go (suc (suc d)) e ih = absurd (omega (arith, bit_lt mask))

-- a line that is still masked was masked
pub drop_line : (n mask i : ℕ) → line (drop_lowest n mask) i ≡ 1 → line mask i ≡ 1
unfolding drop_lowest
drop_line zero mask i h = let z = sym (ap (λ (q : ℕ). q % 2) (zero-div (2 ^ i))) ∙ h in absurd (omega arith)
drop_line (suc n) mask zero h =
    let rest = choose (mask % 2) (drop_lowest n (mask / 2)) (mask / 2) in
    let z = sym (line_zero (rest * 2) ∙ even_mod rest) ∙ h in
    absurd (omega arith)
drop_line (suc n) mask (suc i) h =
    let rest = choose (mask % 2) (drop_lowest n (mask / 2)) (mask / 2) in
    line_half mask i
    ∙ step (mask % 2) (drop_line n (mask / 2) i) (ap (λ (x : ℕ). line x i) (sym (even_half rest)) ∙ sym (line_half (rest * 2) i) ∙ h)
  where
    step : (d : ℕ) → (line (drop_lowest n (mask / 2)) i ≡ 1 → line (mask / 2) i ≡ 1)
        → line (choose d (drop_lowest n (mask / 2)) (mask / 2)) i ≡ 1 → line (mask / 2) i ≡ 1
    step zero ih e = ih e
    step (suc d) ih e = e

-- ---- the machine's form

pub drop_zero : (n : ℕ) → drop_lowest n 0 ≡ 0
drop_zero n = let h = drop_le n 0 in omega arith

-- a mask and the number before it have the digits above the lowest masked line in common
pub and_pred : (n mask : ℕ) → 0 < mask → mask < 2 ^ n → bit_and mask (mask - 1) ≡ drop_lowest n mask
unfolding drop_lowest
and_pred zero mask h l = absurd (omega arith)
and_pred (suc n) mask h l = and_step mask (mask - 1) ∙ go (mask % 2) refl (λ p. and_pred n (mask / 2) p (omega (arith, two-pow-succ n)))
  where
    go : (d : ℕ) → mask % 2 ≡ d → (0 < mask / 2 → bit_and (mask / 2) (mask / 2 - 1) ≡ drop_lowest n (mask / 2))
        → bit_and (mask / 2) ((mask - 1) / 2) * 2 + min (mask % 2) ((mask - 1) % 2) ≡ choose d (drop_lowest n (mask / 2)) (mask / 2) * 2
    go zero e ih =
        let half : (mask - 1) / 2 ≡ mask / 2 - 1 = omega arith in
        let none : min (mask % 2) ((mask - 1) % 2) ≡ 0 = omega arith in
        rw (half, none, ih (omega arith)) (add-zero (drop_lowest n (mask / 2) * 2))
    go (suc zero) e ih =
        let half : (mask - 1) / 2 ≡ mask / 2 = omega arith in
        let none : min (mask % 2) ((mask - 1) % 2) ≡ 0 = omega arith in
        rw (half, none, and_self (mask / 2)) (add-zero (mask / 2 * 2))
    go (suc (suc d)) e ih = absurd (omega (arith, bit_lt mask))
