-- A chain compares by its carry, so the model over the words of an accepted range hits as the plain rule does. Assumes nothing.
use Rattle.std.proofs.Common.{◌≡◌, ℕ, ◌+◌, ◌-◌, ◌/◌, ◌%◌, ◌^◌, ◌<◌, ◌≤◌, Bool, ◌&&◌, eqb, leb, ap, ◌∙◌, ap₂, mod-eq_of_lt, arith, pow_pos, pow_mono, le-leb}
use native.Mathlib.Nat.{div-eq_of_lt, div-eq_of_lt-le}
use native.Mathlib.Decide.{dec_le}
use borrow.Author.Tests.{lt-leb}
use lib.Count.{ones, ones-le}
use lib.Pow.{not_mod}
use Rattle.lines.specs.Gather.{gathered}
use Rattle.lines.proofs.Ones.{ones_in_law}
use Rattle.lines.proofs.Gathering.{gather_lt}
use Rattle.range.specs.Rule.{range_hit, RangeAccepted}
use Rattle.range.specs.Words.{one_less, complement, lower_value, upper_value, lower_chain, upper_chain, sent_words}
use Rattle.range.specs.Model.{chain_carry, model_hit}
use Rattle.range.proofs.Tables.{take_sent, drop_sent}
use Rattle.range.proofs.Adder.{chain_sum}

-- the gathered sample has as many bits as the mask has ones
pub gathered_lt : (sample mask : ℕ) → mask < 2 ^ 32 → gathered 32 sample mask < 2 ^ ones mask
gathered_lt sample mask hm = rw (← ones_in_law 32 mask hm) (gather_lt 32 sample mask)

-- ---- the chains' values, for bounds of at most k bits

-- NOT in 32 bits, cut to k, is NOT in k bits
pub not_low : (k x : ℕ) → k ≤ 32 → x < 2 ^ k → complement x % 2 ^ k ≡ 2 ^ k - 1 - x
not_low k x hk hx =
    let whole : 32 ≡ 32 - k + k = omega arith in
    ap (λ (n : ℕ). (2 ^ n - 1 - x) % 2 ^ k) whole ∙ not_mod (32 - k) k hx

-- ---- comparing by a carry: x + (m - lower) reaches m exactly when lower ≤ x, and x + (m - 1 - upper) when upper < x

carry_lower : (m lower x : ℕ) → 1 ≤ lower → lower ≤ m → x < m → eqb ((x + (m - 1 - (lower - 1))) / m) 1 ≡ leb lower x
carry_lower m lower x h1 hl hx = go (dec_le lower x)
  where
    go : Dec (lower ≤ x) → eqb ((x + (m - 1 - (lower - 1))) / m) 1 ≡ leb lower x
    go (yes l) =
        let one : (x + (m - 1 - (lower - 1))) / m ≡ 1 = div-eq_of_lt-le m (omega arith) (omega arith) in
        rw (one, le-leb lower x l)
    go (no n) =
        let l : x < lower = omega arith in
        let none : (x + (m - 1 - (lower - 1))) / m ≡ 0 = div-eq_of_lt (omega arith) in
        rw (none, lt-leb lower x l)

carry_upper : (m upper x : ℕ) → upper ≤ m - 1 → x < m → eqb ((x + (m - 1 - upper)) / m) 0 ≡ leb x upper
carry_upper m upper x hu hx = go (dec_le x upper)
  where
    go : Dec (x ≤ upper) → eqb ((x + (m - 1 - upper)) / m) 0 ≡ leb x upper
    go (yes l) =
        let none : (x + (m - 1 - upper)) / m ≡ 0 = div-eq_of_lt (omega arith) in
        rw (none, le-leb x upper l)
    go (no n) =
        let l : upper < x = omega arith in
        let one : (x + (m - 1 - upper)) / m ≡ 1 = div-eq_of_lt-le m (omega arith) (omega arith) in
        rw (one, lt-leb x upper l)

-- ---- the two chains of an accepted range

module _ (lower upper mask : ℕ) (a : RangeAccepted lower upper mask) where
  width_le : ones mask ≤ 32
  width_le = ones-le 32 mask a.fits

  -- an accepted range's bounds are 32-bit numbers
  pub lower_fits : lower < 2 ^ 32
  lower_fits = omega (arith, pow_mono width_le, pow_pos (ones mask))

  pub upper_fits : upper < 2 ^ 32
  upper_fits = omega (arith, pow_mono width_le, pow_pos (ones mask))

  pub lower_value_law : lower_value lower mask ≡ 2 ^ ones mask - 1 - (lower - 1)
  unfolding lower_value
  lower_value_law =
      let k = ones mask in
      let dec : one_less lower ≡ lower - 1 = omega (arith, lower_fits) in
      ap (λ (y : ℕ). complement y % 2 ^ k) dec ∙ not_low k (lower - 1) width_le (omega arith)

  pub upper_value_law : upper_value upper mask ≡ 2 ^ ones mask - 1 - upper
  unfolding upper_value
  upper_value_law = not_low (ones mask) upper width_le (omega (arith, pow_pos (ones mask)))

  lower_carry : (sample : ℕ) → eqb (chain_carry (lower_chain lower mask) sample) 1 ≡ leb lower (gathered 32 sample mask)
  lower_carry sample =
      let k = ones mask in
      let v = 2 ^ k - 1 - (lower - 1) in
      rw (lower_value_law, chain_sum mask v sample a.fits, mod-eq_of_lt {n = v} {m = 2 ^ k} (omega (arith, pow_pos k)))
      (carry_lower (2 ^ k) lower (gathered 32 sample mask) a.positive (omega arith) (gathered_lt sample mask a.fits))

  upper_carry : (sample : ℕ) → eqb (chain_carry (upper_chain upper mask) sample) 0 ≡ leb (gathered 32 sample mask) upper
  upper_carry sample =
      let k = ones mask in
      let v = 2 ^ k - 1 - upper in
      rw (upper_value_law, chain_sum mask v sample a.fits, mod-eq_of_lt {n = v} {m = 2 ^ k} (omega (arith, pow_pos k)))
      (carry_upper (2 ^ k) upper (gathered 32 sample mask) a.within (gathered_lt sample mask a.fits))

  pub model_hits : (sample : ℕ) → model_hit (sent_words lower upper mask) sample ≡ range_hit lower upper mask sample
  unfolding model_hit range_hit
  model_hits sample =
      rw (take_sent lower upper mask, drop_sent lower upper mask) (ap₂ (λ (x y : Bool). x && y) (lower_carry sample) (upper_carry sample))
