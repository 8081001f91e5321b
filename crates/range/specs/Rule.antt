-- The plain rule of a range, which ranges are accepted, and the refusal numbers of those that are not.
use Rattle.std.specs.Prelude.{ℕ, ◌-◌, ◌^◌, ◌<◌, ◌≤◌, Bool, cond, ◌&&◌, ◌==◌, count_ones, nat_le, nat_lt}
use Rattle.lines.specs.Gather.{gathered}
use Rattle.lut.specs.Input.{on_sample}
use Rattle.lut.specs.declared.Input.{Input}
use Rattle.range.specs.declared.Range.{Range}

-- the number gathered from the sample's masked lines is neither below lower nor above upper [P3, P5]
unfoldable pub range_hit : (lower upper mask sample : ℕ) → Bool
range_hit lower upper mask sample = nat_le lower (gathered 32 sample mask) && nat_le (gathered 32 sample mask) upper

-- the bounds of an accepted range, its mask being a number of 32 lines [P6, G2]
pub record RangeAccepted (lower upper mask : ℕ) : Type 0 where
  pub fits : mask < 2 ^ 32
  pub positive : 1 ≤ lower
  pub ordered : lower ≤ upper
  pub within : upper ≤ 2 ^ count_ones mask - 1

-- the same of a range as one value: when it hits on a sample [P5]
abbrev pub hit_of : Range → ℕ → Bool
hit_of r sample = range_hit r.lower r.upper r.mask sample

-- when a range hits, over any input [P5, G5]
abbrev pub hit : Range → Input → Bool
hit r = on_sample (hit_of r)

-- which ranges are accepted, as one value [P6, G2]
abbrev pub Accepted : Range → Type 0
Accepted r = RangeAccepted r.lower r.upper r.mask

-- a range's lowest refusal: 6 for a lower of 0, 7 for order, 8 for an upper too big; 0 is none [F6, F7, F8, O1, L8]
unfoldable pub range_fault : (lower upper mask : ℕ) → ℕ
range_fault lower upper mask =
    cond (lower == 0) 6 (cond (nat_lt upper lower) 7 (cond (nat_lt (2 ^ count_ones mask - 1) upper) 8 0))
