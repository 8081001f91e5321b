-- The greatest number of k bits, less the gathered value, which is none greater.
use Rattle.std.proofs.Common.{◌≡◌, ℕ, ◌-◌, ◌%◌, ◌^◌, ◌<◌, arith, pow_pos}
use lib.Count.{ones, ones-le}
use Rattle.range.specs.Back.{chain_bound}
use Rattle.range.proofs.Carry.{not_low, gathered_lt}
use Rattle.range.proofs.back.chain_bound.Goals as goal

top : (x mask : ℕ) → mask < 2 ^ 32 → x ≡ 0xFFFFFFFF % 2 ^ ones mask → x ≡ 2 ^ ones mask - 1
top x mask hm e =
    let all = not_low (ones mask) 0 (ones-le 32 mask hm) (pow_pos (ones mask)) in
    omega arith

pub overflow_sub-result : goal.overflow_sub-result
overflow_sub-result c =
    let t = top c.low_bits.result c.args.mask c.ranges.mask.fits c.low_bits.ensures in
    omega (arith, gathered_lt c.lines_with.result c.args.mask c.ranges.mask.fits)

pub returns : goal.returns
unfolding chain_bound
returns c = rw (top c.low_bits.result c.args.mask c.ranges.mask.fits c.low_bits.ensures, c.gather-value.ensures, c.lines_with.ensures)
