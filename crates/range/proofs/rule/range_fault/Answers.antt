-- Each test is a case of the definition.
use Rattle.std.proofs.Common.{◌≡◌, ℕ, ◌*◌, ◌-◌, ◌%◌, ◌^◌, ◌<◌, count_ones, arith, le-ltb, lt-ltb, eq-eqb, ne_eqb}
use lib.Count.{ones-le}
use Rattle.lines.proofs.Digit.{shifted_one}
use Rattle.range.specs.Rule.{range_fault}
use Rattle.range.proofs.rule.range_fault.Goals as goal

pub returns-then-r-eq0 : goal.returns-then-r-eq0
unfolding range_fault
returns-then-r-eq0 c = rw (eq-eqb _ _ c.if-r-eq0.true)

pub returns-then-r : goal.returns-then-r
unfolding range_fault
returns-then-r c = rw (ne_eqb _ _ c.if-r-eq0.false, lt-ltb _ _ c.if-r.true)

-- the machine's 2 ^ k
width : (mask : ℕ) → mask < 2 ^ 32 → 1 * 2 ^ count_ones mask % 2 ^ 64 ≡ 2 ^ count_ones mask
width mask h = shifted_one (count_ones mask) 64 (omega (arith, ones-le 32 mask h))

pub returns-then-r-from : goal.returns-then-r-from
unfolding range_fault
returns-then-r-from c =
    let w = width c.args.r.mask (omega arith) in
    rw (ne_eqb _ _ c.if-r-eq0.false, le-ltb _ _ c.if-r.false, lt-ltb (2 ^ count_ones c.args.r.mask - 1) c.args.r.upper (omega arith))

pub returns : goal.returns
unfolding range_fault
returns c =
    let w = width c.args.r.mask (omega arith) in
    rw (ne_eqb _ _ c.if-r-eq0.false, le-ltb _ _ c.if-r.false, le-ltb (2 ^ count_ones c.args.r.mask - 1) c.args.r.upper (omega arith))
