-- `lines::line_value` meets its contract. Assumes nothing.
use mathlib.Core.Path.{sym, ap}
use Prim.Native.Nat.{ℕ, ◌%◌}
use native.Mathlib.Nat.{div-eq_of_lt, lt_of_lt_of_le}
use lib.Pow.{pow_mono}
use Rattle.lines.proofs.line_value.Goals as goal

pub returns-else-i-lt32 : goal.returns-else-i-lt32
returns-else-i-lt32 c = sym (ap (λ (q : ℕ). q % 2) (div-eq_of_lt (lt_of_lt_of_le c.ranges.x.fits (pow_mono c.if-i-lt32.false))))
