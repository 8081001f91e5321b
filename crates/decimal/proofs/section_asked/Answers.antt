-- `cli::section_asked` meets its contract. The loop's invariant: the digits from i on, behind the capped number so far, decide the answer.
-- Assumes nothing.
use native.Mathlib.Omega.{arith}
use native.Mathlib.Nat.{min-le_right}
use Prim.Native.Nat.{◌+◌, ◌-◌, ◌*◌, min}
use mathlib.Core.Path.{◌≡◌, refl}
use lib.ListN.{get_or}
use Rattle.records.specs.Sections.{sections}
use Rattle.decimal.specs.Decimal.{section_asked}
use Rattle.decimal.proofs.Capping.{one_digit_more, no_digit_left}
use Rattle.decimal.proofs.section_asked.Goals as goal

pub loop-i-init : goal.loop-i-init
unfolding section_asked
loop-i-init c = (omega arith, omega arith, refl)

pub loop-i-preserved : goal.loop-i-preserved
loop-i-preserved c =
    let word = c.args.word.now in
    let e : c.capped-number.result ≡ min (10 * c.loop-i.number + (get_or word c.loop-i.i 0 - 48)) sections = cc in (
      omega arith,
      rw e (min-le_right _ sections),
      cc (one_digit_more word c.loop-i.number c.loop-i.i (omega arith)),
    )

pub returns : goal.returns
returns c =
    cc (no_digit_left c.args.word.now c.loop-i.number c.loop-i.i (omega arith) (omega arith))
