-- `put_decimal` meets its contract: the digits are those of the definition. Assumes nothing.
use native.Mathlib.Omega.{arith}
use mathlib.Core.Path.{◌≡◌, sym, ◌∙◌}
use lib.ListN.{take}
use Rattle.refusal.specs.Line.{decimal}
use Rattle.refusal.proofs.Digits.{same_digits, at_most_twenty}
use Rattle.refusal.proofs.put.put_decimal.Goals as goal

pub returns : goal.returns
unfolding decimal
returns c =
    let d = c.decimal-count in
    let n = c.args.n in
    let e : take d.result d.new.out ≡ decimal n = d.ensures.digits ∙ sym (same_digits 20 d.result n (at_most_twenty n d.result (omega arith) d.ensures.len) d.ensures.len) in
    rw e at c.put_at.ensures
