-- `put_number` meets its contract: the digits are those of the definition. Assumes nothing.
use native.Mathlib.Omega.{arith}
use mathlib.Core.Path.{◌≡◌, sym, ◌∙◌}
use lib.ListN.{take}
use Rattle.refusal.specs.Line.{decimal}
use Rattle.refusal.proofs.Digits.{same_digits, at_most_twenty}
use Rattle.refusal.proofs.put.put_number.Goals as goal

pub decimal-count-requires : goal.decimal-count-requires
decimal-count-requires c = tt

pub slice_bounds-digits-end : goal.slice_bounds-digits-end
slice_bounds-digits-end c = c.decimal-count.ensures.in_bounds.0

pub slice_bounds-put_two-end : goal.slice_bounds-put_two-end
slice_bounds-put_two-end c = c.decimal-count.ensures.in_bounds.1

pub put_two-requires : goal.put_two-requires
put_two-requires c =
    let d = c.decimal-count in
    let few = at_most_twenty c.args.n d.result (omega arith) d.ensures.len in
    omega (arith, d.ensures.in_bounds.1, c.requires)

pub shape_of-out : goal.shape_of-out
shape_of-out c = c.put_two.auto.out

pub returns : goal.returns
unfolding decimal
returns c =
    let d = c.decimal-count in
    let n = c.args.n in
    let e : take d.result d.new.out ≡ decimal n = d.ensures.digits ∙ sym (same_digits 20 d.result n (at_most_twenty n d.result (omega arith) d.ensures.len) d.ensures.len) in
    rw e at c.put_two.ensures
