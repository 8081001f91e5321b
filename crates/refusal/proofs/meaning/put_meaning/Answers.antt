-- `put_meaning` meets its contract: the row begins with the text. Assumes nothing.
use native.Mathlib.Omega.{arith}
use Prim.Native.Nat.{ℕ, ◌+◌, ◌≤◌}
use mathlib.Core.Path.{sym, subst, ◌∙◌}
use mathlib.Core.List.{List}
use lib.ListN.{length}
use Rattle.buffer.specs.Room.{Wrote}
use Rattle.refusal.proofs.Meanings.{short, row_part}
use Rattle.refusal.proofs.meaning.put_meaning.Goals as goal

pub row_of-row-requires : goal.row_of-row-requires
row_of-row-requires c = tt

pub length_of-requires : goal.length_of-requires
length_of-requires c = c.row_of-row.ensures.0

pub overflow_add-end : goal.overflow_add-end
overflow_add-end c = omega (arith, short c.row_of-row.result)

pub rows-all-requires : goal.rows-all-requires
rows-all-requires c = tt

pub slice_bounds-put-end : goal.slice_bounds-put-end
slice_bounds-put-end c = omega (arith, short c.row_of-row.result)

pub put-requires : goal.put-requires
put-requires c =
    let k = c.row_of-row in
    let e = row_part _ c.rows-all.ensures k.result c.length_of.result k.ensures.0 c.length_of.ensures in
    subst (λ (t : List ℕ). c.args.at + length t ≤ length c.args.out.now) (sym e) (omega (arith, short k.result, c.requires))

pub shape_of-out : goal.shape_of-out
shape_of-out c = c.put.auto.out

pub returns : goal.returns
returns c =
    let k = c.row_of-row in
    let e = row_part _ c.rows-all.ensures k.result c.length_of.result k.ensures.0 c.length_of.ensures in
    subst (λ (t : List ℕ). Wrote c.args.at t c.args.out.now c.put.new.out c.put.result) (e ∙ k.ensures.1) c.put.ensures
