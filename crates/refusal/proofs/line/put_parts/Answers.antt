-- `put_parts` meets its contract: three pairs of texts. Assumes nothing.
use native.Mathlib.Omega.{arith}
use Prim.Native.Nat.{◌≤◌}
use mathlib.Core.Path.{◌∙◌}
use lib.ListN.{length}
use Rattle.buffer.proofs.Writing.{wrote_then}
use Rattle.refusal.proofs.Lengths.{line_pieces, first_fits, second_fits, third_fits}
use Rattle.refusal.proofs.line.put_parts.Goals as goal

pub put_two-a-requires : goal.put_two-a-requires
put_two-a-requires c =
    first_fits c.args.file.now c.args.words.now c.args.detail.now c.args.at _ c.requires

pub put_two-b-requires : goal.put_two-b-requires
put_two-b-requires c =
    let w = c.put_two-a in
    rw w.auto.out (second_fits c.args.file.now c.args.words.now c.args.detail.now c.args.at _ c.requires _ w.ensures.next)

pub put_two-requires : goal.put_two-requires
put_two-requires c =
    let w = c.put_two-a in
    let v = c.put_two-b in
    rw (v.auto.out ∙ w.auto.out) (third_fits c.args.file.now c.args.words.now c.args.detail.now c.args.at _ c.requires _ _ w.ensures.next v.ensures.next)

pub shape_of-out : goal.shape_of-out
shape_of-out c = c.put_two.auto.out ∙ c.put_two-b.auto.out ∙ c.put_two-a.auto.out

pub returns : goal.returns
returns c =
    let h : c.args.at ≤ length c.args.out.now = omega (arith, c.requires) in
    let two = wrote_then c.args.at _ _ _ _ _ _ _ h c.put_two-a.ensures c.put_two-b.ensures in
    rw (line_pieces c.args.file.now c.args.words.now c.args.detail.now) at (wrote_then c.args.at _ _ _ _ _ _ _ h two c.put_two.ensures)
