-- `put_text` meets its contract: four writers in a row. Assumes nothing.
use mathlib.Core.Path.{◌∙◌}
use native.Mathlib.Omega.{arith}
use Rattle.buffer.proofs.Writing.{wrote_then}
use Rattle.refusal.specs.Words.{ascii}
use Rattle.refusal.proofs.Lengths.{number_length, text_pieces}
use Rattle.refusal.proofs.text.put_text.Goals as goal

pub put_number-a-requires : goal.put_number-a-requires
put_number-a-requires c = omega (arith, c.requires)

pub put_number-b-requires : goal.put_number-b-requires
put_number-b-requires c =
    let w = c.put_number-a in
    omega (arith, w.ensures.next, w.auto.out, number_length (ascii "refused ") c.args.number, c.requires)

pub put-c-requires : goal.put-c-requires
put-c-requires c =
    let w = c.put_number-a in
    let v = c.put_number-b in
    omega (arith, w.ensures.next, w.auto.out, v.ensures.next, v.auto.out, number_length (ascii "refused ") c.args.number, number_length (ascii " at ") c.args.place, c.requires)

pub put_meaning-requires : goal.put_meaning-requires
put_meaning-requires c =
    let w = c.put_number-a in
    let v = c.put_number-b in
    let u = c.put-c in
    omega (arith, w.ensures.next, w.auto.out, v.ensures.next, v.auto.out, u.ensures.next, u.auto.out, number_length (ascii "refused ") c.args.number, number_length (ascii " at ") c.args.place, c.requires)

pub shape_of-out : goal.shape_of-out
shape_of-out c = c.put_meaning.auto.out ∙ c.put-c.auto.out ∙ c.put_number-b.auto.out ∙ c.put_number-a.auto.out

pub returns : goal.returns
returns c =
    let u = wrote_then 0 _ _ _ _ _ _ _ (omega arith) c.put_number-a.ensures c.put_number-b.ensures in
    let v = wrote_then 0 _ _ _ _ _ _ _ (omega arith) u c.put-c.ensures in
    let w = wrote_then 0 _ _ _ _ _ _ _ (omega arith) v c.put_meaning.ensures in
    rw (text_pieces c.args.number c.args.place) at w
