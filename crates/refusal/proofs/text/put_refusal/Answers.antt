-- `put_refusal` meets its contract: the words are built in local room and put at once. Assumes nothing.
use lib.Dec.{lit≤}
use mathlib.Core.Path.{sym, ◌∙◌, refl}
use Rattle.buffer.proofs.Writing.{front_text}
use Rattle.refusal.proofs.text.put_refusal.Goals as goal

pub slice_bounds-put_text-end : goal.slice_bounds-put_text-end
slice_bounds-put_text-end c = refl

pub put_text-length-requires : goal.put_text-length-requires
put_text-length-requires c = lit≤ tt

pub slice_bounds-prefix-end : goal.slice_bounds-prefix-end
slice_bounds-prefix-end c = sym c.put_text-length.auto.out

pub prefix-requires : goal.prefix-requires
prefix-requires c = tt

pub put_at-requires : goal.put_at-requires
put_at-requires c = tt

pub shape_of-out : goal.shape_of-out
shape_of-out c = c.put_at.auto.out

pub returns : goal.returns
returns c =
    let t = c.put_text-length in
    rw (c.prefix.ensures ∙ front_text _ _ _ _ t.ensures) at c.put_at.ensures
