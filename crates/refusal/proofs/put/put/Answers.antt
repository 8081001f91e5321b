-- `put` meets its contract: the text fits. Assumes nothing.
use Rattle.buffer.proofs.Writing.{put_wrote}
use Rattle.refusal.proofs.put.put.Goals as goal

pub put_at-requires : goal.put_at-requires
put_at-requires c = tt

pub shape_of-out : goal.shape_of-out
shape_of-out c = c.put_at.auto.out

pub returns : goal.returns
returns c =
    put_wrote c.args.at c.args.text.now c.args.out.now _ _ c.requires c.put_at.ensures
