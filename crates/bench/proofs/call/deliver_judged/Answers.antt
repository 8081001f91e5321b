-- `deliver_judged` meets its contract: what the walk took is judged, then copied. Assumes nothing.
use Rattle.std.proofs.Common.{arith, sym}
use Rattle.std.proofs.Math.Seq.{length-take-le}
use Rattle.bench.proofs.Calling.{walk_few, walked_apart}
use Rattle.bench.proofs.call.deliver_judged.Goals as goal

pub slice_bounds-room-end : goal.slice_bounds-room-end
slice_bounds-room-end c = let few = walk_few _ _ _ _ _ _ c.walk-walked.ensures in omega arith

pub slice_bounds-put_words-end : goal.slice_bounds-put_words-end
slice_bounds-put_words-end c = let few = walk_few _ _ _ _ _ _ c.walk-walked.ensures in sym (length-take-le _ _ (omega arith))

pub returns : goal.returns
returns c =
    walked_apart _ _ _ _ _ _ c.walk-walked.ensures _ _ _ c.requires.few c.if-out-needed.false c.put_words.ensures
