-- The greater number has the highest line whose table answers 0.
use Rattle.std.proofs.Common.{◌∙◌, arith}
use Rattle.range.proofs.Compared.{from_one_if}
use Rattle.range.proofs.Packed.{carried}
use Rattle.range.proofs.model.chain_carry.Goals as goal

pub returns : goal.returns
returns c =
    let split = c.split_at.ensures in
    let first = c.packed-above.ensures in
    let second = c.packed-below.ensures in
    carried c.args.chain.now c.args.sample c.packed-above.result c.packed-below.result (omega arith) (omega arith)
    (rw split.front at first.low_tables) (rw split.front at first.high_tables) (rw split.back at second.low_tables) (rw split.back at second.high_tables)
    _ (c.from.ensures ∙ from_one_if _)
