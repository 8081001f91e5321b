-- `sum_telling::sets::pair_set` meets its contract, line by line. Assumes nothing.
use Rattle.std.proofs.Common.{arith}
use Rattle.lines.specs.Line.{line}
use Rattle.lut.specs.Table.{answer_at}
use Rattle.sum_telling.proofs.Chosen.{pick_pair}
use Rattle.sum_telling.proofs.sets.pair_set.Goals as goal

pub returns : goal.returns
returns c = λ k h.
    let a = c.args in
    rw (
      c.choose-3.ensures k,
      c.choose.ensures k,
      c.choose-2.ensures k,
      c.spread.ensures k h,
      c.spread-2.ensures k h,
      c.spread-3.ensures k h,
      c.spread-4.ensures k h,
    ) (pick_pair (answer_at a.table) (line a.a k) (line a.b k) (omega arith) (omega arith))
