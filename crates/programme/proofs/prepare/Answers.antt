-- `prepare` meets its contract: the table of an accepted sheet. Assumes nothing.
use Rattle.std.proofs.Common.{arith, sym}
use Rattle.buffer.proofs.Writing.{accepted, wrote}
use Rattle.sheet.specs.Parsed.{parse}
use Rattle.sheet.proofs.Laid.{judged_accepted}
use Rattle.programme.proofs.Theorems.{table_length_law}
use Rattle.programme.proofs.prepare.Goals as goal

pub returns : goal.returns
returns c =
    let whole = table_length_law (parse c.args.sheet.now) in
    accepted _ _ _ _ _ (judged_accepted _ _ c.judge_parts-found.ensures c.if-found-ne0.false)
    (wrote _ _ _ _ (omega arith) (sym whole) c.put_sections.ensures.left)
