-- `put_sources` meets its contract: three writers in a row. Assumes nothing.
use Rattle.std.proofs.Common.{arith}
use Rattle.buffer.proofs.Writing.{wrote_then}
use Rattle.report.proofs.Naming.{hits_most}
use Rattle.report.proofs.sources.put_sources.Goals as goal

pub put-requires : goal.put-requires
put-requires c = omega (arith, hits_most)

pub returns : goal.returns
returns c =
    let w = wrote_then _ _ _ _ _ _ _ _ (omega arith) c.put-a.ensures c.put_names-b.ensures in
    wrote_then _ _ _ _ _ _ _ _ (omega arith) w c.put.ensures
