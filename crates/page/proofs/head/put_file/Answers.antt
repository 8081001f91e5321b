-- `put_file` meets its contract: title and name, size, digest. Assumes nothing.
use Rattle.std.proofs.Common.{arith}
use Rattle.buffer.proofs.Writing.{put_wrote, wrote_then}
use Rattle.page.proofs.Heading.{size_short}
use Rattle.page.proofs.head.put_file.Goals as goal

pub put_digest-requires-clause-at_in_bounds : goal.put_digest-requires-clause-at_in_bounds
put_digest-requires-clause-at_in_bounds c =
    let a = put_wrote _ _ _ _ _ (omega arith) c.put_at-a.ensures in
    let b = put_wrote _ _ _ _ _ (omega arith) c.put_at-b.ensures in
    omega (arith, size_short)

pub returns : goal.returns
returns c =
    let a = put_wrote _ _ _ _ _ (omega arith) c.put_at-a.ensures in
    let b = put_wrote _ _ _ _ _ (omega arith) c.put_at-b.ensures in
    let named = wrote_then _ _ _ _ _ _ _ _ (omega arith) a b in
    wrote_then _ _ _ _ _ _ _ _ (omega arith) (wrote_then _ _ _ _ _ _ _ _ (omega arith) named c.put_size-c.ensures) c.put_digest.ensures
