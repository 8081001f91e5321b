-- `put_digest` meets its contract: the digest, or that none was asked for. Assumes nothing.
use Rattle.std.proofs.Common.{arith}
use Rattle.buffer.proofs.Writing.{put_wrote, wrote_then}
use Rattle.page.proofs.Heading.{digest_none, digest_some}
use Rattle.page.proofs.head.put_digest.Goals as goal

pub returns-then-is_empty : goal.returns-then-is_empty
returns-then-is_empty c = rw (digest_none c.args.digest.now c.if-is_empty.ensures) (put_wrote _ _ _ _ _ (omega arith) c.put_at.ensures)

pub returns : goal.returns
returns c =
    let a = put_wrote _ _ _ _ _ (omega arith) c.put_at-a.ensures in
    let b = put_wrote _ _ _ _ _ (omega arith) c.put_at-2.ensures in
    rw (digest_some c.args.digest.now c.if-is_empty.ensures) (wrote_then _ _ _ _ _ _ _ _ (omega arith) a b)
