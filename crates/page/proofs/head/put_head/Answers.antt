-- `put_head` meets its contract: the heading and both sheets. Assumes nothing.
use Rattle.std.proofs.Common.{arith}
use Rattle.buffer.proofs.Writing.{put_wrote, wrote_then}
use Rattle.refusal.specs.Words.{ascii}
use Rattle.page.specs.Page.{head_text, file_of}
use Rattle.page.proofs.Heading.{file_short}
use Rattle.page.proofs.head.put_head.Goals as goal

pub put_file-requires-clause-at_in_bounds : goal.put_file-requires-clause-at_in_bounds
put_file-requires-clause-at_in_bounds c =
    let a = put_wrote _ _ _ _ _ (omega arith) c.put_at-a.ensures in
    let f = c.args.first.now in
    omega (arith, file_short (ascii "Old sheet: ") (file_of f) (omega arith) f.name_short f.digest_short)

pub returns : goal.returns
unfolding head_text
returns c =
    let a = put_wrote _ _ _ _ _ (omega arith) c.put_at-a.ensures in
    wrote_then _ _ _ _ _ _ _ _ (omega arith) a (wrote_then _ _ _ _ _ _ _ _ (omega arith) c.put_file-b.ensures c.put_file.ensures)
