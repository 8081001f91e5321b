-- `put_line` meets its contract: the line is built in local room and put at once. Assumes nothing.
use Rattle.std.proofs.Common.{zero-add}
use Rattle.notice.proofs.Lengths.{line_most}
use Rattle.notice.proofs.single.put_line.Goals as goal

pub put_line-length-requires : goal.put_line-length-requires
put_line-length-requires c = simp zero-add (line_most c.args.line)
