-- `notice::notice` meets its contract: the cases are those of proofs/Answers.antt. Assumes nothing.
use Rattle.kinds.specs.Table.{most_of, kind_of}
use Rattle.notice.specs.Notice.{slot_most, most_text}
use Rattle.notice.proofs.Lengths.{at_most}
use Rattle.notice.proofs.notice.Goals as goal

pub put_sections-n-requires : goal.put_sections-n-requires
unfolding most_text slot_most most_of kind_of
put_sections-n-requires c = at_most _ _
