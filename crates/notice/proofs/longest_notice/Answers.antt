-- `notice::longest_notice` meets its contract: computed. Assumes nothing.
use Rattle.std.proofs.Common.{refl}
use Rattle.kinds.specs.Table.{most_of, kind_of}
use Rattle.notice.specs.Notice.{slot_most, most_text}
use Rattle.notice.proofs.longest_notice.Goals as goal

pub returns : goal.returns
unfolding most_text slot_most most_of kind_of
returns c = refl
