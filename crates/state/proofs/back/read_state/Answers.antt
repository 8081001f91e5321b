-- `state::read_state` meets its contract: one word is read as its fields. Assumes nothing.
use Rattle.std.proofs.Common.{rules}
use Rattle.state.proofs.ReadingBack.{read_meets}
use Rattle.state.proofs.back.read_state.Goals as goal

pub returns-in-len1 : goal.returns-in-len1
returns-in-len1 c = read_meets c.args.words.now _ (search rules)
