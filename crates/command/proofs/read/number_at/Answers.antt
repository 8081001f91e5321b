-- `command::number_at` meets its contract.
-- Assumes nothing.
use Rattle.command.proofs.read.number_at.Goals as goal

pub returns : goal.returns
returns c = cc
