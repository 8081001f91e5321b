-- `compiler::longest_stream` meets its contract: computed. Assumes nothing.
use mathlib.Core.Path.{refl}
use Rattle.kinds.specs.Table.{kind_of, most_of, chain_count, chain_length}
use Rattle.compiler.specs.Items.{lengths_of, size_of, item_size}
use Rattle.compiler.specs.Stream.{longest_by}
use Rattle.compiler.proofs.longest_stream.Goals as goal

pub returns : goal.returns
unfolding longest_by most_of item_size size_of lengths_of chain_count chain_length kind_of
returns c = refl
