-- `sheet::longest_sheet` meets its contract: computed. Assumes nothing.
use mathlib.Core.Path.{refl}
use Rattle.records.specs.Sections.{kind_of, most_of, description_size}
use Rattle.sheet.specs.Parsed.{longest_from}
use Rattle.sheet.proofs.longest_sheet.Goals as goal

pub returns : goal.returns
unfolding longest_from most_of description_size kind_of
returns c = refl
