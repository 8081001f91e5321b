-- The first select, then the chains.
use Rattle.std.proofs.Common.{drop, refl, sym, ◌∙◌, arith}
use Rattle.buffer.proofs.Faults.{and_then_stop, and_then_go}
use Rattle.command.specs.Reading.{number}
use Rattle.kinds.proofs.Places.{known_small}
use Rattle.reader.proofs.Items.{first_accepted}
use Rattle.reader.proofs.Taking.{taken_refused, taken_as}
use Rattle.reader.proofs.item.Item.take.Goals as goal

pub returns-in-Refused : goal.returns-in-Refused
returns-in-Refused c = taken_refused _ _ _ _ _ (and_then_stop _ _ _ _ _ refl (sym c.check_first.ensures ∙ c.in-Refused.is))

pub take_chains-requires : goal.take_chains-requires
take_chains-requires c =
    let i = c.args.self.now in
    let s = drop i.at i.stream.now in
    let known = (first_accepted c.args.low i.at s (sym c.check_first.ensures ∙ c.in_default.is)).0 in
    (omega (arith, i.known.0, known_small (number s) known), c.requires)

pub returns : goal.returns
returns c = taken_as _ _ _ _ _ (and_then_go _ _ _ refl (sym c.check_first.ensures ∙ c.in_default.is)) c.take_chains.ensures
