-- The stream's refusal, or the sheet that the room holds after the walk.
use Rattle.std.proofs.Common.{◌*◌, refl, sym, ◌∙◌}
use Rattle.buffer.proofs.Writing.{refused, accepted, delivers}
use Rattle.kinds.specs.Table.{sections}
use Rattle.reader.specs.Taking.{part_size}
use Rattle.reader.proofs.Theorems.{read_says}
use Rattle.reader.proofs.Walking.{empty_room}
use Rattle.reader.proofs.read.Goals as goal

pub walk-requires : goal.walk-requires
walk-requires c = empty_room (sections * part_size) refl

pub returns-in-Refused : goal.returns-in-Refused
returns-in-Refused c =
    let d = refused _ _ _ _ _ (sym c.walk.ensures.answer ∙ c.in-Refused.is) in
    record { delivered = d; read_says = read_says _ (λ i. (c.type_inv.stream i).fits) _ _ _ d }

pub returns-in-Accepted : goal.returns-in-Accepted
returns-in-Accepted c =
    let ok = sym c.walk.ensures.answer ∙ c.in-Accepted.is in
    let d = accepted _ _ _ _ _ ok (delivers (c.walk.ensures.sheet ok) c.put_sheet.ensures) in
    record { delivered = d; read_says = read_says _ (λ i. (c.type_inv.stream i).fits) _ _ _ d }
