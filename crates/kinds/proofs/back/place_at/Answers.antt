-- `place_at` meets its contract: each arm that has a slot, by its address. Assumes nothing.
use Rattle.std.proofs.Common.{ℕ, ◌+◌, ◌*◌, ◌/◌, ◌%◌, ◌-◌, arith}
use Rattle.kinds.specs.Table.{TERMS, RANGES, EDGES, SUMS, STATES, kind_of, most_of, address_of}
use Rattle.kinds.proofs.Places.{starts}
use Rattle.kinds.proofs.back.place_at.Goals as goal

pub returns-in-0-to-15 : goal.returns-in-0-to-15
unfolding most_of kind_of address_of
returns-in-0-to-15 c = starts STATES c.args.address c.args.address (omega arith) (omega arith) (omega arith)

pub returns-in-32-to-41 : goal.returns-in-32-to-41
unfolding most_of kind_of address_of
returns-in-32-to-41 c = starts TERMS (c.args.address - 0x20) c.args.address (omega arith) (omega arith) (omega arith)

pub returns-in-48 : goal.returns-in-48
unfolding most_of kind_of address_of
returns-in-48 c = starts RANGES ((c.args.address - 0x30) / 2) c.args.address (omega arith) (omega arith) (omega arith)

pub returns-in-52-to-53 : goal.returns-in-52-to-53
unfolding most_of kind_of address_of
returns-in-52-to-53 c = starts EDGES (c.args.address - 0x34) c.args.address (omega arith) (omega arith) (omega arith)

pub returns-else-address-eq3 : goal.returns-else-address-eq3
unfolding most_of kind_of address_of
returns-else-address-eq3 c =
    let a : ℕ = c.args.address in
    starts SUMS (3 * ((a - 0x40) / 4) + a % 4) a (omega arith) (omega arith) (omega arith)
