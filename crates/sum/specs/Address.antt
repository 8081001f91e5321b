-- Where a sum's chain is.
use Rattle.std.specs.Prelude.{ℕ, ◌+◌, ◌*◌, ◌/◌, ◌%◌}

-- the address of a slot: its state is slot / 3 and its part the remainder [W14, S5]
abbrev pub sum_address : (slot : ℕ) → ℕ
sum_address slot = 0x40 + 4 * (slot / 3) + slot % 3
