-- The masked lines of a sample as a number, and a number put on the masked lines; over the n lowest lines, from the
-- lowest.
use Rattle.std.specs.Prelude.{ℕ, zero, suc, ◌+◌, ◌*◌, ◌/◌, ◌%◌}
use Rattle.lines.specs.Line.{choose}

-- a number with one more bit below it, if the line is masked [P3]
abbrev pub pack : ℕ → ℕ → ℕ → ℕ
pack zero bit x = x
pack (suc d) bit x = x * 2 + bit

-- the masked lines' values as the bits of a number, from the lowest line and bit up [P3, P4]
unfoldable pub gathered : ℕ → ℕ → ℕ → ℕ
gathered zero sample mask = 0
gathered (suc n) sample mask = pack (mask % 2) (sample % 2) (gathered n (sample / 2) (mask / 2))

-- the counterpart: bit r of a value on the masked line with r masked lines below it; every other line is 0 [W9]
unfoldable pub scattered : ℕ → ℕ → ℕ → ℕ
scattered zero value mask = 0
scattered (suc n) value mask =
    scattered n (choose (mask % 2) value (value / 2)) (mask / 2) * 2 + choose (mask % 2) 0 (value % 2)

-- computed: the mask without its lowest masked line; pinned by theorem reduces of range_telling [B6, G11]
unfoldable pub drop_lowest : ℕ → ℕ → ℕ
drop_lowest zero mask = 0
drop_lowest (suc n) mask = choose (mask % 2) (drop_lowest n (mask / 2)) (mask / 2) * 2
