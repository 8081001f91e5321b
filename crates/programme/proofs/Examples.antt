-- Which bit each of the sixteen sources is, worked out. All computed. Assumes nothing.
use Prim.Native.Nat.{ℕ}
use mathlib.Core.Path.{◌≡◌, refl}
use mathlib.Core.Bool.{◌&&◌}
use mathlib.Core.List.{[], ◌∷◌}
use lib.Dec.{eqb}
use Rattle.lines.specs.Line.{from_lines}
use Rattle.lut.specs.Table.{one_if}
use Rattle.kinds.specs.Table.{TERMS, RANGES, EDGES}
use Rattle.programme.specs.Machine.{sources_by}

-- whether the detector in slot i of section j is the one in this slot of section k
pub is_it : (k slot j i : ℕ) → ℕ
is_it k slot j i = one_if (eqb j k && eqb i slot)

-- the sources where one detector hits and no other does
pub alone : (k slot : ℕ) → ℕ
alone k slot = sources_by (is_it k slot TERMS) (is_it k slot RANGES) (is_it k slot EDGES)

-- ten terms, two ranges, two edges, each at its bit [M6, R2]
pub each_at_its_bit : alone TERMS 0
    ∷ alone TERMS 1
    ∷ alone TERMS 2
    ∷ alone TERMS 3
    ∷ alone TERMS 4
    ∷ alone TERMS 5
    ∷ alone TERMS 6
    ∷ alone TERMS 7
    ∷ alone TERMS 8
    ∷ alone TERMS 9
    ∷ alone RANGES 0
    ∷ alone RANGES 1
    ∷ alone EDGES 0
    ∷ alone EDGES 1
    ∷ []
    ≡ 0x0001 ∷ 0x0002 ∷ 0x0004 ∷ 0x0008 ∷ 0x0010 ∷ 0x0020 ∷ 0x0040 ∷ 0x0080 ∷ 0x0100 ∷ 0x0200 ∷ 0x0400 ∷ 0x0800 ∷ 0x1000 ∷ 0x2000 ∷ []
unfolding is_it alone sources_by from_lines
each_at_its_bit = refl

-- the bits 14 and 15 are the timers', which never hit, whatever the others do [M6, R2]
pub timers_never_hit : sources_by (λ i. 1) (λ i. 1) (λ i. 1) ≡ 0x3FFF
unfolding sources_by from_lines
timers_never_hit = refl
