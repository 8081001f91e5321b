-- A range's description in a sheet, as bytes: what every kind of record answers of its own. What tells two apart is in
-- range_telling.
use Rattle.std.specs.Prelude.{ℕ, Option, Some, None, List, [], ◌∷◌}
use Rattle.peek.specs.Fields.{field_of, field_bytes}
use Rattle.range.specs.declared.Range.{Range}
use Rattle.range.specs.Rule.{range_fault}
use Rattle.range.specs.Words.{words_of}
use Rattle.range.specs.Back.{read_range}

-- the bytes of a description: lower, upper and mask [S1, S2]
abbrev pub size : ℕ
size = 12

-- the range of a description [S1, S2]
abbrev pub from_bytes : List ℕ → Range
from_bytes d = record { lower = field_of d 0; upper = field_of d 1; mask = field_of d 2 }

-- the description of a range [S1, S2]
abbrev pub to_bytes : Range → List ℕ
to_bytes r = field_bytes (r.lower ∷ r.upper ∷ r.mask ∷ [])

-- the first fault of a description: 6, 7 or 8; 0 is none [F6, F7, F8, O1]
unfoldable pub fault : List ℕ → ℕ
fault d = range_fault (from_bytes d).lower (from_bytes d).upper (from_bytes d).mask

-- a description's chain words [W6, G4]
unfoldable pub words : List ℕ → List ℕ
words d = words_of (from_bytes d)

-- the description of an answer of the way back; no bytes where it is refused [B7, C5]
abbrev pub bytes_read : Option Range → List ℕ
bytes_read (Some r) = to_bytes r
bytes_read None = []

-- computed: the description that words are read as, no bytes if there is none; theorem read_means [B6, B7, C5, F16]
unfoldable pub back : List ℕ → List ℕ
back ws = bytes_read (read_range ws)
