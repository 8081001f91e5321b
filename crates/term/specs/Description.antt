-- A pattern's description in a sheet, as bytes: what every kind of record answers of its own.
use Rattle.std.specs.Prelude.{ℕ, Option, Some, None, List, [], ◌∷◌}
use Rattle.std.specs.Int.Bits.{bit_and}
use Rattle.lut.specs.declared.Telling.{Telling}
use Rattle.peek.specs.Fields.{field_of, field_bytes}
use Rattle.term.specs.declared.Pattern.{Pattern}
use Rattle.term.specs.Words.{words_of}
use Rattle.term.specs.Back.{read_term}
use Rattle.term.specs.Telling.{term_telling}

-- the bytes of a description: target and mask [S1, S2]
abbrev pub size : ℕ
size = 8

-- the pattern of a description [S1, S2, G3]
abbrev pub from_bytes : List ℕ → Pattern
from_bytes d = record { target = field_of d 0; mask = field_of d 1 }

-- the description of a pattern [S1, S2, G3]
abbrev pub to_bytes : Pattern → List ℕ
to_bytes p = field_bytes (p.target ∷ p.mask ∷ [])

-- a term has no fault of its own [G2]
unfoldable pub fault : List ℕ → ℕ
fault d = 0

-- a description's chain words [W4, G4]
unfoldable pub words : List ℕ → List ℕ
words d = words_of (from_bytes d)

-- the description of an answer of the way back; no bytes where it is refused [B7, C5]
abbrev pub bytes_read : Option Pattern → List ℕ
bytes_read (Some p) = to_bytes p
bytes_read None = []

-- computed: the description that words are read as, no bytes if there is none; theorem read_means [B6, B7, C5, F16]
unfoldable pub back : List ℕ → List ℕ
back ws = bytes_read (read_term ws)

-- a description with its target cut to its mask [C7]
unfoldable pub cut : List ℕ → List ℕ
cut d = to_bytes (record { target = bit_and (from_bytes d).target (from_bytes d).mask; mask = (from_bytes d).mask })

-- computed: the least sample that tells two apart, if one does; theorems telling-says, telling-least [B6, N6, N9]
unfoldable pub telling : (old new : List ℕ) → Telling
telling old new = term_telling (from_bytes old).target (from_bytes old).mask (from_bytes new).target (from_bytes new).mask
