-- An edge's description in a sheet, as bytes: what every kind of record answers of its own.
use Rattle.std.specs.Prelude.{ℕ, List, [], ◌∷◌, Option, Some, None}
use Rattle.lut.specs.declared.Telling.{Telling}
use Rattle.buffer.specs.Verdict.{fault_unless}
use Rattle.peek.specs.Fields.{field_of, field_bytes}
use Rattle.edge.specs.declared.Edge.{Edge}
use Rattle.edge.specs.Rule.{edge_accepted}
use Rattle.edge.specs.Words.{words_of}
use Rattle.edge.specs.Back.{read_edge}
use Rattle.edge.specs.Telling.{edge_telling}

-- the bytes of a description: rise, fall and neither [S1, S2]
abbrev pub size : ℕ
size = 12

-- the edge of a description [S1, S2]
abbrev pub from_bytes : List ℕ → Edge
from_bytes d = record { rise = field_of d 0; fall = field_of d 1; neither = field_of d 2 }

-- the description of an edge [S1, S2]
abbrev pub to_bytes : Edge → List ℕ
to_bytes e = field_bytes (e.rise ∷ e.fall ∷ e.neither ∷ [])

-- 9 if the edge is not accepted, 0 if it is [F9]
unfoldable pub fault : List ℕ → ℕ
fault d = fault_unless (edge_accepted (from_bytes d).rise (from_bytes d).fall (from_bytes d).neither) 9

-- a description's chain words [W11, G4]
unfoldable pub words : List ℕ → List ℕ
words d = words_of (from_bytes d)

-- the description of an answer of the way back; no bytes where it is refused [B7, C5]
abbrev pub bytes_read : Option Edge → List ℕ
bytes_read (Some e) = to_bytes e
bytes_read None = []

-- computed: the description that words are read as, no bytes if there is none; theorem read_means [B6, B7, C5, F16]
unfoldable pub back : List ℕ → List ℕ
back ws = bytes_read (read_edge ws)

-- computed: two samples that tell two descriptions apart, if some do; theorem telling_says [B6, N6, N9]
unfoldable pub telling : (old new : List ℕ) → Telling
telling old new = edge_telling (from_bytes old) (from_bytes new)
