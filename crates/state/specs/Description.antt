-- A state's description in a sheet, as bytes: what every kind of record answers of its own.
use Rattle.std.specs.Prelude.{ℕ, List, [], ◌∷◌, ◌++◌, Option, Some, None, get_or}
use Rattle.buffer.specs.Verdict.{fault_unless}
use Rattle.peek.specs.Bytes.{u32_at, u32_bytes, bytes_from}
use Rattle.state.specs.declared.State.{State}
use Rattle.state.specs.Fields.{fits}
use Rattle.state.specs.Words.{words_of}
use Rattle.state.specs.Back.{read_state}

-- the bytes of a description: four of the number, one of the else state, eight of the flags [S1, S15]
abbrev pub size : ℕ
size = 13

-- the state of a description; 0 for bytes that it lacks [S15, B4]
abbrev pub from_bytes : List ℕ → State
from_bytes d = record { number = u32_at d 0; branch = get_or d 4 0; flags = bytes_from 8 5 d }

-- the description of a state [S15]
abbrev pub to_bytes : State → List ℕ
to_bytes s = u32_bytes s.number ++ (s.branch ∷ s.flags)

-- 18 if a field does not fit, 0 if all do [F18]
unfoldable pub fault : List ℕ → ℕ
fault d = fault_unless (fits (from_bytes d)) 18

-- a description's chain words [W19, G4]
unfoldable pub words : List ℕ → List ℕ
words d = words_of (from_bytes d)

-- the description of an answer of the way back; no bytes where it is refused [B7, C5]
abbrev pub bytes_read : Option State → List ℕ
bytes_read (Some s) = to_bytes s
bytes_read None = []

-- computed: the description that words are read as, no bytes if there is none; theorem read_means [B6, B7, C5, F16]
unfoldable pub back : List ℕ → List ℕ
back ws = bytes_read (read_state ws)
