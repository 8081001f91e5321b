-- A sum's description in a sheet, as bytes: what every kind of record answers of its own.
use Rattle.std.specs.Prelude.{ℕ, List, [], Option, Some, None, take, replicate}
use Rattle.buffer.specs.Verdict.{fault_unless}
use Rattle.buffer.specs.Room.{fill}
use Rattle.sum.specs.Operation.{codes_accepted}
use Rattle.sum.specs.Words.{words_of}
use Rattle.sum.specs.Back.{read_sum}

-- the bytes of a description, one for each operation [S1, S6]
abbrev pub size : ℕ
size = 11

-- the operations of a description; 0 for bytes that it lacks [S6, B4]
abbrev pub from_bytes : List ℕ → List ℕ
from_bytes d = fill (take size d) (replicate size 0)

-- operations are their own description [S6]
abbrev pub to_bytes : List ℕ → List ℕ
to_bytes ops = ops

-- 10 if one of the bytes is no operation, 0 if none is [F10]
unfoldable pub fault : List ℕ → ℕ
fault d = fault_unless (codes_accepted d) 10

-- a description's chain words [W14, G4]
unfoldable pub words : List ℕ → List ℕ
words d = words_of (from_bytes d)

-- the description of an answer of the way back; no bytes where it is refused [B7, C5]
abbrev pub bytes_read : Option (List ℕ) → List ℕ
bytes_read (Some ops) = to_bytes ops
bytes_read None = []

-- computed: the description that words are read as, no bytes if there is none; theorem read_means [B6, B7, C5, F16]
unfoldable pub back : List ℕ → List ℕ
back ws = bytes_read (read_sum ws)
