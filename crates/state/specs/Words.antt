-- The one chain word of a state.
use Rattle.std.specs.Prelude.{ℕ, ◌+◌, ◌*◌, ◌%◌, List, [], ◌∷◌, get_or}
use Rattle.lines.specs.Line.{from_lines}
use Rattle.state.specs.declared.State.{State}

-- eight flags as the bits of a number, the first the lowest; of a byte above 1 the lowest bit is left [S15, W19]
abbrev pub bits_of : List ℕ → ℕ
bits_of flags = from_lines 8 (λ i. get_or flags i 0 % 2)

-- a state's word: number in bits 0 to 19, else state in 20 to 23, flags from 24 on; what does not fit is cut [S15, W19]
unfoldable pub word_of : State → ℕ
word_of s = s.number % 0x100000 + s.branch % 16 * 0x100000 + bits_of s.flags * 0x1000000

-- a state's words, of which there is one [W19, G4]
abbrev pub words_of : State → List ℕ
words_of s = word_of s ∷ []
