-- What a stream consists of, as it is written.
use Rattle.std.specs.Prelude.{ℕ, ◌^◌, ◌<◌, List, [], ◌∷◌, ◌++◌, get_or}
use Rattle.peek.specs.Bytes.{u32_bytes}

-- the opcode of a select, which names the chain's address [W2]
abbrev pub select_op : ℕ
select_op = 0x9E

-- the opcode of a load, which has one word [W2]
abbrev pub load_op : ℕ
load_op = 0x9F

-- a command: its opcode and its number in four bytes, least first [W2, B3]
abbrev pub command : ℕ → ℕ → List ℕ
command op n = op ∷ u32_bytes n

-- a load for each word, first sent first [W1]
unfoldable pub loads : List ℕ → List ℕ
loads [] = []
loads (w ∷ ws) = command load_op w ++ loads ws

-- a chain as it is loaded: a select with its address, then a load for each of its words [W1]
abbrev pub chain : ℕ → List ℕ → List ℕ
chain address words = command select_op address ++ loads words

-- a list of words: each number has 32 bits [B2]
abbrev pub Words : List ℕ → Type 0
Words ws = (i : ℕ) → get_or ws i 0 < 2 ^ 32
