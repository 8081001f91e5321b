-- Numbers of four bytes side by side, as a description has them; and what it is to be written by a description of some
-- kind.
use Rattle.std.specs.Prelude.{ℕ, zero, suc, ◌+◌, ◌*◌, ◌≡◌, List, [], ◌∷◌, ◌++◌, length}
use Rattle.peek.specs.Bytes.{Bytes, u32_at, u32_bytes}

-- number i of a description that is made of numbers, least byte first [S2, B3]
abbrev pub field_of : List ℕ → ℕ → ℕ
field_of d i = u32_at d (4 * i)

-- the same for writing: numbers as bytes, one behind the other [S2, B3]
unfoldable pub field_bytes : List ℕ → List ℕ
field_bytes [] = []
field_bytes (n ∷ ns) = u32_bytes n ++ field_bytes ns

-- n numbers of a description from number i on [S2]
abbrev pub fields_from : ℕ → ℕ → List ℕ → List ℕ
fields_from zero i d = []
fields_from (suc n) i d = field_of d i ∷ fields_from n (i + 1) d

-- of a kind with this size, these faults, these words: d is a description without fault that writes the words ws [C5]
pub record Writes (size : ℕ) (fault : List ℕ → ℕ) (words : List ℕ → List ℕ) (ws d : List ℕ) : Type 0 where
  pub are_bytes : Bytes d
  pub whole : length d ≡ size
  pub faultless : fault d ≡ 0
  pub written : words d ≡ ws
