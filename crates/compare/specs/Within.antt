-- Bytes within bounds.
use Rattle.std.specs.Prelude.{ℕ, Bool, true, ◌&&◌, List, [], ◌∷◌, leb}

-- each byte is from low to high: labels from 0x20 to 0x7E, operations from 0 to 9 [S4, S6]
unfoldable pub all_within : ℕ → ℕ → List ℕ → Bool
all_within low high [] = true
all_within low high (b ∷ bs) = leb low b && leb b high && all_within low high bs
