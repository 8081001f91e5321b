-- How many bytes an item takes up. A section is known by its number; what one has and another has not is the table of
-- kinds.
use Rattle.std.specs.Prelude.{ℕ, ◌+◌, ◌*◌, List, [], ◌∷◌}
unfoldable pub use Rattle.kinds.specs.Table.{kind_of, address_of, lengths_of, chains_of}

-- how many bytes chains of so many words take up: five for each select and for each word [W1, W2]
unfoldable pub size_of : List ℕ → ℕ
size_of [] = 0
size_of (n ∷ ns) = 5 + 5 * n + size_of ns

-- how many bytes an item of section k takes up: 25, 170, 45, 35 and 10 [W18]
unfoldable pub item_size : (k : ℕ) → ℕ
item_size k = size_of (lengths_of k)
