-- The chains that a sheet loads, and the commands that load them.
use Rattle.std.specs.Prelude.{ℕ, ◌+◌, ◌*◌, get_or, drop}
use mathlib.Core.List.{List, [], ◌∷◌, ◌++◌, flatten}
use Rattle.command.specs.Command.{chain}
use Rattle.command.specs.Reading.{words_in}
use Rattle.records.specs.Sections.{slot_of, description_of}
use Rattle.kinds.specs.Table.{address_of, chains_of, sending_order}

-- a chain as it is loaded: an address and the words [W1]
pub record Loaded : Type 0 where
  pub address : ℕ
  pub words : List ℕ

-- chains at neighbouring addresses, as the two of a range are [W6]
unfoldable pub loaded_at : (address : ℕ) → List (List ℕ) → List Loaded
loaded_at address [] = []
loaded_at address (words ∷ more) = record { address = address; words = words } ∷ loaded_at (address + 1) more

-- the chains of a record of section k: one item [G13]
abbrev pub loaded_of : (k : ℕ) (r : List ℕ) → List Loaded
loaded_of k r = loaded_at (address_of k (slot_of r)) (chains_of k (description_of r))

-- the chains of section k's records, by slot [W17]
unfoldable pub loaded_in : (k : ℕ) → List (List ℕ) → List Loaded
loaded_in k [] = []
loaded_in k (r ∷ rs) = loaded_of k r ++ loaded_in k rs

-- the chains of some sections, one section behind the other [W17]
unfoldable pub loaded_by : (order : List ℕ) → List (List (List ℕ)) → List Loaded
loaded_by [] p = []
loaded_by (k ∷ ks) p = loaded_in k (get_or p k []) ++ loaded_by ks p

-- the chains of a sheet that is taken apart, by rising address; theorem addresses_rise [W17]
abbrev pub sheet_loads : (p : List (List (List ℕ))) → List Loaded
sheet_loads p = loaded_by sending_order p

-- the commands that load them, one behind the other [W1, W17]
unfoldable pub commands_of : List Loaded → List ℕ
commands_of [] = []
commands_of (c ∷ cs) = chain c.address c.words ++ commands_of cs

-- a description's chain words; of a range the lower chain's are the first (*chain words* is the buyer's term) [G4]
abbrev pub chain_words_of : (k : ℕ) (d : List ℕ) → List ℕ
chain_words_of k d = flatten (chains_of k d)

-- the numbers in the load commands of chains of so many words each, from the start of s on [G4]
unfoldable pub words_read : (lengths : List ℕ) (s : List ℕ) → List ℕ
words_read [] s = []
words_read (n ∷ ns) s = words_in n (drop 5 s) ++ words_read ns (drop (5 + 5 * n) s)
