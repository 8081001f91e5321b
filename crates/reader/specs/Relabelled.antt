-- What is left of a sheet when it is compiled and read back.
use Rattle.std.specs.Prelude.{ℕ, ◌+◌, List, [], ◌∷◌, ◌++◌, map}
use Rattle.records.specs.Sections.{slot_of, description_of}
unfoldable pub use Rattle.kinds.specs.Table.{cut_description}
use Rattle.reader.specs.Back.{label_for}

-- a record of section k with the reader's label, a term's target cut to its mask [C7]
unfoldable pub relabel : (k : ℕ) (r : List ℕ) → List ℕ
relabel k r = slot_of r ∷ (label_for k (slot_of r) ++ cut_description k (description_of r))

-- the same of all records of the sections from section k on [D2.5]
unfoldable pub relabelled_from : (k : ℕ) (p : List (List (List ℕ))) → List (List (List ℕ))
relabelled_from k [] = []
relabelled_from k (rs ∷ p) = map (relabel k) rs ∷ relabelled_from (k + 1) p

-- a sheet that is taken apart, with the reader's labels and each target cut to its mask [D2.5]
unfoldable pub relabelled : (p : List (List (List ℕ))) → List (List (List ℕ))
relabelled p = relabelled_from 0 p
