-- A programme as the recorder holds it: the chain words in each slot.
use Rattle.std.specs.Prelude.{ℕ, List, [], ◌∷◌}
use Rattle.records.specs.Sections.{description_of}
use Rattle.sheet.specs.Parsed.{record_with}
use Rattle.compiler.specs.Chains.{chain_words_of}

-- for each section and slot the chain words that stand there; none where there is no record [R2]
abbrev pub Programme : Type 0
Programme = (k slot : ℕ) → List ℕ

-- the chain words that the compiler writes for a record of section k; none for no record [G4, B7, R2]
unfoldable pub words_for : (k : ℕ) (r : List ℕ) → List ℕ
words_for k [] = []
words_for k (b ∷ bs) = chain_words_of k (description_of (b ∷ bs))

-- the programme of a sheet [G4, G9, R2]
unfoldable pub programme_of : (sheet : List ℕ) → Programme
programme_of s k slot = words_for k (record_with k slot s)
