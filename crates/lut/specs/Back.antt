-- What a way back answers in numbers, whatever the kind.
use Rattle.std.specs.Prelude.{List, ◌↔◌, ◌≡◌, ℕ}

-- an accepted description of a kind has these as its chain words [C5, G2, G4]
abbrev pub Written : {D : Type 0} (Accepted : D → Type 0) (words_of : D → List ℕ) → List ℕ → Type 0
Written {D = D} Accepted words_of words = (d : D) × (Accepted d × (words ≡ words_of d))

-- an answer in numbers: 0 exactly where an accepted description has these words, 16 exactly where none has; the place
-- is counted from the item's own first byte, and is that byte: there its first select stands [A5, C5, F16]
pub record ReadNumbered {D : Type 0} (Accepted : D → Type 0) (words_of : D → List ℕ) (words : List ℕ) (number place : ℕ) : Type 0 where
  pub read : (number ≡ 0) ↔ Written Accepted words_of words
  pub refused : (number ≡ 16) ↔ (Written Accepted words_of words → ⊥)
  pub first : place ≡ 0
