-- The page line by line: which of its lines are the notice's.
use Rattle.std.specs.Prelude.{ℕ, zero, suc, ◌+◌, Bool, false, cond, ◌||◌, List, [], ◌∷◌, take}
use Rattle.compare.specs.Same.{same}
use Rattle.kinds.specs.Table.{sections, name_of}

-- whether these are the four letters of one of n sections from section k on [N3]
unfoldable pub is_name_from : (n k : ℕ) → List ℕ → Bool
is_name_from zero k letters = false
is_name_from (suc n) k letters = same (name_of k) letters || is_name_from n (k + 1) letters

-- whether a line begins with the four letters of a section [N3, V3]
abbrev pub is_of_section : List ℕ → Bool
is_of_section l = is_name_from sections 0 (take 4 l)

-- of these lines those that pass a test, in their order [V3]
unfoldable pub those : (List ℕ → Bool) → List (List ℕ) → List (List ℕ)
those test [] = []
those test (l ∷ ls) = cond (test l) (l ∷ those test ls) (those test ls)
