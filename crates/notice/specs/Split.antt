-- A text cut into its lines.
use Rattle.std.specs.Prelude.{ℕ, cond, List, [], ◌∷◌, ◌++◌, eqb}

-- bytes cut behind each line feed, where `begun` is what has come of the first line; a rest with none is a line too [N1]
unfoldable pub split_from : (begun bs : List ℕ) → List (List ℕ)
split_from [] [] = []
split_from (x ∷ begun) [] = (x ∷ begun) ∷ []
split_from begun (b ∷ bs) = cond (eqb b 10) ((begun ++ (b ∷ [])) ∷ split_from [] bs) (split_from (begun ++ (b ∷ [])) bs)

-- the lines of a text, each with its line feed [N1]
abbrev pub lines_in : List ℕ → List (List ℕ)
lines_in = split_from []
