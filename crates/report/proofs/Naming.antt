-- The names of the sources that hit, one after the other. Assumes nothing.
use Prim.Native.Nat.{ℕ, zero, suc, ◌+◌, ◌/◌, ◌%◌, ◌≤◌, ◌<◌}
use Prim.Native.String.{String}
use mathlib.Core.Bool.{Bool, true, false, cond}
use mathlib.Core.Path.{◌≡◌, refl, ◌∙◌}
use mathlib.Core.List.{List, [], ◌∷◌, ◌++◌, map}
use native.Mathlib.Omega.{arith}
use native.Mathlib.Numerals.{add-one}
use lib.Dec.{eqb}
use lib.ListN.{length, get_or, drop, length-append, drop_of_length-le}
use Rattle.refusal.specs.Words.{ascii}
use Rattle.report.specs.Words.{sources, names_in}

-- the names as bytes, as the code has them
abbrev pub names : List (List ℕ)
names = map ascii sources

name_at : (ss : List String) (i : ℕ) → get_or (map ascii ss) i [] ≡ ascii (get_or ss i "")
name_at [] i = refl
name_at (s ∷ ss) zero = refl
name_at (s ∷ ss) (suc i) = name_at ss i

-- those from one on
on : (names : List String) (i bits : ℕ) → i < length names
    → names_in (drop i names) bits ≡ cond (eqb (bits % 2) 0) [] (ascii (get_or names i "")) ++ names_in (drop (i + 1) names) (bits / 2)
unfolding names_in
on [] i bits h = absurd (omega arith)
on (n ∷ ns) zero bits h = refl
on (n ∷ ns) (suc i) bits h = rw (add-one (suc i)) (rw (add-one i) at (on ns i bits (omega arith)))

module _ (i bits : ℕ) (h : i < 16) where
  -- one that hits, and one that does not
  pub hit_on : bits % 2 ≡ 1 → names_in (drop i sources) bits ≡ get_or names i [] ++ names_in (drop (i + 1) sources) (bits / 2)
  hit_on e = on sources i bits h ∙ rw (e, name_at sources i)

  pub miss_on : (bits % 2 ≡ 1 → ⊥) → names_in (drop i sources) bits ≡ names_in (drop (i + 1) sources) (bits / 2)
  miss_on n = let even : bits % 2 ≡ 0 = omega arith in on sources i bits h ∙ rw even

pub names_end : (i bits : ℕ) → 16 ≤ i → names_in (drop i sources) bits ≡ []
unfolding names_in
names_end i bits h = rw (drop_of_length-le sources {i = i} h)

total : List String → ℕ
total [] = 0
total (n ∷ ns) = length (ascii n) + total ns

most : (names : List String) (bits : ℕ) → length (names_in names bits) ≤ total names
unfolding names_in total
most [] bits = omega arith
most (n ∷ ns) bits = rw (length-append (cond (eqb (bits % 2) 0) [] (ascii n)) (names_in ns (bits / 2))) (omega (arith, most ns (bits / 2), go (eqb (bits % 2) 0)))
  where
    go : (b : Bool) → length (cond b [] (ascii n)) ≤ length (ascii n)
    go true = omega arith
    go false = omega arith

pub names_most : (bits : ℕ) → length (names_in sources bits) ≤ 128
unfolding total
names_most bits = most sources bits

-- of a pattern with no source that none hits
pub hits_most : (bits : ℕ) → length (cond (eqb bits 0) (ascii " none") (names_in sources bits)) ≤ 128
hits_most bits = go (eqb bits 0)
  where
    go : (b : Bool) → length (cond b (ascii " none") (names_in sources bits)) ≤ 128
    go true = omega arith
    go false = names_most bits
