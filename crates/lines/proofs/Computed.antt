-- A rule with finitely many cases, proved at each of them by one test that antt computes: over the numbers below some bounds,
-- as binary digits (bounds of 2), nibbles (bounds of 16) or codes and addresses. Assumes nothing.
use Prim.Native.Nat.{ℕ, zero, suc, ◌<◌}
use mathlib.Core.Bool.{Bool, true, ◌&&◌}
use mathlib.Core.List.{List, [], ◌∷◌}
use mathlib.Core.Logic.{⊎_elim}
use native.Mathlib.Nat.{not-suc-le-zero, le_of_suc-le-suc, eq-or-lt_of_le}
use lib.Dec.{T}
use lib.ListN.{replicate}
use Rattle.lines.proofs.Truth.{and_left, and_right}

-- the test p passes at each number below n
abbrev pub every_below : ℕ → (ℕ → Bool) → Bool
every_below zero p = true
every_below (suc n) p = p n && every_below n p

pub every_below_law : (n : ℕ) (p : ℕ → Bool) → T (every_below n p) → (i : ℕ) → i < n → T (p i)
every_below_law zero p t i h = absurd (not-suc-le-zero h)
every_below_law (suc n) p t i h =
    ⊎_elim (λ e. rw e (and_left (p n) (every_below n p) t)) (every_below_law n p (and_right (p n) (every_below n p) t) i)
    (eq-or-lt_of_le (le_of_suc-le-suc h))

-- the test p passes at each list of numbers below the bounds
abbrev pub every_within : List ℕ → (List ℕ → Bool) → Bool
every_within [] p = p []
every_within (n ∷ ns) p = every_below n (λ d. every_within ns (λ ds. p (d ∷ ds)))

-- the numbers ds are below the bounds, one for one
abbrev pub Within : List ℕ → List ℕ → Type 0
Within [] [] = Unit
Within [] (d ∷ ds) = ⊥
Within (n ∷ ns) [] = ⊥
Within (n ∷ ns) (d ∷ ds) = (d < n) × Within ns ds

pub every_within_law : (ns : List ℕ) (p : List ℕ → Bool) → T (every_within ns p) → (ds : List ℕ) → Within ns ds → T (p ds)
every_within_law [] p t [] h = t
every_within_law [] p t (d ∷ ds) h = absurd h
every_within_law (n ∷ ns) p t [] h = absurd h
every_within_law (n ∷ ns) p t (d ∷ ds) h =
    every_within_law ns (λ ds. p (d ∷ ds)) (every_below_law n (λ d. every_within ns (λ ds. p (d ∷ ds))) t d h.0) ds h.1

-- k binary digits, and k nibbles
abbrev pub digits : ℕ → List ℕ
digits k = replicate k 2

abbrev pub nibbles : ℕ → List ℕ
nibbles k = replicate k 16
