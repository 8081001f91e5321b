-- Lists of numbers that rise strictly, as addresses of a stream and lines of a notice do. Assumes nothing.
use Prim.Native.Nat.{ℕ, zero, suc, ◌+◌, ◌≤◌, ◌<◌}
use mathlib.Core.List.{List, [], ◌∷◌, ◌++◌, map, map-append}
use native.Mathlib.Omega.{arith}
use lib.ListN.{length, get_or}

-- from f on and below g
pub data Climbs : ℕ → ℕ → List ℕ → Type 0 where
  done : {f g : ℕ} → f ≤ g → Climbs f g []
  next : {f g x : ℕ} {xs : List ℕ} → f ≤ x → Climbs (x + 1) g xs → Climbs f g (x ∷ xs)

pub climbs_from : {f g : ℕ} {xs : List ℕ} (e : ℕ) → e ≤ f → Climbs f g xs → Climbs e g xs
climbs_from {g = g} e h (Climbs.done l) = let m : e ≤ g = omega arith in Climbs.done m
climbs_from e h (Climbs.next {x = x} l c) = let m : e ≤ x = omega arith in Climbs.next m c

pub climbs_below : {f g : ℕ} {xs : List ℕ} (h : ℕ) → g ≤ h → Climbs f g xs → Climbs f h xs
climbs_below {f} h m (Climbs.done l) = let n : f ≤ h = omega arith in Climbs.done n
climbs_below h m (Climbs.next l c) = Climbs.next l (climbs_below h m c)

pub climbs_append : {f g h : ℕ} {xs ys : List ℕ} → Climbs f g xs → Climbs g h ys → Climbs f h (xs ++ ys)
climbs_append {f} (Climbs.done l) d = climbs_from f l d
climbs_append (Climbs.next l c) d = Climbs.next l (climbs_append c d)

-- a later number is above an earlier one; past the end stands any z
climbs_at : {f g : ℕ} {xs : List ℕ} → Climbs f g xs → (i z : ℕ) → i < length xs → f ≤ get_or xs i z
climbs_at (Climbs.done l) i z h = absurd (omega arith)
climbs_at (Climbs.next l c) zero z h = l
climbs_at (Climbs.next l c) (suc i) z h = omega (arith, climbs_at c i z (omega arith))

pub climbs_rise : {f g : ℕ} {xs : List ℕ} → Climbs f g xs → (i j z : ℕ) → i < j → j < length xs → get_or xs i z < get_or xs j z
climbs_rise (Climbs.done l) i j z h m = absurd (omega arith)
climbs_rise (Climbs.next l c) i zero z h m = absurd (omega arith)
climbs_rise (Climbs.next l c) zero (suc j) z h m = omega (arith, climbs_at c j z (omega arith))
climbs_rise (Climbs.next l c) (suc i) (suc j) z h m = climbs_rise c i j z (omega arith) (omega arith)

-- ---- things with a number each

pub map_climbs : {A : Type 0} (of : A → ℕ) {f g h : ℕ} (xs ys : List A) → Climbs f g (map of xs) → Climbs g h (map of ys) → Climbs f h (map of (xs ++ ys))
map_climbs of xs ys c d = rw (map-append of xs ys) (climbs_append c d)
