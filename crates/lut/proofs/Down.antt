-- Words sent from the highest position down: how many there are, which stands where, how large they are. Assumes nothing.
use mathlib.Core.Path.{◌≡◌, refl, ap, ap₂, ◌∙◌}
use mathlib.Core.List.{◌∷◌}
use Prim.Native.Nat.{ℕ, zero, suc, ◌-◌, ◌<◌}
use native.Mathlib.Nat.{le_of_suc-le-suc, not-suc-le-zero}
use native.Mathlib.Omega.{arith}
use lib.ListN.{length, get_or}
use Rattle.lut.specs.Table.{down}

pub length_down : (f : ℕ → ℕ) (n : ℕ) → length (down f n) ≡ n
unfolding down
length_down f zero = refl
length_down f (suc n) = ap suc (length_down f n)

-- the word at place k is that of the k-th position from the top
pub down_at : (f : ℕ → ℕ) (n k : ℕ) → k < n → get_or (down f n) k 0 ≡ f (n - suc k)
unfolding down
down_at f zero k h = absurd (not-suc-le-zero h)
down_at f (suc n) zero h = ap f (omega arith)
down_at f (suc n) (suc k) h = down_at f n k (le_of_suc-le-suc h) ∙ ap f (omega arith)

-- words that are all below a bound
pub down_lt : (f : ℕ → ℕ) (bound : ℕ) → 0 < bound → ((k : ℕ) → f k < bound) → (n i : ℕ) → get_or (down f n) i 0 < bound
unfolding down
down_lt f bound p h zero i = p
down_lt f bound p h (suc n) zero = h n
down_lt f bound p h (suc n) (suc i) = down_lt f bound p h n i

-- the same words at every position
pub down_cong : (f g : ℕ → ℕ) → ((k : ℕ) → f k ≡ g k) → (n : ℕ) → down f n ≡ down g n
unfolding down
down_cong f g e zero = refl
down_cong f g e (suc n) = ap₂ ◌∷◌ (e n) (down_cong f g e n)
