-- What each number means, by computed tests over the rows of the table. Assumes nothing.
use Prim.Native.Nat.{ℕ, ◌+◌, ◌-◌, ◌*◌, ◌≤◌, ◌<◌}
use Prim.Native.String.{String}
use mathlib.Core.Bool.{Bool}
use mathlib.Core.Path.{◌≡◌}
use mathlib.Core.List.{List, [], ◌∷◌, ◌++◌}
use native.Mathlib.Decide.{dec_lt}
use native.Mathlib.Omega.{arith}
use lib.Ieee.Bits.{is_true}
use lib.Dec.{eqb, leb, lit≤, eqb→eq, leb→le}
use lib.ListN.{length, get_or, take, drop, replicate, get_or-eq_default}
use Rattle.lines.proofs.Computed.{every_below_law}
use Rattle.compare.specs.Same.{same}
use Rattle.compare.proofs.Compare.{same_true}
use Rattle.refusal.specs.Words.{ascii, meanings, no_refusal, meaning_of}

-- a number that no refusal has
pub past : (n : ℕ) → 25 ≤ n → meaning_of 0 ≡ meaning_of n
unfolding meaning_of
past n h = rw (get_or-eq_default meanings no_refusal {n = n} h)

pub short : (n : ℕ) → length (meaning_of n) ≤ 48
unfolding meaning_of
short n =
    elim (dec_lt n 25) [
      | yes few ↦ leb→le _ _ (every_below_law 25 (λ k. leb (length (meaning_of k)) 48) tt n few)
      | no many ↦ rw (← past n (omega arith)) (lit≤ tt)
    ]

-- the table of lengths
abbrev pub lengths : List String → List ℕ
lengths [] = []
lengths (m ∷ ms) = length (ascii m) ∷ lengths ms

pub length_at : (n : ℕ) → n < 25 → get_or (lengths meanings) n 0 ≡ length (meaning_of n)
unfolding meaning_of
length_at n h = eqb→eq _ _ (every_below_law 25 (λ k. eqb (get_or (lengths meanings) k 0) (length (meaning_of k))) tt n h)

-- the table of texts, with spaces behind each up to the width
abbrev pub rows : List String → List ℕ
rows [] = []
rows (m ∷ ms) = ascii m ++ replicate (48 - length (ascii m)) 32 ++ rows ms

row_passes : ℕ → Bool
row_passes k = same (take (length (meaning_of k)) (drop (48 * k) (rows meanings))) (meaning_of k)

pub row_at : (n : ℕ) → n < 25 → take (length (meaning_of n)) (drop (48 * n) (rows meanings)) ≡ meaning_of n
unfolding meaning_of same row_passes
row_at n h = same_true _ _ (is_true _ (every_below_law 25 row_passes tt n h))

-- so many bytes from the start of a row on
pub row_part : (all : List ℕ) → ((k : ℕ) → k < 25 → take (length (meaning_of k)) (drop (48 * k) all) ≡ meaning_of k)
    → (n m : ℕ) → n < 25 → m ≡ length (meaning_of n) → take (48 * n + m - 48 * n) (drop (48 * n) all) ≡ meaning_of n
row_part all begins n m h e =
    let l : 48 * n + m - 48 * n ≡ length (meaning_of n) = omega arith in
    rw l (begins n h)
