-- What `decimal` writes: digits alone, which read back give the number, and no zero in front. And how long a line can be.
-- Assumes nothing.
use Prim.Native.Nat.{ℕ, zero, suc, ◌+◌, ◌-◌, ◌*◌, ◌/◌, ◌%◌, ◌^◌, ◌≤◌, ◌<◌}
use mathlib.Core.Bool.{true}
use mathlib.Core.Path.{◌≡◌, refl}
use mathlib.Core.List.{List, [], ◌∷◌, ◌++◌}
use native.Mathlib.Decide.{dec_lt}
use native.Mathlib.Nat.{pow-suc}
use native.Mathlib.Omega.{arith}
use borrow.Author.Tests.{lt-ltb, le-ltb, le-leb}
use lib.ListN.{length, get_or, length-append}
use Rattle.compare.specs.Within.{all_within}
use Rattle.compare.proofs.Within.{within_append}
use Rattle.decimal.specs.Decimal.{decimal_from}
use Rattle.refusal.specs.Line.{digits_within, decimal, refusal_text, refusal_line}
use Rattle.refusal.proofs.Lengths.{digits_length, line_length}
use Rattle.refusal.proofs.Meanings.{short}

read_last : (m : ℕ) (xs : List ℕ) (d : ℕ) → decimal_from m (xs ++ (d ∷ [])) ≡ 10 * decimal_from m xs + (d - 48)
unfolding decimal_from
read_last m [] d = refl
read_last m (x ∷ xs) d = read_last (10 * m + (x - 48)) xs d

-- a number of one digit, and of more
one : (k n : ℕ) → n < 10 → digits_within (suc k) n ≡ (48 + n % 10) ∷ []
unfolding digits_within
one k n h = simp (lt-ltb n 10 h)

more : (k n : ℕ) → 10 ≤ n → digits_within (suc k) n ≡ digits_within k (n / 10) ++ ((48 + n % 10) ∷ [])
unfolding digits_within
more k n h = simp (le-ltb n 10 h)

read_back_law : (k n : ℕ) → n < 10 ^ k → decimal_from 0 (digits_within k n) ≡ n
unfolding decimal_from digits_within
read_back_law zero n h = omega arith
read_back_law (suc k) n h =
    elim (dec_lt n 10) [
      | yes few ↦ rw (one k n few) (omega arith)
      | no many ↦
          let rest : decimal_from 0 (digits_within k (n / 10)) ≡ n / 10 = read_back_law k (n / 10) (omega (arith, pow-suc 10 k)) in
          rw (more k n (omega arith), read_last 0 (digits_within k (n / 10)) (48 + n % 10)) (omega arith)
    ]

digit : (n : ℕ) → all_within 48 57 ((48 + n % 10) ∷ []) ≡ true
unfolding all_within
digit n = simp (le-leb 48 (48 + n % 10) (omega arith), le-leb (48 + n % 10) 57 (omega arith))

all_digits : (k n : ℕ) → all_within 48 57 (digits_within k n) ≡ true
unfolding all_within digits_within
all_digits zero n = refl
all_digits (suc k) n =
    elim (dec_lt n 10) [
      | yes few ↦ rw (one k n few) (digit n)
      | no many ↦
          rw (more k n (omega arith), within_append 48 57 (digits_within k (n / 10)) ((48 + n % 10) ∷ []), all_digits k (n / 10)) (digit n)
    ]

front : (xs : List ℕ) (d : ℕ) → 48 < get_or xs 0 0 → 48 < get_or (xs ++ (d ∷ [])) 0 0
front [] d h = absurd (omega arith)
front (x ∷ xs) d h = h

no_zero : (k n : ℕ) → 0 < n → n < 10 ^ k → 48 < get_or (digits_within k n) 0 0
no_zero zero n some h = absurd (omega arith)
no_zero (suc k) n some h =
    elim (dec_lt n 10) [
      | yes few ↦ rw (one k n few) (omega arith)
      | no many ↦ rw (more k n (omega arith)) (front (digits_within k (n / 10)) (48 + n % 10) (no_zero k (n / 10) (omega arith) (omega (arith, pow-suc 10 k))))
    ]

-- a number of 64 bits in decimal: digits alone, which read back give the number, and no 0 in front
module _ (n : ℕ) (h : n < 2 ^ 64) where
  pub decimal_reads_back : decimal_from 0 (decimal n) ≡ n
  unfolding decimal
  decimal_reads_back = read_back_law 20 n (omega arith)

  pub decimal_is_digits : all_within 48 57 (decimal n) ≡ true
  unfolding decimal
  decimal_is_digits = all_digits 20 n

  pub decimal_starts : 0 < n → 48 < get_or (decimal n) 0 0
  unfolding decimal
  decimal_starts some = no_zero 20 n some (omega arith)

-- a name of 4,096 bytes and a detail of 512: room of 4,736 bytes is enough for the line of every refusal
pub room_for_every_line : (file : List ℕ) (number place : ℕ) (there : List ℕ) → length file ≤ 4096 → length there ≤ 512
    → length (refusal_line file number place there) ≤ 4736
unfolding refusal_text decimal
room_for_every_line file number place there f t =
    let words : length (refusal_text number place) ≤ 102 = simp length-append (omega (arith, digits_length 20 number, digits_length 20 place, short number)) in
    omega (arith, line_length file (refusal_text number place) there)
