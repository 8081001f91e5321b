-- How long a number, a refusal in words and the whole line are. Assumes nothing.
use Prim.Native.Nat.{ℕ, zero, suc, ◌+◌, ◌/◌, ◌≤◌}
use mathlib.Core.Path.{◌≡◌}
use mathlib.Core.Bool.{Bool, true, false, cond}
use mathlib.Core.List.{List, [], ◌∷◌, ◌++◌, append_assoc}
use native.Mathlib.Omega.{arith}
use lib.Dec.{ltb}
use lib.ListN.{length, length-append}
use Rattle.refusal.specs.Words.{ascii, meaning_of}
use Rattle.refusal.specs.Line.{digits_within, decimal, refusal_text, line_on}

pub digits_length : (k n : ℕ) → length (digits_within k n) ≤ k
unfolding digits_within
digits_length zero n = omega arith
digits_length (suc k) n = simp length-append (by_test (ltb n 10) (digits_length k (n / 10)))
  where
    by_test : (b : Bool) → length (digits_within k (n / 10)) ≤ k → length (cond b [] (digits_within k (n / 10))) + 1 ≤ suc k
    by_test true h = omega arith
    by_test false h = omega arith

-- a text and a number
pub number_length : (before : List ℕ) (n : ℕ) → length (before ++ decimal n) ≤ length before + 20
unfolding decimal
number_length before n = simp length-append (omega (arith, digits_length 20 n))

-- the four pieces of a refusal in words
pub text_pieces : (number place : ℕ)
    → (((ascii "refused " ++ decimal number) ++ (ascii " at " ++ decimal place)) ++ ascii ": ") ++ meaning_of number ≡ refusal_text number place
unfolding refusal_text
text_pieces number place = simp append_assoc

-- the three pieces of a line, and its length
module _ (file words there : List ℕ) where
  pub line_pieces : ((file ++ ascii ": ") ++ (words ++ ascii "; ")) ++ (there ++ (10 ∷ [])) ≡ line_on file words there
  unfolding line_on
  line_pieces = simp append_assoc

  pub line_length : length (line_on file words there) ≡ length words + 5 + (length file + length there)
  unfolding line_on
  line_length = simp length-append (omega arith)

  -- what each of the three writers asks
  module _ (at room : ℕ) (h : at + length (line_on file words there) ≤ room) where
    pub first_fits : at + (length file + 2) ≤ room
    first_fits = omega (arith, line_length)

    pub second_fits : (a : ℕ) → a ≡ at + length (file ++ ascii ": ") → a + (length words + 2) ≤ room
    second_fits a e = omega (arith, line_length, length-append file (ascii ": "))

    pub third_fits : (a b : ℕ) → a ≡ at + length (file ++ ascii ": ") → b ≡ a + length (words ++ ascii "; ") → b + (length there + 1) ≤ room
    third_fits a b e f = omega (arith, line_length, length-append file (ascii ": "), length-append words (ascii "; "))
