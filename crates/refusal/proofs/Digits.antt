-- The digits that `io::decimal` writes are those of the definition. Assumes nothing.
use Prim.Native.Nat.{ℕ, zero, suc, ◌+◌, ◌-◌, ◌*◌, ◌/◌, ◌%◌, ◌^◌, ◌≤◌, ◌<◌}
use mathlib.Core.Path.{◌≡◌, ap, ap₂}
use mathlib.Core.List.{List, [], ◌∷◌, ◌++◌}
use native.Mathlib.Nat.{pow-suc, one-le-pow, pow-le-pow_right}
use native.Mathlib.Decide.{dec_le}
use native.Mathlib.Numerals.{unary_clauses}
use native.Mathlib.Omega.{arith}
use lib.Dec.{lit≤}
use borrow.Author.Tests.{lt-ltb, le-ltb}
use Rattle.io.specs.Digits.{hex_digit_ascii, last_digits, IsDigitCount}
use Rattle.refusal.specs.Line.{digits_within}

pub at_most_twenty : (n r : ℕ) → n < 10 ^ 20 → IsDigitCount 10 1 n r → r ≤ 20
at_most_twenty n r h f =
    elim (dec_le r 20) [
      | yes few ↦ few
      | no many ↦
          let some : 10 ^ (r - 1) ≤ n = f.2 (omega arith) in
          let over : 20 ≤ r - 1 = omega arith in
          let more : 10 ^ 20 ≤ 10 ^ (r - 1) = pow-le-pow_right (lit≤ tt) over in
          absurd (omega arith)
    ]

last : (n : ℕ) → 48 + n % 10 ≡ hex_digit_ascii (n % 10)
last n = simp (lt-ltb (n % 10) 10 (omega arith))

pub same_digits : (k r n : ℕ) → r ≤ k → IsDigitCount 10 1 n r → digits_within k n ≡ last_digits 10 r n
unfolding digits_within
same_digits k zero n h f = absurd (omega arith)
same_digits zero (suc r) n h f = absurd (omega arith)
same_digits (suc k) (suc zero) n h f =
    simp (lt-ltb n 10 (omega (arith, f.1))) (ap (λ (d : ℕ). d ∷ []) (last n))
same_digits (suc k) (suc (suc r)) n h f =
    let p = 10 ^ r in
    let e : 10 ^ suc r ≡ p * 10 = pow-suc 10 r in
    let some : 1 ≤ p = one-le-pow r 10 (omega arith) in
    let least : p * 10 ≤ n = simp unary_clauses at (f.2 (omega arith)) in
    let fewest : IsDigitCount 10 1 (n / 10) (suc r) = (omega arith, omega (arith, pow-suc 10 (suc r), f.1), λ q. simp unary_clauses (omega arith)) in
    simp (le-ltb n 10 (omega arith)) (ap₂ (λ (xs : List ℕ) (d : ℕ). xs ++ (d ∷ [])) (same_digits k (suc r) (n / 10) (omega arith) fewest) (last n))
