-- The carry of a chain by one compare: the lines whose tables answer 0, those that are 1 apart from those that are 0.
-- Assumes nothing.
use Rattle.std.proofs.Common.{◌≡◌, ℕ, zero, suc, ◌+◌, ◌*◌, ◌%◌, ◌^◌, ◌<◌, Bool, true, false, eqb, ltb, List, sym, refl, ap, ◌∙◌, ap₂, mod-lt, mod-eq_of_lt, arith, eqb→eq, pow_pos, le-ltb, lt-ltb, bit_and, bit_or, bit_xor}
use native.Mathlib.Nat.{mod-one}
use lib.Pow as pow
use Rattle.std.specs.Int.{from_bool}
use Rattle.lines.specs.Line.{line, choose}
use Rattle.lines.proofs.Computed.{every_below_law}
use Rattle.lines.proofs.Digit.{bit_lt, line_and, line_or, line_xor}
use Rattle.lut.specs.Table.{answer_at, one_if}
use Rattle.range.specs.Model.{table_at, carry_after, carry_from, chain_carry}

-- a test as a number
pub from_one_if : (b : Bool) → from_bool b ≡ one_if b
from_one_if true = refl
from_one_if false = refl

-- what the lines below i have told of the carry
abbrev pub Says : (x y i carry : ℕ) → Type 0
Says x y i carry = carry ≡ one_if (ltb (y % 2 ^ i) (x % 2 ^ i))

-- a line's part of the number up to it
up_to : (x i d : ℕ) → line x i ≡ d → x % 2 ^ suc i ≡ d * 2 ^ i + x % 2 ^ i
up_to x i d e =
    let one : suc i ≡ 1 + i = omega arith in
    ap (λ (j : ℕ). x % 2 ^ j) one ∙ pow.mod-pow-add x 1 i ∙ ap (λ (b : ℕ). b * 2 ^ i + x % 2 ^ i) e

below : (x i : ℕ) → x % 2 ^ i < 2 ^ i
below x i = mod-lt x (pow_pos i)

module _ (x y i : ℕ) where
  highest_one : line x i ≡ 1 → line y i ≡ 0 → ltb (y % 2 ^ suc i) (x % 2 ^ suc i) ≡ true
  highest_one ex ey = lt-ltb (y % 2 ^ suc i) (x % 2 ^ suc i) (omega (arith, up_to x i 1 ex, up_to y i 0 ey, below y i))

  highest_zero : line x i ≡ 0 → line y i ≡ 1 → ltb (y % 2 ^ suc i) (x % 2 ^ suc i) ≡ false
  highest_zero ex ey = le-ltb (y % 2 ^ suc i) (x % 2 ^ suc i) (omega (arith, up_to x i 0 ex, up_to y i 1 ey, below x i))

  passed_on : line x i ≡ 0 → line y i ≡ 0 → ltb (y % 2 ^ i) (x % 2 ^ i) ≡ ltb (y % 2 ^ suc i) (x % 2 ^ suc i)
  passed_on ex ey =
      let same-y : y % 2 ^ i ≡ y % 2 ^ suc i = omega (arith, up_to y i 0 ey) in
      let same-x : x % 2 ^ i ≡ x % 2 ^ suc i = omega (arith, up_to x i 0 ex) in
      ap₂ ltb same-y same-x

  -- a line of value v, whose table answers z at 0 and n at 1
  next_says : (carry v n z : ℕ) → v < 2 → n < 2 → z < 2 → line x i ≡ bit_xor v (bit_and v n) → line y i ≡ bit_xor 1 (bit_or v z)
      → Says x y i carry → Says x y (suc i) (choose (choose v z n) v carry)
  next_says carry zero zero zero hv hn hz ex ey says = sym (ap one_if (highest_zero ex ey))
  next_says carry zero zero (suc zero) hv hn hz ex ey says = says ∙ ap one_if (passed_on ex ey)
  next_says carry zero (suc zero) zero hv hn hz ex ey says = sym (ap one_if (highest_zero ex ey))
  next_says carry zero (suc zero) (suc zero) hv hn hz ex ey says = says ∙ ap one_if (passed_on ex ey)
  next_says carry (suc zero) zero zero hv hn hz ex ey says = sym (ap one_if (highest_one ex ey))
  next_says carry (suc zero) zero (suc zero) hv hn hz ex ey says = sym (ap one_if (highest_one ex ey))
  next_says carry (suc zero) (suc zero) zero hv hn hz ex ey says = says ∙ ap one_if (passed_on ex ey)
  next_says carry (suc zero) (suc zero) (suc zero) hv hn hz ex ey says = says ∙ ap one_if (passed_on ex ey)
  next_says carry (suc (suc v)) n z hv hn hz ex ey says = absurd (omega arith)
  next_says carry zero (suc (suc n)) z hv hn hz ex ey says = absurd (omega arith)
  next_says carry (suc zero) (suc (suc n)) z hv hn hz ex ey says = absurd (omega arith)
  next_says carry zero zero (suc (suc z)) hv hn hz ex ey says = absurd (omega arith)
  next_says carry zero (suc zero) (suc (suc z)) hv hn hz ex ey says = absurd (omega arith)
  next_says carry (suc zero) zero (suc (suc z)) hv hn hz ex ey says = absurd (omega arith)
  next_says carry (suc zero) (suc zero) (suc (suc z)) hv hn hz ex ey says = absurd (omega arith)

asked : (t v : ℕ) → v < 2 → choose v (answer_at t 0) (answer_at t 1) ≡ answer_at t v
asked t zero h = refl
asked t (suc zero) h = refl
asked t (suc (suc v)) h = absurd (omega arith)

all_lines : (i : ℕ) → i < 32 → line 0xFFFFFFFF i ≡ 1
all_lines i h = eqb→eq (line 0xFFFFFFFF i) 1 (every_below_law 32 (λ j. eqb (line 0xFFFFFFFF j) 1) tt i h)

-- the lines that are 1 and whose table answers 0, and those that are 0 and whose table does: the greater number has the highest
module _ (chain : List ℕ) (sample at_zero at_one : ℕ)
    (zero_at : (i : ℕ) → i < 32 → line at_zero i ≡ answer_at (table_at chain i) 0)
    (one_at : (i : ℕ) → i < 32 → line at_one i ≡ answer_at (table_at chain i) 1) where
  abbrev ones : ℕ
  ones = bit_xor sample (bit_and sample at_one)

  abbrev zeros : ℕ
  zeros = bit_xor 0xFFFFFFFF (bit_or sample at_zero)

  step : (i carry : ℕ) → i < 32 → Says ones zeros i carry → Says ones zeros (suc i) (carry_after chain sample i carry)
  step i carry h says =
      let t = table_at chain i in
      let ex = line_xor sample (bit_and sample at_one) i ∙ ap (bit_xor (line sample i)) (line_and sample at_one i ∙ ap (bit_and (line sample i)) (one_at i h)) in
      let ey = line_xor 0xFFFFFFFF (bit_or sample at_zero) i
      ∙ ap₂ bit_xor (all_lines i h) (line_or sample at_zero i ∙ ap (bit_or (line sample i)) (zero_at i h)) in
      let next = next_says ones zeros i carry (line sample i) (answer_at t 1) (answer_at t 0) (bit_lt _) (bit_lt _) (bit_lt _) ex ey says in
      ap (λ (a : ℕ). choose a (line sample i) carry) (sym (asked t (line sample i) (bit_lt _))) ∙ next

  all : (n i carry : ℕ) → i + n ≡ 32 → Says ones zeros i carry
      → carry_from chain sample n i carry ≡ one_if (ltb (zeros % 2 ^ 32) (ones % 2 ^ 32))
  unfolding carry_from
  all zero i carry e says =
      let at : i ≡ 32 = omega arith in
      says ∙ ap (λ (j : ℕ). one_if (ltb (zeros % 2 ^ j) (ones % 2 ^ j))) at
  all (suc n) i carry e says = all n (suc i) (carry_after chain sample i carry) (omega arith) (step i carry (omega arith) says)

  none : Says ones zeros 0 0
  none = ap₂ (λ (a b : ℕ). one_if (ltb a b)) (sym (mod-one zeros)) (sym (mod-one ones))

  pub compared : (r : ℕ) → ones < 2 ^ 32 → zeros < 2 ^ 32 → r ≡ one_if (ltb zeros ones) → r ≡ chain_carry chain sample
  unfolding chain_carry
  compared r hx hy e =
      e ∙ ap₂ (λ (a b : ℕ). one_if (ltb a b)) (sym (mod-eq_of_lt hy)) (sym (mod-eq_of_lt hx)) ∙ sym (all 32 0 0 refl none)
