-- A test's answer as a number, and a lookup table made of such numbers bit by bit. Assumes nothing.
use mathlib.Core.Path.{◌≡◌, ◌∙◌, refl, sym, ap}
use mathlib.Core.Bool.{Bool, true, false}
use Prim.Native.Nat.{ℕ, zero, suc, ◌+◌, ◌*◌, ◌/◌, ◌%◌, ◌^◌, ◌<◌}
use native.Mathlib.Nat.{two-pow-succ, add_comm, add-zero, zero-mul, one-mul}
use native.Mathlib.Decide.{ℕ_discrete}
use native.Mathlib.Numerals.{add-one}
use native.Mathlib.Omega.{arith}
use lib.Dec.{eqb, lit<}
use lib.Pow.{pow_mono, high, low}
use Rattle.lines.specs.Line.{line}
use Rattle.lines.proofs.Digit.{line_mod, shifted_one}
use Rattle.lut.specs.Table.{answer_at, one_if, table_of}

-- a test's answer as a number, and back
pub one_is : (b : Bool) → eqb (one_if b) 1 ≡ b
one_is true = refl
one_is false = refl

pub one_lt : (b : Bool) → one_if b < 2
one_lt true = lit< tt
one_lt false = lit< tt

pub digit_on : (d : ℕ) → d < 2 → d ≡ one_if (eqb d 1)
digit_on zero h = refl
digit_on (suc zero) h = refl
digit_on (suc (suc d)) h = absurd (omega arith)

-- a table of n addresses has n bits
bit_fits : (b : Bool) (x p : ℕ) → x < p → x + one_if b * p < p + p
bit_fits true x p h = omega arith
bit_fits false x p h = omega arith

pub table_lt : (f : ℕ → Bool) (n : ℕ) → table_of f n < 2 ^ n
unfolding table_of
table_lt f zero = lit< tt
table_lt f (suc n) = rw two-pow-succ (bit_fits (f n) (table_of f n) (2 ^ n) (table_lt f n))

-- the highest address answers by the bit added last, those below as before
top : (b : Bool) (n t : ℕ) → t < 2 ^ n → answer_at (t + one_if b * 2 ^ n) n ≡ one_if b
top b n t h =
    ap (λ (q : ℕ). q / 2 ^ n % 2) (add_comm t (one_if b * 2 ^ n)) ∙ ap (λ (q : ℕ). q % 2) (high (one_if b) n h) ∙ bit b
  where
    bit : (b : Bool) → one_if b % 2 ≡ one_if b
    bit true = refl
    bit false = refl

below : (b : Bool) (n t i : ℕ) → t < 2 ^ n → i < n → answer_at (t + one_if b * 2 ^ n) i ≡ answer_at t i
below b n t i h l =
    sym (line_mod (t + one_if b * 2 ^ n) n i l)
    ∙ ap (λ (q : ℕ). line q i) (ap (λ (q : ℕ). q % 2 ^ n) (add_comm t (one_if b * 2 ^ n)) ∙ low (one_if b) n h)

-- the table that was made of a test answers by it
pub table_answer : (f : ℕ → Bool) (n i : ℕ) → i < n → answer_at (table_of f n) i ≡ one_if (f i)
unfolding table_of
table_answer f zero i h = absurd (omega arith)
table_answer f (suc n) i h =
    elim (ℕ_discrete i n) [
      | yes q ↦ rw q (top (f n) n (table_of f n) (table_lt f n))
      | no q ↦ below (f n) n (table_of f n) i (table_lt f n) (omega arith) ∙ table_answer f n i (omega arith)
    ]

module _ (f : ℕ → Bool) (n x : ℕ) (h : n < 31) (e : x ≡ table_of f n) where
  -- address n answers 1: its bit is added, and the sum fits
  pub bit_set : f n ≡ true → x + 1 * 2 ^ n % 2 ^ 32 ≡ table_of f (n + 1)
  unfolding table_of
  bit_set y = rw (add-one, shifted_one n 32 (omega arith), y, one-mul) (ap (λ (z : ℕ). z + 2 ^ n) e)

  pub bit_room : x + 1 * 2 ^ n % 2 ^ 32 < 2 ^ 32
  bit_room = rw (shifted_one n 32 (omega arith)) (omega (arith, table_lt f n, pow_mono {i = n} {j = 31} (omega arith)))

  -- address n answers 0: the table stays
  pub bit_clear : f n ≡ false → x ≡ table_of f (n + 1)
  unfolding table_of
  bit_clear y = rw (add-one, y, zero-mul, add-zero) e
