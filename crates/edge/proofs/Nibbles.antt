-- Where the sixteen tables are asked, a nibble for each. Assumes nothing.
use Prim.Native.Nat.{ℕ, ◌+◌, ◌-◌, ◌*◌, ◌/◌, ◌%◌, ◌^◌, ◌<◌}
use mathlib.Core.Path.{◌≡◌, sym, ap, ap₂, ◌∙◌}
use mathlib.Core.Bool.{Bool, ◌||◌}
use native.Mathlib.Omega.{arith}
use lib.Bits.{bit_and, and_mask}
use lib.Dec.{eqb}
use lib.Pow.{shr-shr}
use Rattle.lines.proofs.Nibble.{nibble, nibble_at, nibble_of, nibble_and, nibble_sum}
use Rattle.lut.specs.Table.{answer_at, high, low}
use Rattle.edge.specs.Model.{address, word_hit}
use Rattle.edge.proofs.Pair.{address_shifted}

-- the lower two lines of a nibble
lower_two : (n : ℕ) → n % 16 % 4 ≡ n % 4
lower_two n = omega arith

cut : (x k : ℕ) → k < 8 → nibble k (bit_and x 0x33333333) ≡ x / 2 ^ (4 * k) % 4
cut x k h =
    nibble_and k x 0x33333333 ∙ ap (bit_and (nibble k x)) (nibble_of 0x33333333 (λ _. 3) tt k h) ∙ and_mask (nibble k x) 2
    ∙ ap (λ (n : ℕ). n % 4) (sym (nibble_at k x)) ∙ lower_two (x / 2 ^ (4 * k))

fits : (a b : ℕ) → a % 4 * 4 + b % 4 < 16
fits a b = omega arith

pub at_once : (e l k : ℕ) → k < 8
    → (bit_and e 0x33333333 * 4 + bit_and l 0x33333333) / 2 ^ (4 * k) % 16 ≡ e / 2 ^ (4 * k) % 4 * 4 + l / 2 ^ (4 * k) % 4
at_once e l k h =
    nibble_at k (bit_and e 0x33333333 * 4 + bit_and l 0x33333333)
    ∙ nibble_sum k (bit_and e 0x33333333) 4 (bit_and l 0x33333333) (λ j hj.
    rw (cut e j (omega arith), cut l j (omega arith)) (fits (e / 2 ^ (4 * j)) (l / 2 ^ (4 * j))))
    ∙ ap₂ (λ (a b : ℕ). a * 4 + b) (cut e k h) (cut l k h)

lower_address : (e l k : ℕ) → e / 2 ^ (4 * k) % 4 * 4 + l / 2 ^ (4 * k) % 4 ≡ address (2 * k) e l
lower_address e l k =
    let four : 4 * k ≡ 2 * (2 * k) = omega arith in
    ap (λ (j : ℕ). e / 2 ^ j % 4 * 4 + l / 2 ^ j % 4) four ∙ address_shifted (2 * k) e l

upper_address : (e l k : ℕ) → e / 4 / 2 ^ (4 * k) % 4 * 4 + l / 4 / 2 ^ (4 * k) % 4 ≡ address (2 * k + 1) e l
upper_address e l k =
    let up : 2 + 4 * k ≡ 2 * (2 * k + 1) = omega arith in
    ap₂ (λ (a b : ℕ). a % 4 * 4 + b % 4) (shr-shr e 2 (4 * k) ∙ ap (λ (j : ℕ). e / 2 ^ j) up) (shr-shr l 2 (4 * k) ∙ ap (λ (j : ℕ). l / 2 ^ j) up)
    ∙ address_shifted (2 * k + 1) e l

-- a word's two tables, asked at these nibbles: word i has the lines from 28 - 4 i up
abbrev pub Nibbles : (addresses e l : ℕ) → Type 0
Nibbles r e l = (k : ℕ) → k < 8 → r / 2 ^ (4 * k) % 16 ≡ e / 2 ^ (4 * k) % 4 * 4 + l / 2 ^ (4 * k) % 4

pub word_asked : (w e l i upper lower : ℕ) (here : Bool) → i < 8 → Nibbles upper (e / 4) (l / 4) → Nibbles lower e l
    → here ≡ eqb (answer_at (high w) (upper / 2 ^ (28 - 4 * i) % 16)) 1 || eqb (answer_at (low w) (lower / 2 ^ (28 - 4 * i) % 16)) 1
    → here ≡ word_hit (7 - i) w e l
word_asked w e l i upper lower here h up lo at =
    let shift : 28 - 4 * i ≡ 4 * (7 - i) = omega arith in
    at
    ∙ ap₂ (λ (a b : ℕ). eqb (answer_at (high w) a) 1 || eqb (answer_at (low w) b) 1)
    (ap (λ (j : ℕ). upper / 2 ^ j % 16) shift ∙ up (7 - i) (omega arith) ∙ upper_address e l (7 - i))
    (ap (λ (j : ℕ). lower / 2 ^ j % 16) shift ∙ lo (7 - i) (omega arith) ∙ lower_address e l (7 - i))
