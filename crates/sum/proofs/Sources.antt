-- The sources of four pairs side by side, a byte for each pair, as the model packs them. Assumes nothing.
use mathlib.Core.Path.{◌≡◌, refl, sym, ap, ◌∙◌}
use Prim.Native.Nat.{ℕ, suc, ◌+◌, ◌*◌, ◌/◌, ◌%◌, ◌^◌, ◌<◌}
use native.Mathlib.Omega.{arith}
use lib.Bits.{bit_and, and_mask, and_step}
use lib.Dec.{eqb, eqb→eq, lit<}
use Rattle.lines.specs.Line.{line}
use Rattle.lines.proofs.Computed.{every_below_law}
use Rattle.lines.proofs.Digit.{bit_lt, next_lines, line_mod, line_up}
use Rattle.lut.specs.Table.{answer_at, high, low}
use Rattle.sum.specs.Model.{first_pairs, last_pairs, inputs_of}

-- ---- the two products

abbrev lower_of : ℕ → ℕ
lower_of x = bit_and (bit_and x 29 * 1056833) 16843009 + 2 * bit_and x 2

abbrev pub lower_sources : ℕ → ℕ
lower_sources x = line x 0 + 4 * line x 1 + 256 * line x 2 + 65536 * line x 3 + 16777216 * line x 4

pub lower_sources_law : (x : ℕ) → x < 32 → lower_of x ≡ lower_sources x
lower_sources_law x h = eqb→eq _ _ (every_below_law 32 (λ x. eqb (lower_of x) (lower_sources x)) tt x h)

abbrev upper_of : ℕ → ℕ
upper_of x = bit_and (bit_and x 21 * 4260864) 67372032

abbrev pub upper_sources : ℕ → ℕ
upper_sources x = 1024 * line x 0 + 262144 * line x 2 + 67108864 * line x 4

pub upper_sources_law : (x : ℕ) → x < 32 → upper_of x ≡ upper_sources x
upper_sources_law x h = eqb→eq _ _ (every_below_law 32 (λ x. eqb (upper_of x) (upper_sources x)) tt x h)

-- ---- the addresses

-- where a pair's table is asked, and those of the first four pairs, a byte for each, 16 more in a high half
abbrev asked : (s a b : ℕ) → ℕ
asked s a b = 3 * line s a + 12 * line s b

abbrev pub addresses_of : ℕ → ℕ
addresses_of s = asked s 0 1 + 256 * (16 + asked s 2 10) + 65536 * asked s 3 12 + 16777216 * (16 + asked s 4 14)

asked_lt : (s a b : ℕ) → asked s a b < 16
asked_lt s a b = let p = bit_lt (s / 2 ^ a) in let q = bit_lt (s / 2 ^ b) in omega arith

-- each is read out of its byte
module _ (p x y z t : ℕ) (hx : x < 16) (hy : y < 16) (hz : z < 16) (ht : t < 16) (e : p ≡ x + 256 * (16 + y) + 65536 * z + 16777216 * (16 + t)) where
  first_byte : p % 32 ≡ x
  first_byte = omega arith

  second_byte : p / 256 % 32 ≡ y + 16
  second_byte = omega arith

  third_byte : p / 65536 % 32 ≡ z
  third_byte = omega arith

  fourth_byte : p / 16777216 % 32 ≡ t + 16
  fourth_byte = omega arith

  -- and the four answers there are those of the words' halves
  answers_at : (v w : ℕ)
      → line v (p % 32) + 2 * line v (p / 256 % 32) + 4 * line w (p / 65536 % 32) + 8 * line w (p / 16777216 % 32)
      ≡ answer_at (low v) x + 2 * answer_at (high v) y + 4 * answer_at (low w) z + 8 * answer_at (high w) t
  answers_at v w =
      rw (first_byte, second_byte, third_byte, fourth_byte)
      (rw (line_mod v 16 x hx, sym (line_up v y 16), line_mod w 16 z hz, sym (line_up w t 16)) refl)

pub inputs_at_law : (p s v w : ℕ) → p ≡ addresses_of s
    → line v (p % 32) + 2 * line v (p / 256 % 32) + 4 * line w (p / 65536 % 32) + 8 * line w (p / 16777216 % 32) ≡ inputs_of first_pairs v w s
unfolding inputs_of
inputs_at_law p s v w e = answers_at p (asked s 0 1) (asked s 2 10) (asked s 3 12) (asked s 4 14) (asked_lt s 0 1) (asked_lt s 2 10) (asked_lt s 3 12) (asked_lt s 4 14) e v w

-- ---- the last four pairs, as the first four

abbrev down_of : ℕ → ℕ
down_of s = s / 32 % 32 + s / 2048 * 1024

low_line : (s i : ℕ) → i < 5 → line (down_of s) i ≡ line s (i + 5)
low_line s i h =
    let e : down_of s % 32 ≡ s / 32 % 32 = omega arith in
    sym (line_mod (down_of s) 5 i h) ∙ ap (λ x. line x i) e ∙ line_mod (s / 32) 5 i h ∙ sym (line_up s i 5)

high_line : (s i : ℕ) → line (down_of s) (i + 10) ≡ line s (i + 11)
high_line s i =
    let e : down_of s / 1024 ≡ s / 2048 = omega arith in
    line_up (down_of s) i 10 ∙ ap (λ x. line x i) e ∙ sym (line_up s i 11)

pub last_as_first : (v w s : ℕ) → inputs_of first_pairs v w (down_of s) ≡ inputs_of last_pairs v w s
unfolding inputs_of
last_as_first v w s =
    rw (
      low_line s 0 (lit< tt),
      low_line s 1 (lit< tt),
      low_line s 2 (lit< tt),
      low_line s 3 (lit< tt),
      low_line s 4 (lit< tt),
      high_line s 0,
      high_line s 2,
      high_line s 4,
    ) refl

-- ---- both tables of a word

low_bit : (word i : ℕ) → i < 16 → bit_and (word / 2 ^ i) 1 ≡ answer_at (low word) i
low_bit word i h = and_mask (word / 2 ^ i) 1 ∙ sym (line_mod word 16 i h)

-- the second digit, in its place
second : (x : ℕ) → bit_and x 2 ≡ 2 * (x / 2 % 2)
second x = omega (arith, and_step x 2, and_mask (x / 2) 1)

high_bit : (word j : ℕ) → bit_and (word / 2 ^ (15 + j)) 2 ≡ 2 * answer_at (high word) j
high_bit word j =
    let up : suc (15 + j) ≡ j + 16 = omega arith in
    second (word / 2 ^ (15 + j))
    ∙ ap (λ (x : ℕ). 2 * (x % 2)) (next_lines word (15 + j) ∙ ap (λ (k : ℕ). word / 2 ^ k) up) ∙ ap (λ (x : ℕ). 2 * x) (line_up word j 16)

-- a word's digits below 16 are its low half's, those from 16 up its high half's
pub both_law : (word i j : ℕ) → i < 16
    → bit_and (word / 2 ^ i) 1 + bit_and (word / 2 ^ (15 + j)) 2 ≡ answer_at (low word) i + 2 * answer_at (high word) j
both_law word i j h = rw (low_bit word i h, high_bit word j)
