-- The loops, one word or one line at a time: what is left decides. Assumes nothing.
use Rattle.std.proofs.Common.{◌≡◌, sym, ap, ◌∙◌, Bool, true, false, ◌&&◌, List, ℕ, suc, ◌+◌, ◌-◌, ◌*◌, ◌/◌, ◌%◌, ◌^◌, ◌<◌, ◌≤◌, lt_of_lt_of_le, lt_of_not-le, add-one, arith, bit_xor, eqb, length, get_or, drop, length-drop, drop_of_length-le, pow-add, pow_mono, drop-cons}
use lib.Arith.{digits_lt}
use lib.Bits.{xor_lt}
use lib.Pow.{pow-lt}
use Rattle.lines.proofs.Digit.{shifted_one}
use Rattle.lut.specs.Table.{answer_at}
use Rattle.term.specs.Model.{word_hit, chain_hit}
use Rattle.term.specs.Back.{line_masked, word_part, lines_after}

-- ---- the model: the word at i of four has the lines from 24 - 8 i up

chain_step : (ws : List ℕ) (s i : ℕ) → length ws ≡ 4 → i < 4
    → chain_hit (drop i ws) s ≡ word_hit (get_or ws i 0) (s / 2 ^ (24 - 8 * i)) && chain_hit (drop (i + 1) ws) s
unfolding chain_hit
chain_step ws s i e h =
    let after : 8 * length (drop (suc i) ws) ≡ 24 - 8 * i = rw length-drop (omega arith) in
    rw add-one
    (ap (λ (l : List ℕ). chain_hit l s) (drop-cons ws i 0 (omega arith))
    ∙ ap (λ (n : ℕ). word_hit (get_or ws i 0) (s / 2 ^ n) && chain_hit (drop (suc i) ws) s) after)

-- what the words before i say, and what is left says
abbrev pub Asked : (ws : List ℕ) (s i : ℕ) (hit : Bool) → Type 0
Asked ws s i hit = chain_hit ws s ≡ hit && chain_hit (drop i ws) s

pub ask_next : (ws : List ℕ) (s i : ℕ) (hit here : Bool) → length ws ≡ 4 → i < 4 → Asked ws s i hit
    → here ≡ word_hit (get_or ws i 0) (s / 2 ^ (24 - 8 * i)) → Asked ws s (i + 1) (hit && here)
ask_next ws s i true here e h asked at = asked ∙ chain_step ws s i e h ∙ ap (λ (b : Bool). b && chain_hit (drop (i + 1) ws) s) (sym at)
ask_next ws s i false here e h asked at = asked

-- past the last word nothing is left to ask
pub ask_end : (ws : List ℕ) (s i : ℕ) (hit : Bool) → length ws ≡ 4 → 4 ≤ i → Asked ws s i hit → chain_hit ws s ≡ hit
unfolding chain_hit
ask_end ws s i true e h asked = asked ∙ ap (λ (l : List ℕ). chain_hit l s) (drop_of_length-le ws {i = i} (omega arith))
ask_end ws s i false e h asked = asked

-- ---- reading: what i words have has 8 i lines, and of four words there is room for one more

pub lines_room : (lines i : ℕ) → lines < 2 ^ (8 * i) → i < 4 → lines < 2 ^ 24
lines_room lines i small h = lt_of_lt_of_le small (pow_mono {i = 8 * i} {j = 24} (omega arith))

pub lines_grow : (lines i x : ℕ) → lines < 2 ^ (8 * i) → x < 2 ^ 8 → lines * 256 + x < 2 ^ (8 * (i + 1))
lines_grow lines i x small h =
    let e : 8 * (i + 1) ≡ 8 * i + 8 = omega arith in
    rw (e, pow-add 2 (8 * i) 8) (digits_lt small h)

-- `lines` has what the first i words have of a part
abbrev pub Decoding : (part : ℕ → ℕ) (ws : List ℕ) (lines i : ℕ) → Type 0
Decoding part ws lines i = lines_after part 0 ws ≡ lines_after part lines (drop i ws)

module _ (part : ℕ → ℕ) (ws : List ℕ) (lines i : ℕ) (d : Decoding part ws lines i) where
  pub decode_more : i < length ws → (x : ℕ) → x ≡ word_part part (get_or ws i 0) → Decoding part ws (lines * 256 + x) (i + 1)
  unfolding lines_after
  decode_more h x ex = d ∙ rw (add-one, ex) (ap (lines_after part lines) (drop-cons ws i 0 h))

  pub decode_end : length ws ≤ i → lines_after part 0 ws ≡ lines
  unfolding lines_after
  decode_end h = d ∙ ap (lines_after part lines) (drop_of_length-le ws {i = i} h)

-- ---- a table asked at an address with one line changed, as the machine computes it

pub flipped_lt : (a j : ℕ) → a < 16 → j < 4 → bit_xor a (1 * 2 ^ j % 2 ^ 32) < 16
flipped_lt a j ha hj = rw (shifted_one j 32 (omega arith)) (xor_lt 4 a (2 ^ j) ha (pow-lt hj))

pub flipped : (table a j : ℕ) (b : Bool) → j < 4 → eqb (answer_at table (bit_xor a (1 * 2 ^ j % 2 ^ 32))) 0 ≡ b → line_masked table a j ≡ b
flipped table a j b h e = rw (shifted_one j 32 (omega arith)) at e

pub exponent_lt : (n : ℕ) → 2 ^ n < 2 ^ 32 → n < 32
exponent_lt n h = lt_of_not-le (λ l. omega (arith, pow_mono {i = 32} {j = n} l))
