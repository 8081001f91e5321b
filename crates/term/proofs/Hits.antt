-- The model over the words of a pattern hits exactly where the plain rule does. Assumes nothing.
use Rattle.std.proofs.Common.{◌≡◌, refl, sym, ap, ap₂, ◌∙◌, true, ◌&&◌, ℕ, zero, suc, ◌+◌, ◌*◌, ◌/◌, ◌%◌, ◌^◌, ◌<◌, arith, eqb, lit<, length, get_or}
use mathlib.Core.Bool.{and_comm}
use Rattle.lines.specs.Line.{over_lines}
use Rattle.lines.proofs.Digit.{line_mod}
use Rattle.lines.proofs.Over.{lines_cong}
use Rattle.lut.specs.Table.{answer_at, high, low, down}
use Rattle.lut.proofs.Halves.{high_half, low_half}
use Rattle.lut.proofs.Tables.{one_is, table_answer, table_lt}
use Rattle.lut.proofs.Down.{length_down, down_lt}
use Rattle.term.specs.Rule.{lines_hit, term_hit}
use Rattle.term.specs.Words.{address_hit, nibble_table, chain_word, word_at, term_words}
use Rattle.term.specs.Model.{word_hit, chain_hit}
use Rattle.term.proofs.PlainRule.{hit_split, lines_formula}

-- ---- one table

-- the lowest four lines of a number are those of its lowest nibble
lines_nibble : (t m s : ℕ) → lines_hit 4 (t % 16) (m % 16) (s % 16) ≡ lines_hit 4 t m s
lines_nibble t m s =
    lines_cong ◌&&◌ true 4 _ _ (λ i h. rw (line_mod t 4 i h, line_mod m 4 i h, line_mod s 4 i h))

-- the table's rule: the formula at the address [W5]
pub nibble_hit : (t m s : ℕ) → eqb (answer_at (nibble_table (t % 16) (m % 16)) (s % 16)) 1 ≡ lines_hit 4 t m s
unfolding nibble_table
nibble_hit t m s =
    ap (λ (x : ℕ). eqb x 1) (table_answer (address_hit (t % 16) (m % 16)) 16 (s % 16) (omega arith))
    ∙ one_is (address_hit (t % 16) (m % 16) (s % 16))
    ∙ lines_formula 4 (t % 16) (m % 16) (s % 16) (omega arith) (omega arith) (omega arith)
    ∙ lines_nibble t m s

pub nibble_lt : (t m : ℕ) → nibble_table t m < 65536
unfolding nibble_table
nibble_lt t m = table_lt (address_hit t m) 16

pub nibble_below : (x t m : ℕ) → x ≡ nibble_table t m → x < 65536
nibble_below x t m e = omega (arith, nibble_lt t m)

-- ---- one word, of two tables

pub word_low : (t m : ℕ) → low (chain_word t m) ≡ nibble_table (t % 16) (m % 16)
unfolding chain_word
word_low t m = low_half (nibble_table (t / 16 % 16) (m / 16 % 16)) (nibble_table (t % 16) (m % 16)) (nibble_lt (t % 16) (m % 16))

pub word_high : (t m : ℕ) → high (chain_word t m) ≡ nibble_table (t / 16 % 16) (m / 16 % 16)
unfolding chain_word
word_high t m = high_half (nibble_table (t / 16 % 16) (m / 16 % 16)) (nibble_table (t % 16) (m % 16)) (nibble_lt (t % 16) (m % 16))

pub word_hit_law : (t m s : ℕ) → word_hit (chain_word t m) s ≡ lines_hit 8 t m s
unfolding word_hit
word_hit_law t m s =
    rw (word_low, word_high, nibble_hit t m s, nibble_hit (t / 16) (m / 16) (s / 16))
    (and_comm (lines_hit 4 t m s) (lines_hit 4 (t / 16) (m / 16) (s / 16)) ∙ sym (hit_split 4 4 t m s))

pub word_fits : (t m : ℕ) → chain_word t m < 2 ^ 32
unfolding chain_word
word_fits t m = omega (arith, nibble_lt (t / 16 % 16) (m / 16 % 16), nibble_lt (t % 16) (m % 16))

-- ---- the chain

pub term_words_length : (t m : ℕ) → length (term_words t m) ≡ 4
unfolding term_words
term_words_length t m = length_down (word_at t m) 4

-- each word has 32 bits
pub term_words_fit : (t m i : ℕ) → get_or (term_words t m) i 0 < 2 ^ 32
unfolding term_words
term_words_fit t m =
    down_lt (word_at t m) (2 ^ 32) (lit< tt) (λ k. word_fits (t / 2 ^ (8 * k)) (m / 2 ^ (8 * k))) 4

chain_hit_law : (k t m s : ℕ) → chain_hit (down (word_at t m) k) s ≡ lines_hit (8 * k) t m s
unfolding chain_hit down over_lines
chain_hit_law zero t m s = refl
chain_hit_law (suc k) t m s =
    let q : 8 + 8 * k ≡ 8 * suc k = omega arith in
    rw (length_down (word_at t m) k)
    (ap₂ ◌&&◌ (word_hit_law (t / 2 ^ (8 * k)) (m / 2 ^ (8 * k)) (s / 2 ^ (8 * k))) (chain_hit_law k t m s)
    ∙ sym (hit_split 8 (8 * k) t m s)
    ∙ ap (λ (n : ℕ). lines_hit n t m s) q)

pub term_hits : (t m s : ℕ) → chain_hit (term_words t m) s ≡ term_hit t m s
unfolding term_words term_hit
term_hits t m s = chain_hit_law 4 t m s
