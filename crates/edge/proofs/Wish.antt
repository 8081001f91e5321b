-- The lines that ask for an event come out of the words of accepted lines as they went in; and the loop that gathers them. Assumes nothing.
use Prim.Native.Nat.{ℕ, zero, suc, ◌+◌, ◌*◌, ◌/◌, ◌%◌, ◌^◌, ◌<◌, ◌≤◌}
use mathlib.Core.Path.{◌≡◌, ap, ap₂, ◌∙◌}
use mathlib.Core.Bool.{Bool, true}
use mathlib.Core.List.{List, [], ◌∷◌}
use native.Mathlib.Nat.{lt_of_lt_of_le, div-one, add-zero, add-mul, mul_assoc, add_assoc}
use native.Mathlib.Numerals.{add-one}
use native.Mathlib.Omega.{arith}
use lib.Arith.{digits_lt}
use lib.Bits.{bit_and}
use lib.Dec.{eqb}
use lib.ListN.{length, get_or, drop, drop_of_length-le}
use lib.Pow.{pow-add, pow_mono, mod-pow-add}
use lib.Seq.{drop-cons}
use Rattle.lines.specs.Line.{line}
use Rattle.lines.proofs.Digit.{line_up}
use Rattle.lines.proofs.Over.{every_at}
use Rattle.lut.specs.Table.{high, low, down}
use Rattle.lut.proofs.Halves.{high_half, low_half}
use Rattle.lut.proofs.Tables.{one_lt}
use Rattle.edge.specs.declared.Edge.{Edge}
use Rattle.edge.specs.declared.Event.{Event}
use Rattle.edge.specs.Rule.{line_accepted, edge_accepted}
use Rattle.edge.specs.Words.{lower_table, upper_table, pair_table, word_at, words_of}
use Rattle.edge.specs.Back.{covers, word_wish, wish_from, wish_of}
use Rattle.edge.specs.Telling.{asked}
use Rattle.edge.proofs.Pair.{two_lines, pair_lt, pair_read}

-- ---- one word

pub covers_lt : (t w : ℕ) → covers t w < 2
unfolding covers
covers_lt t w = one_lt (eqb (bit_and t w) w)

pub word_wish_lt : (u d w : ℕ) → word_wish u d w < 16
word_wish_lt u d w = omega (arith, covers_lt (high w) u, covers_lt (high w) d, covers_lt (low w) u, covers_lt (low w) d)

-- four lines as one number
two_pairs : (x : ℕ) → x / 4 % 4 * 4 + x % 4 ≡ x % 16
two_pairs x = omega arith

upper_pair : (x : ℕ) → x / 8 % 2 * 8 + x / 4 % 2 * 4 ≡ x / 4 % 4 * 4
upper_pair x = omega arith

nibble : (x : ℕ) → x / 2 ^ 3 % 2 * 8 + x / 2 ^ 2 % 2 * 4 + x / 2 ^ 1 % 2 * 2 + x / 2 ^ 0 % 2 ≡ x % 16
nibble x = rw (div-one x) (glue _ _ _ _ (upper_pair x) (two_lines x) (two_pairs x))
  where
    glue : (a b c d : ℕ) {u l y : ℕ} → a + b ≡ u → c + d ≡ l → u + l ≡ y → a + b + c + d ≡ y
    glue a b c d p q s = omega arith

quad : (x k : ℕ)
    → line x (2 * (2 * k + 1) + 1) * 8 + line x (2 * (2 * k + 1)) * 4 + line x (2 * (2 * k) + 1) * 2 + line x (2 * (2 * k))
    ≡ x / 2 ^ (4 * k) % 16
quad x k =
    let a : 2 * (2 * k + 1) + 1 ≡ 3 + 4 * k = omega arith in
    let b : 2 * (2 * k + 1) ≡ 2 + 4 * k = omega arith in
    let c : 2 * (2 * k) + 1 ≡ 1 + 4 * k = omega arith in
    let d : 2 * (2 * k) ≡ 0 + 4 * k = omega arith in
    rw (a, b, c, d, line_up x 3 (4 * k), line_up x 2 (4 * k), line_up x 1 (4 * k), line_up x 0 (4 * k)) (nibble (x / 2 ^ (4 * k)))

-- ---- all words

-- four lines more below the lines a
shift_in : (k a x : ℕ) → (a * 16 + x / 2 ^ (4 * k) % 16) * 2 ^ (4 * k) + x % 2 ^ (4 * k) ≡ a * 2 ^ (4 * suc k) + x % 2 ^ (4 * suc k)
shift_in k a x =
    let q : 4 * suc k ≡ 4 + 4 * k = omega arith in
    rw (q, mod-pow-add x 4 (4 * k), pow-add 2 4 (4 * k), add-mul, mul_assoc, add_assoc)

-- the wishes of accepted lines, for an event
module _ (t : Event) (d : Edge) where
  -- line i does not ask for all three
  line_ok : ℕ → Bool
  line_ok i = line_accepted (line d.rise i) (line d.fall i) (line d.neither i)

  word : ℕ → ℕ
  word k = word_at d.rise d.fall d.neither k

  word_read : (k : ℕ) → ((i : ℕ) → i < 4 * suc k → line_ok i ≡ true)
      → word_wish (upper_table t) (lower_table t) (word k) ≡ asked t d / 2 ^ (4 * k) % 16
  unfolding line_ok word
  word_read k ok =
      let upper = pair_table (2 * k + 1) d.rise d.fall d.neither in
      let lower = pair_table (2 * k) d.rise d.fall d.neither in
      let hi = pair_read t (2 * k + 1) d (ok _ (omega arith)) (ok _ (omega arith)) in
      let lo = pair_read t (2 * k) d (ok _ (omega arith)) (ok _ (omega arith)) in
      ap₂ (λ (a b : ℕ). covers a (upper_table t) * 8 + covers a (lower_table t) * 4 + covers b (upper_table t) * 2 + covers b (lower_table t))
      (high_half upper lower (pair_lt (2 * k) d.rise d.fall d.neither)) (low_half upper lower (pair_lt (2 * k) d.rise d.fall d.neither))
      ∙ rw (hi.0, hi.1, lo.0, lo.1) (quad (asked t d) k)

  -- after the lines a, the words of the lowest 4k lines
  words_read_law : (k a : ℕ) → ((i : ℕ) → i < 4 * k → line_ok i ≡ true)
      → wish_from (upper_table t) (lower_table t) (down word k) a ≡ a * 2 ^ (4 * k) + asked t d % 2 ^ (4 * k)
  unfolding wish_from down
  words_read_law zero a ok = omega arith
  words_read_law (suc k) a ok =
      ap (λ (x : ℕ). wish_from (upper_table t) (lower_table t) (down word k) (a * 16 + x)) (word_read k ok)
      ∙ words_read_law k (a * 16 + asked t d / 2 ^ (4 * k) % 16) (λ i h. ok i (omega arith))
      ∙ shift_in k a (asked t d)

  pub wish_read : edge_accepted d.rise d.fall d.neither ≡ true → asked t d < 2 ^ 32 → wish_of t (words_of d) ≡ asked t d
  unfolding line_ok word
  wish_read ok h = words_read_law 8 0 (λ i g. every_at 32 line_ok ok i g) ∙ omega arith

-- ---- the loop that gathers one wish

-- the lines of i words, and those of one word more
pub grow : (i a x : ℕ) → a < 2 ^ (4 * i) → x < 16 → a * 16 + x < 2 ^ (4 * (i + 1))
grow i a x ha hx =
    let q : 4 * (i + 1) ≡ 4 * i + 4 = omega arith in
    rw (q, pow-add 2 (4 * i) 4) (digits_lt ha hx)

pub room : (i a : ℕ) → i < 8 → a < 2 ^ (4 * i) → a < 2 ^ 28
room i a h ha = lt_of_lt_of_le ha (pow_mono {i = 4 * i} {j = 28} (omega arith))

pub wish_lt : (u d : ℕ) (ws : List ℕ) (i a : ℕ) → a < 2 ^ (4 * i) → wish_from u d ws a < 2 ^ (4 * (i + length ws))
unfolding wish_from
wish_lt u d [] i a h = rw (add-zero i) h
wish_lt u d (w ∷ ws) i a h =
    let q : i + 1 + length ws ≡ i + suc (length ws) = omega arith in
    rw (← q) (wish_lt u d ws (i + 1) (a * 16 + word_wish u d w) (grow i a (word_wish u d w) h (word_wish_lt u d w)))

pub wish_more : (u d : ℕ) (ws : List ℕ) (i a x : ℕ) → i < length ws → x ≡ word_wish u d (get_or ws i 0)
    → wish_from u d (drop i ws) a ≡ wish_from u d (drop (i + 1) ws) (a * 16 + x)
unfolding wish_from
wish_more u d ws i a x h e = rw (drop-cons ws i 0 h, add-one i, e)

pub wish_end : (u d : ℕ) (ws : List ℕ) (i a : ℕ) → length ws ≤ i → wish_from u d (drop i ws) a ≡ a
unfolding wish_from
wish_end u d ws i a h = rw (drop_of_length-le ws h)
