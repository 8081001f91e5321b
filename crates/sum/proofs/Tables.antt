-- The three tables of operation words: no word stands twice in one, and each has sixteen bits. One computed test, and the laws of any table that
-- passes it. Assumes nothing.
use Prim.Native.Nat.{ℕ, zero, suc, zero-le, ◌≤◌, ◌<◌, ◌^◌}
use mathlib.Core.Path.{◌≡◌, refl, sym, ap, ap₂, ◌∙◌}
use mathlib.Core.Bool.{Bool, true, false, cond, ◌&&◌}
use mathlib.Core.List.{List, [], ◌∷◌}
use native.Mathlib.Decide.{dec_lt}
use native.Mathlib.Nat.{not-suc-le-zero, le_of_suc-le-suc, div-add-mod'}
use native.Mathlib.Omega.{arith}
use borrow.Author.Tests.{eqb-true}
use lib.Dec.{T, eqb, eqb→eq, ltb, ltb→lt, lit<}
use lib.ListN.{length, get_or, get_or-eq_default}
use Rattle.lines.proofs.Computed.{every_below, every_below_law}
use Rattle.lines.proofs.Truth.{and_left, and_right}
use Rattle.lut.specs.Table.{high, low, word_of}
use Rattle.lut.proofs.Halves.{high_half, low_half, word_lt}
use Rattle.sum.specs.Operation.{pair_ops, mid_ops, final_ops, op_word, op_code, codes_accepted}
use Rattle.compare.proofs.Within.{within_at}
use Rattle.sum.specs.Words.{joined, words_of}

-- the word of code c has sixteen bits, and its code is c
unfoldable pub entry_right : List ℕ → ℕ → Bool
entry_right ops c = eqb (op_code ops (op_word ops c)) c && ltb (op_word ops c) 65536

-- a table of ten words that pass
pub record TenWords (ops : List ℕ) : Type 0 where
  pub ten : length ops ≡ 10
  pub passes : T (every_below 10 (λ c. entry_right ops c))

pub pairs : TenWords pair_ops
unfolding op_code entry_right
pairs = record { ten = refl; passes = tt }

pub mids : TenWords mid_ops
unfolding op_code entry_right
mids = record { ten = refl; passes = tt }

pub finals : TenWords final_ops
unfolding op_code entry_right
finals = record { ten = refl; passes = tt }

module _ (ops : List ℕ) (t : TenWords ops) where
  entry : (c : ℕ) → c < 10 → T (entry_right ops c)
  entry c h = every_below_law 10 (λ c. entry_right ops c) t.passes c h

  pub code_of_word : (c : ℕ) → c ≤ 9 → op_code ops (op_word ops c) ≡ c
  unfolding entry_right
  code_of_word c h = eqb→eq _ _ (and_left (eqb (op_code ops (op_word ops c)) c) (ltb (op_word ops c) 65536) (entry c (omega arith)))

  pub op_word_lt : (c : ℕ) → op_word ops c < 65536
  unfolding entry_right
  op_word_lt c = go (dec_lt c 10)
    where
      go : Dec (c < 10) → op_word ops c < 65536
      go (yes h) = ltb→lt _ _ (and_right (eqb (op_code ops (op_word ops c)) c) (ltb (op_word ops c) 65536) (entry c h))
      go (no h) = rw (get_or-eq_default ops 0 {n = c} (omega (arith, t.ten, h))) (lit< tt)

  -- two operations have two words
  pub words_differ : (c d : ℕ) → c ≤ 9 → d ≤ 9 → op_word ops c ≡ op_word ops d → c ≡ d
  words_differ c d hc hd e = sym (code_of_word c hc) ∙ ap (op_code ops) e ∙ code_of_word d hd

  -- the two halves of a word of two operations
  pub joined_high : (h l : ℕ) → high (joined ops h l) ≡ op_word ops h
  joined_high h l = high_half (op_word ops h) (op_word ops l) (op_word_lt l)

  pub joined_low : (h l : ℕ) → low (joined ops h l) ≡ op_word ops l
  joined_low h l = low_half (op_word ops h) (op_word ops l) (op_word_lt l)

-- a word that is in a table is the word of its code
pub word_of_code : (ops : List ℕ) (word : ℕ) → op_code ops word < length ops → op_word ops (op_code ops word) ≡ word
unfolding op_code
word_of_code [] word = λ h. absurd (not-suc-le-zero h)
word_of_code (x ∷ ops) word = go (eqb x word) refl (word_of_code ops word)
  where
    go : (b : Bool) → eqb x word ≡ b → (op_code ops word < length ops → op_word ops (op_code ops word) ≡ word)
        → cond b 0 (suc (op_code ops word)) < suc (length ops) → op_word (x ∷ ops) (cond b 0 (suc (op_code ops word))) ≡ word
    go true e ih h = eqb-true x word e
    go false e ih h = ih (le_of_suc-le-suc h)

-- a word whose two halves are in the table
pub joined_codes : (ops : List ℕ) (t : TenWords ops) (w : ℕ) → op_code ops (high w) ≤ 9 → op_code ops (low w) ≤ 9
    → joined ops (op_code ops (high w)) (op_code ops (low w)) ≡ w
joined_codes ops t w hh hl =
    ap₂ word_of (word_of_code ops (high w) (omega (arith, t.ten))) (word_of_code ops (low w) (omega (arith, t.ten))) ∙ div-add-mod' w 65536

-- accepted bytes are codes, at every place
pub code_at : (codes : List ℕ) → codes_accepted codes ≡ true → (i : ℕ) → get_or codes i 0 ≤ 9
code_at codes e i =
    elim (dec_lt i (length codes)) [
      | yes h ↦ (within_at 0 9 codes i e h).1
      | no h ↦ rw (get_or-eq_default codes 0 {n = i} (omega arith)) zero-le
    ]

-- ---- the words of a sum have 32 bits each

-- each number of a list fits a word
abbrev Fit : List ℕ → Type 0
Fit [] = Unit
Fit (x ∷ xs) = (x < 2 ^ 32) × Fit xs

fit_at : (xs : List ℕ) → Fit xs → (i : ℕ) → get_or xs i 0 < 2 ^ 32
fit_at [] h i = lit< tt
fit_at (x ∷ xs) h zero = h.0
fit_at (x ∷ xs) h (suc i) = fit_at xs h.1 i

joined_fits : (ops : List ℕ) → TenWords ops → (h l : ℕ) → joined ops h l < 2 ^ 32
joined_fits ops t h l = word_lt (op_word ops h) (op_word ops l) (op_word_lt ops t h) (op_word_lt ops t l)

pub words_small : (ops : List ℕ) (i : ℕ) → get_or (words_of ops) i 0 < 2 ^ 32
unfolding words_of
words_small b =
    fit_at (words_of b) (
      word_lt 0 (op_word final_ops (get_or b 10 0)) (lit< tt) (op_word_lt final_ops finals (get_or b 10 0)),
      (
        joined_fits mid_ops mids (get_or b 9 0) (get_or b 8 0),
        (
          joined_fits pair_ops pairs (get_or b 7 0) (get_or b 6 0),
          (
            joined_fits pair_ops pairs (get_or b 5 0) (get_or b 4 0),
            (
              joined_fits pair_ops pairs (get_or b 3 0) (get_or b 2 0),
              (joined_fits pair_ops pairs (get_or b 1 0) (get_or b 0 0), tt),
            ),
          ),
        ),
      ),
    )
