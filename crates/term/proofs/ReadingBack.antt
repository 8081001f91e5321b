-- Chain words read back: a pattern's words give the pattern with its target cut to its mask, and words are accepted exactly if
-- some pattern writes them. Assumes nothing.
use Rattle.std.proofs.Common.{◌≡◌, refl, sym, ap, ap₂, ◌∙◌, Bool, true, false, Option, Some, None, List, [], ◌∷◌, ℕ, zero, suc, ◌+◌, ◌*◌, ◌/◌, ◌%◌, ◌^◌, ◌<◌, add-mul, mul_assoc, add_assoc, add-zero, arith, eq-eqb, ne_eqb, bit_and, T, eqb, eqb→eq, lit<, length, get_or, pow-add}
use Rattle.std.specs.Bool.{then_some}
use native.Mathlib.Decide.{ℕ_discrete}
use lib.Arith.{digits_lt}
use lib.Bits.{and_mod, and_shr, and_le_l}
use lib.Count.{count_trailing_zeros}
use lib.Pow.{mod-pow-add}
use Rattle.compare.specs.Same.{same}
use Rattle.compare.proofs.Compare.{same_refl, same_true}
use Rattle.lines.proofs.Computed.{nibbles, every_within, every_within_law}
use Rattle.lut.specs.Table.{table_of, down}
use Rattle.lut.proofs.Tables.{table_lt}
use Rattle.lut.specs.Back.{ReadNumbered}
use Rattle.lut.proofs.Down.{down_cong}
use Rattle.lut.proofs.Numbers.{numbered_read, numbered_refused}
use Rattle.term.specs.Rule.{Accepted}
use Rattle.term.specs.Words.{nibble_table, chain_word, word_at, term_words, words_of}
use Rattle.term.specs.Back.{nibble_target, line_masked, nibble_mask, word_part, lines_after, part_of, decoded, read_term, ReadMeans, read_number, read_place}
use Rattle.term.specs.declared.Pattern.{Pattern}
use Rattle.term.proofs.Hits.{word_low, word_high, term_words_length}

-- ---- one table: each fact is one test at the 256 targets and masks

-- an equation between two numbers, tested at every target and mask below 16
abbrev nibble_test : (f g : ℕ → ℕ → ℕ) → List ℕ → Bool
nibble_test f g ds = eqb (f (get_or ds 0 0) (get_or ds 1 0)) (g (get_or ds 0 0) (get_or ds 1 0))

on_nibbles : (f g : ℕ → ℕ → ℕ) → T (every_within (nibbles 2) (nibble_test f g)) → (t m : ℕ) → f (t % 16) (m % 16) ≡ g (t % 16) (m % 16)
on_nibbles f g test t m = eqb→eq _ _ (every_within_law (nibbles 2) (nibble_test f g) test (t % 16 ∷ m % 16 ∷ []) (omega arith))

target_back : (t m : ℕ) → nibble_target (nibble_table (t % 16) (m % 16)) ≡ bit_and t m % 16
unfolding nibble_table table_of count_trailing_zeros
target_back t m = on_nibbles (λ t m. nibble_target (nibble_table t m)) bit_and tt t m ∙ sym (and_mod t m 4)

mask_back : (t m : ℕ) → nibble_mask (nibble_table (t % 16) (m % 16)) ≡ m % 16
unfolding nibble_mask nibble_table table_of count_trailing_zeros
mask_back t m = on_nibbles (λ t m. nibble_mask (nibble_table t m)) (λ t m. m) tt t m

table_cut : (t m : ℕ) → nibble_table (bit_and t m % 16) (m % 16) ≡ nibble_table (t % 16) (m % 16)
unfolding nibble_table table_of
table_cut t m =
    ap (λ (x : ℕ). nibble_table x (m % 16)) (and_mod t m 4)
    ∙ on_nibbles (λ t m. nibble_table (bit_and t m) m) nibble_table tt t m

word_cut : (t m : ℕ) → chain_word (bit_and t m) m ≡ chain_word t m
unfolding chain_word
word_cut t m =
    ap₂ (λ (high low : ℕ). high * 65536 + low)
    (ap (λ (x : ℕ). nibble_table (x % 16) (m / 16 % 16)) (and_shr t m 4) ∙ table_cut (t / 16) (m / 16)) (table_cut t m)

-- ---- what is read of a table fits a nibble, of a word a byte, and of four words a number of 32 lines

pub mask_small : (table : ℕ) → nibble_mask table < 16
unfolding nibble_mask
mask_small table = table_lt (line_masked table (nibble_target table)) 4

module _ (part : ℕ → ℕ) (ws : List ℕ) where
  pub part_four : length ws ≡ 4 → part_of part ws ≡ lines_after part 0 ws
  unfolding part_of
  part_four e = simp (eq-eqb _ _ e)

  pub part_other : (length ws ≡ 4 → ⊥) → part_of part ws ≡ 0
  unfolding part_of
  part_other n = simp (ne_eqb _ _ n)

module _ (part : ℕ → ℕ) (small : (table : ℕ) → part table < 16) where
  pub word_part_lt : (w : ℕ) → word_part part w < 256
  unfolding word_part
  word_part_lt w = omega (arith, small (w / 65536), small (w % 65536))

  lines_lt : (ws : List ℕ) (acc k : ℕ) → acc < 2 ^ k → lines_after part acc ws < 2 ^ (k + 8 * length ws)
  unfolding lines_after
  lines_lt [] acc k h = rw add-zero h
  lines_lt (w ∷ ws) acc k h =
      let e : k + 8 * suc (length ws) ≡ k + 8 + 8 * length ws = omega arith in
      rw e (lines_lt ws (acc * 256 + word_part part w) (k + 8) (rw (pow-add 2 k 8) (digits_lt h (word_part_lt w))))

  pub part_lt : (ws : List ℕ) → part_of part ws < 2 ^ 32
  part_lt ws = go (ℕ_discrete (length ws) 4)
    where
      go : Dec (length ws ≡ 4) → part_of part ws < 2 ^ 32
      go (yes e) =
          let h : lines_after part 0 ws < 2 ^ (0 + 8 * length ws) = lines_lt ws 0 0 (lit< tt) in
          rw (part_four part ws e) (rw e at h)
      go (no n) = rw (part_other part ws n) (lit< tt)

-- what is decoded has the bounds of a pattern's numbers
decoded_fits : (ws : List ℕ) → Accepted (decoded ws)
decoded_fits ws =
    record {
      target_fits = part_lt nibble_target (λ table. omega arith) ws;
      mask_fits = part_lt nibble_mask mask_small ws;
    }

-- ---- what is read of a pattern's words is a number of the pattern: its target cut to its mask, or its mask

record Decodes (part : ℕ → ℕ) (number : (t m : ℕ) → ℕ) : Type 0 where
  table : (t m : ℕ) → part (nibble_table (t % 16) (m % 16)) ≡ number t m % 16
  up : (t m k : ℕ) → number (t / 2 ^ k) (m / 2 ^ k) ≡ number t m / 2 ^ k

decodes_target : Decodes nibble_target bit_and
decodes_target = record { table = target_back; up = λ t m k. sym (and_shr t m k) }

decodes_mask : Decodes nibble_mask (λ t m. m)
decodes_mask = record { table = mask_back; up = λ t m k. refl }

module _ (part : ℕ → ℕ) (number : (t m : ℕ) → ℕ) (d : Decodes part number) where
  word_back : (t m : ℕ) → word_part part (chain_word t m) ≡ number t m % 256
  unfolding word_part
  word_back t m = rw (word_high, word_low, d.table (t / 16) (m / 16), d.table t m, d.up t m 4) (omega arith)

  lines_back : (t m k acc : ℕ) → lines_after part acc (down (word_at t m) k) ≡ acc * 2 ^ (8 * k) + number t m % 2 ^ (8 * k)
  unfolding lines_after down
  lines_back t m zero acc = omega arith
  lines_back t m (suc k) acc =
      let e : 8 * suc k ≡ 8 + 8 * k = omega arith in
      let w : word_part part (chain_word (t / 2 ^ (8 * k)) (m / 2 ^ (8 * k))) ≡ number t m / 2 ^ (8 * k) % 256 =
      word_back (t / 2 ^ (8 * k)) (m / 2 ^ (8 * k)) ∙ ap (λ (x : ℕ). x % 256) (d.up t m (8 * k)) in
      lines_back t m k (acc * 256 + word_part part (chain_word (t / 2 ^ (8 * k)) (m / 2 ^ (8 * k))))
      ∙ rw (w, e, mod-pow-add (number t m) 8 (8 * k), pow-add 2 8 (8 * k), add-mul, mul_assoc, add_assoc)

  part_back : (t m : ℕ) → number t m < 2 ^ 32 → part_of part (term_words t m) ≡ number t m
  unfolding term_words part_of
  part_back t m h = rw (term_words_length t m) (lines_back t m 4 0 ∙ omega arith)

pub term_words_cut : (t m : ℕ) → term_words (bit_and t m) m ≡ term_words t m
unfolding term_words
term_words_cut t m =
    down_cong (word_at (bit_and t m) m) (word_at t m)
    (λ k. ap (λ (x : ℕ). chain_word x (m / 2 ^ (8 * k))) (and_shr t m (8 * k)) ∙ word_cut (t / 2 ^ (8 * k)) (m / 2 ^ (8 * k))) 4

-- ---- reading

-- the words of a pattern are decoded as that pattern, with its target cut to the mask
decoded_words : (t m : ℕ) → t < 2 ^ 32 → m < 2 ^ 32 → decoded (term_words t m) ≡ record { target = bit_and t m; mask = m }
decoded_words t m ht hm =
    rw (part_back nibble_target bit_and decodes_target t m (omega (arith, and_le_l t m)), part_back nibble_mask (λ t m. m) decodes_mask t m hm)

-- and so they are read
pub read_words : (t m : ℕ) → t < 2 ^ 32 → m < 2 ^ 32 → read_term (term_words t m) ≡ Some (record { target = bit_and t m; mask = m })
unfolding read_term
read_words t m ht hm =
    ap (λ (p : Pattern). then_some (same (term_words t m) (words_of p)) p) (decoded_words t m ht hm) ∙ rw (term_words_cut, same_refl)

-- what reading says is so
pub read_means : (ws : List ℕ) → ReadMeans ws (read_term ws)
unfolding read_term
read_means ws = go (same ws (words_of (decoded ws))) refl
  where
    go : (b : Bool) → same ws (words_of (decoded ws)) ≡ b → ReadMeans ws (then_some b (decoded ws))
    go true e =
        let w : ws ≡ words_of (decoded ws) = same_true ws (words_of (decoded ws)) e in
        let fits = decoded_fits ws in
        let again = decoded_words (decoded ws).target (decoded ws).mask fits.target_fits fits.mask_fits in
        record {
          written = w;
          cut = sym (ap (λ (p : Pattern). p.target) again) ∙ ap (λ (v : List ℕ). (decoded v).target) (sym w);
          target_fits = fits.target_fits;
          mask_fits = fits.mask_fits;
        }
    go false e = λ t m ht hm w.
        let again : read_term ws ≡ Some (record { target = bit_and t m; mask = m }) = ap read_term w ∙ read_words t m ht hm in
        let refused : read_term ws ≡ None = refused_by e in
        cc
      where
        refused_by : same ws (words_of (decoded ws)) ≡ false → read_term ws ≡ None
        refused_by e = rw e

-- and it has these numbers
pub read_numbered : (ws : List ℕ) (r : Option Pattern) → ReadMeans ws r → ReadNumbered Accepted words_of ws (read_number r) (read_place r)
read_numbered ws (Some p) w =
    numbered_read Accepted words_of ws (p, (record { target_fits = w.target_fits; mask_fits = w.mask_fits }, w.written))
read_numbered ws None none =
    numbered_refused Accepted words_of ws (λ x. none x.0.target x.0.mask x.1.0.target_fits x.1.0.mask_fits x.1.1)

-- both promises of the call follow from its first
module _ (ws : List ℕ) (r : Option Pattern) (e : r ≡ read_term ws) where
  pub answer_means : ReadMeans ws r
  answer_means = rw e (read_means ws)

  pub answer_numbered : ReadNumbered Accepted words_of ws (read_number r) (read_place r)
  answer_numbered = read_numbered ws r answer_means
