-- The way back: the words of an accepted range decode to it, and what is read writes the words that were read. Assumes nothing.
use Rattle.std.proofs.Common.{◌≡◌, ℕ, zero, suc, ◌+◌, ◌-◌, ◌/◌, ◌^◌, ◌<◌, ◌≤◌, Bool, true, false, cond, ◌&&◌, eqb, leb, Option, Some, None, List, length, take, drop, sym, refl, ap, ◌∙◌, subst, arith, pow_pos, eq-eqb, ne_eqb, le-leb, leb-true}
use borrow.Author.Tests.{lt-leb}
use lib.Count.{ones}
use Rattle.lines.specs.Line.{line}
use Rattle.lines.specs.Gather.{scattered}
use Rattle.compare.specs.Same.{same}
use Rattle.lines.proofs.Truth.{both_true}
use Rattle.lines.proofs.Digit.{bit_lt, from_lines_law, lines_not}
use Rattle.lines.proofs.Ones.{ones_in_law}
use Rattle.lines.proofs.Scattering.{scatter_lt, scatter_unmasked, gather_back}
use Rattle.compare.proofs.Compare.{same_true, same_equal}
use Rattle.lut.specs.Table.{one_if}
use Rattle.lut.specs.Back.{ReadNumbered}
use Rattle.lut.proofs.Numbers.{numbered_read, numbered_refused}
use Rattle.lut.proofs.Tables.{one_lt}
use Rattle.range.specs.declared.Range.{Range}
use Rattle.std.specs.Bool.{then_some}
use Rattle.std.proofs.lemmas.Option.{none-some}
use Rattle.range.specs.Rule.{RangeAccepted, Accepted}
use Rattle.range.specs.Words.{table_for, chain_words, lower_value, upper_value, sent_words, words_of}
use Rattle.range.specs.Model.{table_at}
use Rattle.range.specs.Back.{lines_with, chain_mask, chain_bound, decoded, read_as, read_range, ReadMeans, read_number, read_place}
use Rattle.range.proofs.Tables.{table_at_law, take_sent, drop_sent, length_sent}
use Rattle.range.proofs.Carry.{lower_fits, upper_fits, lower_value_law, upper_value_law}

-- two ranges are equal by their numbers
pub range_path : (a b : Range) → a.lower ≡ b.lower → a.upper ≡ b.upper → a.mask ≡ b.mask → a ≡ b
range_path a b p q r = λ i. record { lower = p i; upper = q i; mask = r i }

-- ---- a chain's lines

mask_bit : (d b : ℕ) → d < 2 → 1 - one_if (eqb (table_for d b) 0xFFFF) ≡ d
mask_bit zero b hd = refl
mask_bit (suc zero) zero hd = refl
mask_bit (suc zero) (suc b) hd = refl
mask_bit (suc (suc d)) b hd = absurd (omega arith)

value_bit : (d b : ℕ) → b < 2 → (d ≡ 0 → b ≡ 0) → one_if (eqb (table_for d b) 0x5555) ≡ b
value_bit zero b hb f = sym (f refl)
value_bit (suc d) zero hb f = refl
value_bit (suc d) (suc zero) hb f = refl
value_bit (suc d) (suc (suc b)) hb f = absurd (omega arith)

mask_back : (mask value : ℕ) → mask < 2 ^ 32 → chain_mask (chain_words mask value) ≡ mask
unfolding lines_with
mask_back mask value hm =
    let t = scattered 32 value mask in
    let test : ℕ → ℕ = λ i. one_if (eqb (table_at (chain_words mask value) i) 0xFFFF) in
    lines_not 32 test (λ i. one_lt (eqb (table_at (chain_words mask value) i) 0xFFFF))
    ∙ from_lines_law 32 mask (λ i. 1 - test i)
    (λ i h. ap (λ (x : ℕ). 1 - one_if (eqb x 0xFFFF)) (table_at_law mask value i h) ∙ mask_bit (line mask i) (line t i) (bit_lt (mask / 2 ^ i)))
    hm

spread_back : (mask value : ℕ) → lines_with 0x5555 (chain_words mask value) ≡ scattered 32 value mask
unfolding lines_with
spread_back mask value =
    let t = scattered 32 value mask in
    from_lines_law 32 t (λ i. one_if (eqb (table_at (chain_words mask value) i) 0x5555))
    (λ i h. ap (λ (x : ℕ). one_if (eqb x 0x5555)) (table_at_law mask value i h)
    ∙ value_bit (line mask i) (line t i) (bit_lt (t / 2 ^ i)) (scatter_unmasked 32 value mask i))
    (scatter_lt 32 value mask)

bound_back : (mask value : ℕ) → mask < 2 ^ 32 → value < 2 ^ ones mask → chain_bound mask (chain_words mask value) ≡ 2 ^ ones mask - 1 - value
unfolding chain_bound
bound_back mask value hm hv =
    rw (spread_back mask value, gather_back 32 value mask (rw (ones_in_law 32 mask hm) hv))

-- ---- a range's words

module _ (lower upper mask : ℕ) (a : RangeAccepted lower upper mask) where
  decoded_mask : chain_mask (take 16 (sent_words lower upper mask)) ≡ mask
  decoded_mask = ap chain_mask (take_sent lower upper mask) ∙ mask_back mask (lower_value lower mask) a.fits

  decoded_lower : chain_bound mask (take 16 (sent_words lower upper mask)) + 1 ≡ lower
  decoded_lower =
      let v = lower_value_law lower upper mask a in
      let b = bound_back mask (lower_value lower mask) a.fits (rw v (omega (arith, pow_pos (ones mask)))) in
      rw (take_sent lower upper mask, b, v) (omega arith)

  decoded_upper : chain_bound mask (drop 16 (sent_words lower upper mask)) ≡ upper
  decoded_upper =
      let v = upper_value_law lower upper mask a in
      let b = bound_back mask (upper_value upper mask) a.fits (rw v (omega (arith, pow_pos (ones mask)))) in
      rw (drop_sent lower upper mask, b, v) (omega arith)

  decoded_back : decoded (sent_words lower upper mask) ≡ record { lower = lower; upper = upper; mask = mask }
  decoded_back =
      let words = sent_words lower upper mask in
      range_path (decoded words) (record { lower = lower; upper = upper; mask = mask })
      (ap (λ (m : ℕ). chain_bound m (take 16 words) + 1) decoded_mask ∙ decoded_lower)
      (ap (λ (m : ℕ). chain_bound m (drop 16 words)) decoded_mask ∙ decoded_upper) decoded_mask

  -- reading the words of an accepted range gives it back
  pub read_back_law : read_range (sent_words lower upper mask) ≡ Some (record { lower = lower; upper = upper; mask = mask })
  unfolding read_range
  read_back_law =
      let words = sent_words lower upper mask in
      rw (eq-eqb (length words) 32 (length_sent lower upper mask))
      (ap (read_as words) decoded_back ∙ rw (le-leb lower upper a.ordered, same_equal words words refl))

-- ---- any words

-- what is decoded is accepted, if its bounds are in order
decoded_accepted : (words : List ℕ) → (decoded words).lower ≤ (decoded words).upper → Accepted (decoded words)
unfolding chain_bound
decoded_accepted words o =
    record { fits = omega arith; positive = omega arith; ordered = o; within = omega arith }

-- the tests that led to an answer
picked : (words : List ℕ) (s t : Bool) (r : Range) → cond s (then_some t (decoded words)) None ≡ Some r → (t ≡ true) × (decoded words ≡ r)
picked words true true r e = (refl, cc)
picked words true false r e = absurd (none-some r e)
picked words false t r e = absurd (none-some r e)

read_some : (words : List ℕ) (r : Range) → read_range words ≡ Some r → Accepted r × (words ≡ words_of r)
unfolding read_range
read_some words r e =
    let d = decoded words in
    let p = picked words (eqb (length words) 32) (leb d.lower d.upper && same words (words_of d)) r e in
    let b = both_true (leb d.lower d.upper) (same words (words_of d)) p.0 in
    subst (λ (q : Range). Accepted q × (words ≡ words_of q)) p.1
    (decoded_accepted words (leb-true d.lower d.upper b.0), same_true words (words_of d) b.1)

-- what is read is accepted and writes the words, or no accepted range does
pub read_means : (words : List ℕ) → ReadMeans words (read_range words)
read_means words = go (read_range words) refl
  where
    go : (r : Option Range) → read_range words ≡ r → ReadMeans words r
    go (Some r) e = read_some words r e
    go None e = λ lower upper mask a w. none-some _ (sym e ∙ ap read_range w ∙ read_back_law lower upper mask a)

-- and an answer that says so has these numbers
pub read_numbered : (words : List ℕ) (r : Option Range) → ReadMeans words r → ReadNumbered Accepted words_of words (read_number r) (read_place r)
read_numbered words (Some r) says = numbered_read Accepted words_of words (r, (says.0, says.1))
read_numbered words None none =
    numbered_refused Accepted words_of words (λ x. none x.0.lower x.0.upper x.0.mask x.1.0 x.1.1)

-- ---- the call: any other count, and what 32 words decode to

pub read_other : (words : List ℕ) → (length words ≡ 32 → ⊥) → None ≡ read_range words
unfolding read_range
read_other words n = rw (ne_eqb (length words) 32 n)

module _ (words : List ℕ) (r : Range) (len : length words ≡ 32) (d : decoded words ≡ r) where
  pub read_unordered : r.upper < r.lower → None ≡ read_range words
  unfolding read_range
  read_unordered h = rw (eq-eqb (length words) 32 len) (sym (ap (read_as words) d ∙ rw (lt-leb r.lower r.upper h)))

  pub read_ordered : r.lower ≤ r.upper → then_some (same words (words_of r)) r ≡ read_range words
  unfolding read_range
  read_ordered h = rw (eq-eqb (length words) 32 len) (sym (ap (read_as words) d ∙ rw (le-leb r.lower r.upper h)))

-- both other promises of the call follow from its first
module _ (words : List ℕ) (r : Option Range) (e : r ≡ read_range words) where
  pub answer_means : ReadMeans words r
  answer_means = rw e (read_means words)

  pub answer_numbered : ReadNumbered Accepted words_of words (read_number r) (read_place r)
  answer_numbered = read_numbered words r answer_means

-- what is accepted are 32-bit numbers
pub accepted_fits : (r : Range) → Accepted r → (r.lower < 2 ^ 32) × (r.upper < 2 ^ 32) × (r.mask < 2 ^ 32)
accepted_fits r a = (lower_fits r.lower r.upper r.mask a, upper_fits r.lower r.upper r.mask a, a.fits)
