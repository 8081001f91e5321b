-- What the operation words do is what the rules say of the operations: one computed test over codes and addresses, passed by each
-- of the three tables; and so a sum's words, run by the model, do what the tree of its operations says. Assumes nothing.
use Prim.Native.Nat.{ℕ, ◌+◌, ◌*◌, ◌≤◌}
use mathlib.Core.Path.{◌≡◌, ap, ap₂, ◌∙◌}
use mathlib.Core.Bool.{Bool, true, false, ◌&&◌, and_self}
use mathlib.Core.List.{List, [], ◌∷◌}
use native.Mathlib.Omega.{arith}
use lib.Dec.{T, eqb, eqb→eq, lit<}
use lib.ListN.{get_or}
use Rattle.lines.specs.Line.{line}
use Rattle.lines.proofs.Computed.{digits, every_within, Within, every_within_law}
use Rattle.lut.specs.Table.{answer_at, one_if}
use Rattle.lut.proofs.Halves.{low_half}
use Rattle.lut.proofs.Tables.{one_is, one_lt, digit_on}
use Rattle.sum.specs.Operation.{pair_ops, mid_ops, final_ops, op_word, codes_accepted}
use Rattle.sum.specs.Meaning.{two_means, mid_means, is_on, group_means, first_half, second_half, sum_means}
use Rattle.sum.specs.Words.{joined, words_of}
use Rattle.sum.specs.Model.{first_pairs, last_pairs, pair_at, inputs_of, sum_hit}
use Rattle.sum.proofs.Tables.{pairs, mids, finals, op_word_lt, joined_high, joined_low, code_at}

-- the word of a code (the first number) answers, at the address of four inputs, what the operation means for them
module _ (ops : List ℕ) (means : ℕ → Bool → Bool → Bool → Bool → Bool) where
  answers_right : List ℕ → Bool
  answers_right ds =
      eqb (answer_at (op_word ops (get_or ds 0 0)) (get_or ds 1 0 + 2 * get_or ds 2 0 + 4 * get_or ds 3 0 + 8 * get_or ds 4 0))
      (one_if (means (get_or ds 0 0) (eqb (get_or ds 1 0) 1) (eqb (get_or ds 2 0) 1) (eqb (get_or ds 3 0) 1) (eqb (get_or ds 4 0) 1)))

  stage_means : (bounds : List ℕ) → T (every_within (10 ∷ bounds) answers_right) → (code : ℕ) → code ≤ 9 → (p q r s : Bool)
      → Within bounds (one_if p ∷ one_if q ∷ one_if r ∷ one_if s ∷ [])
      → answer_at (op_word ops code) (one_if p + 2 * one_if q + 4 * one_if r + 8 * one_if s) ≡ one_if (means code p q r s)
  unfolding answers_right
  stage_means bounds t code h p q r s w =
      let told
      : answer_at (op_word ops code) (one_if p + 2 * one_if q + 4 * one_if r + 8 * one_if s)
      ≡ one_if (means code (eqb (one_if p) 1) (eqb (one_if q) 1) (eqb (one_if r) 1) (eqb (one_if s) 1)) =
      eqb→eq _ _ (every_within_law (10 ∷ bounds) answers_right t (code ∷ one_if p ∷ one_if q ∷ one_if r ∷ one_if s ∷ []) (omega arith, w)) in
      rw (one_is p, one_is q, one_is r, one_is s) at told

-- a pair's table has two inputs for each of its two sources, and a source counts where both are 1 [M7, W16]
pub pair_words_mean : (code : ℕ) → code ≤ 9 → (p q r s : Bool)
    → answer_at (op_word pair_ops code) (one_if p + 2 * one_if q + 4 * one_if r + 8 * one_if s) ≡ one_if (two_means code (p && q) (r && s))
unfolding answers_right
pair_words_mean code h p q r s =
    stage_means pair_ops (λ c p q r s. two_means c (p && q) (r && s)) (digits 4) tt code h p q r s (one_lt p, (one_lt q, (one_lt r, (one_lt s, tt))))

pub mid_words_mean : (code : ℕ) → code ≤ 9 → (p q r s : Bool)
    → answer_at (op_word mid_ops code) (one_if p + 2 * one_if q + 4 * one_if r + 8 * one_if s) ≡ one_if (mid_means code p q r s)
unfolding answers_right
mid_words_mean code h p q r s = stage_means mid_ops mid_means (digits 4) tt code h p q r s (one_lt p, (one_lt q, (one_lt r, (one_lt s, tt))))

-- nothing drives the two inputs above [M8]
pub final_words_mean : (code : ℕ) → code ≤ 9 → (p q : Bool)
    → answer_at (op_word final_ops code) (one_if p + 2 * one_if q) ≡ one_if (two_means code p q)
unfolding answers_right
final_words_mean code h p q =
    let zeros : one_if p + 2 * one_if q ≡ one_if p + 2 * one_if q + 4 * one_if false + 8 * one_if false = omega arith in
    ap (answer_at (op_word final_ops code)) zeros
    ∙ stage_means final_ops (λ c p q r s. two_means c p q) (2 ∷ 2 ∷ 1 ∷ 1 ∷ []) tt code h p q false false
    (one_lt p, (one_lt q, (lit< tt, (lit< tt, tt))))

-- ---- the tree

-- a pair's table with its two sources
pair_driven : (code sources a b : ℕ) → code ≤ 9 → pair_at (op_word pair_ops code) sources a b ≡ one_if (two_means code (is_on sources a) (is_on sources b))
pair_driven code s a b h =
    let x = line s a in
    let y = line s b in
    let p = is_on s a in
    let q = is_on s b in
    let ex : x ≡ one_if p = digit_on x (omega arith) in
    let ey : y ≡ one_if q = digit_on y (omega arith) in
    let e : 3 * x + 12 * y ≡ one_if p + 2 * one_if p + 4 * one_if q + 8 * one_if q = omega arith in
    ap (answer_at (op_word pair_ops code)) e
    ∙ pair_words_mean code h p p q q
    ∙ ap₂ (λ (u v : Bool). one_if (two_means code u v)) (and_self p) (and_self q)

-- a mid table over four pairs
module _ (places : List ℕ) (s a b c d : ℕ) (ha : a ≤ 9) (hb : b ≤ 9) (hc : c ≤ 9) (hd : d ≤ 9) where
  abbrev pair : (code i j : ℕ) → Bool
  pair code i j = two_means code (is_on s (get_or places i 0)) (is_on s (get_or places j 0))

  inputs_mean : inputs_of places (joined pair_ops b a) (joined pair_ops d c) s
      ≡ one_if (pair a 0 1) + 2 * one_if (pair b 2 3) + 4 * one_if (pair c 4 5) + 8 * one_if (pair d 6 7)
  unfolding inputs_of
  inputs_mean =
      rw (joined_low pair_ops pairs b a, joined_high pair_ops pairs b a, joined_low pair_ops pairs d c, joined_high pair_ops pairs d c)
      (sums
      (pair_driven a s (get_or places 0 0) (get_or places 1 0) ha)
      (pair_driven b s (get_or places 2 0) (get_or places 3 0) hb)
      (pair_driven c s (get_or places 4 0) (get_or places 5 0) hc)
      (pair_driven d s (get_or places 6 0) (get_or places 7 0) hd))
    where
      sums : {p q r t p' q' r' t' : ℕ} → p ≡ p' → q ≡ q' → r ≡ r' → t ≡ t' → p + 2 * q + 4 * r + 8 * t ≡ p' + 2 * q' + 4 * r' + 8 * t'
      sums e f g h = omega arith

  group_mean : (mid table : ℕ) → mid ≤ 9 → table ≡ op_word mid_ops mid
      → answer_at table (inputs_of places (joined pair_ops b a) (joined pair_ops d c) s) ≡ one_if (group_means places s mid a b c d)
  group_mean mid table h e =
      ap₂ answer_at e inputs_mean ∙ mid_words_mean mid h (pair a 0 1) (pair b 2 3) (pair c 4 5) (pair d 6 7)

pub sum_model : (ops : List ℕ) (sources : ℕ) → codes_accepted ops ≡ true → sum_hit (words_of ops) sources ≡ sum_means ops sources
unfolding sum_hit words_of
sum_model b s ok =
    let g : (i : ℕ) → ℕ = λ i. get_or b i 0 in
    let c : (i : ℕ) → get_or b i 0 ≤ 9 = code_at b ok in
    let first = group_mean first_pairs s (g 0) (g 1) (g 2) (g 3) (c 0) (c 1) (c 2) (c 3) (g 8) _ (c 8) (joined_low mid_ops mids (g 9) (g 8)) in
    let last = group_mean last_pairs s (g 4) (g 5) (g 6) (g 7) (c 4) (c 5) (c 6) (c 7) (g 9) _ (c 9) (joined_high mid_ops mids (g 9) (g 8)) in
    let m1 = first_half b s in
    let m2 = second_half b s in
    ap₂ (λ (x y : ℕ). eqb (answer_at x y) 1) (low_half 0 (op_word final_ops (g 10)) (op_word_lt final_ops finals (g 10)))
    (ap₂ (λ (x y : ℕ). x + 2 * y) first last)
    ∙ ap (λ (x : ℕ). eqb x 1) (final_words_mean (g 10) (c 10) m1 m2)
    ∙ one_is (two_means (g 10) m1 m2)
