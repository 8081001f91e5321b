-- Reading back: accepted operation codes come out of the words that they write, and what is read writes the words. Assumes nothing.
use Prim.Native.Nat.{ℕ, zero, suc, ◌≤◌}
use mathlib.Core.Path.{◌≡◌, refl, sym, ap, ap₂, ◌∙◌}
use mathlib.Core.Bool.{Bool, true, false, cond, ◌&&◌, true≢false}
use mathlib.Core.List.{List, [], ◌∷◌}
use Rattle.std.proofs.Common.{Option, Some, None}
use native.Mathlib.Omega.{arith}
use borrow.Author.Tests.{eq-eqb, eqb-true}
use lib.Dec.{eqb}
use lib.ListN.{length, get_or}
use Rattle.lines.proofs.Truth.{both_true}
use Rattle.lut.specs.Table.{high, low, word_of}
use Rattle.lut.specs.Back.{ReadNumbered}
use Rattle.lut.proofs.Numbers.{numbered_read, numbered_refused}
use Rattle.sum.specs.Operation.{pair_ops, mid_ops, final_ops, op_word, op_code, codes_accepted, Accepted}
use Rattle.sum.specs.Words.{joined, words_of}
use Rattle.sum.specs.Back.{WrittenBy, ReadMeans, codes_of, known, read_sum, read_number, read_place}
use Rattle.sum.proofs.Tables.{TenWords, pairs, mids, finals, code_of_word, joined_high, joined_low, word_of_code, joined_codes, code_at}

-- a list by its places
tab : ℕ → (ℕ → ℕ) → List ℕ
tab zero f = []
tab (suc k) f = f 0 ∷ tab k (λ i. f (suc i))

tab_all : (l : List ℕ) → tab (length l) (λ i. get_or l i 0) ≡ l
unfolding tab
tab_all [] = refl
tab_all (x ∷ l) = ap (λ (r : List ℕ). x ∷ r) (tab_all l)

elements : (l : List ℕ) (k : ℕ) → length l ≡ k → tab k (λ i. get_or l i 0) ≡ l
elements l k h = ap (λ (n : ℕ). tab n (λ i. get_or l i 0)) (sym h) ∙ tab_all l

-- the two codes of a word of two operations
high_code : (ops : List ℕ) → TenWords ops → (h l : ℕ) → h ≤ 9 → op_code ops (high (joined ops h l)) ≡ h
high_code ops t h l k = ap (op_code ops) (joined_high ops t h l) ∙ code_of_word ops t h k

low_code : (ops : List ℕ) → TenWords ops → (h l : ℕ) → l ≤ 9 → op_code ops (low (joined ops h l)) ≡ l
low_code ops t h l k = ap (op_code ops) (joined_low ops t h l) ∙ code_of_word ops t l k

-- (0, final) is final
pub final_word : (x : ℕ) → word_of 0 x ≡ x
final_word x = omega arith

codes_of_words : (b : List ℕ) → length b ≡ 11 → codes_accepted b ≡ true → codes_of (words_of b) ≡ b
unfolding codes_of words_of tab
codes_of_words b k ok =
    let c : (i : ℕ) → get_or b i 0 ≤ 9 = code_at b ok in
    let g : (i : ℕ) → ℕ = λ i. get_or b i 0 in
    ap₂ ◌∷◌ (low_code pair_ops pairs (g 1) (g 0) (c 0))
    (ap₂ ◌∷◌ (high_code pair_ops pairs (g 1) (g 0) (c 1))
    (ap₂ ◌∷◌ (low_code pair_ops pairs (g 3) (g 2) (c 2))
    (ap₂ ◌∷◌ (high_code pair_ops pairs (g 3) (g 2) (c 3))
    (ap₂ ◌∷◌ (low_code pair_ops pairs (g 5) (g 4) (c 4))
    (ap₂ ◌∷◌ (high_code pair_ops pairs (g 5) (g 4) (c 5))
    (ap₂ ◌∷◌ (low_code pair_ops pairs (g 7) (g 6) (c 6))
    (ap₂ ◌∷◌ (high_code pair_ops pairs (g 7) (g 6) (c 7))
    (ap₂ ◌∷◌ (low_code mid_ops mids (g 9) (g 8) (c 8))
    (ap₂ ◌∷◌ (high_code mid_ops mids (g 9) (g 8) (c 9))
    (ap₂ ◌∷◌ (ap (op_code final_ops) (final_word (op_word final_ops (g 10))) ∙ code_of_word final_ops finals (g 10) (c 10))
    refl))))))))))
    ∙ elements b 11 k

words_of_codes : (w : List ℕ) → length w ≡ 6 → codes_accepted (codes_of w) ≡ true → words_of (codes_of w) ≡ w
unfolding codes_of words_of tab
words_of_codes w k ok =
    let c : (i : ℕ) → get_or (codes_of w) i 0 ≤ 9 = code_at (codes_of w) ok in
    ap₂ ◌∷◌ (final_word _ ∙ word_of_code final_ops (get_or w 0 0) (omega (arith, c 10)))
    (ap₂ ◌∷◌ (joined_codes mid_ops mids (get_or w 1 0) (c 9) (c 8))
    (ap₂ ◌∷◌ (joined_codes pair_ops pairs (get_or w 2 0) (c 7) (c 6))
    (ap₂ ◌∷◌ (joined_codes pair_ops pairs (get_or w 3 0) (c 5) (c 4))
    (ap₂ ◌∷◌ (joined_codes pair_ops pairs (get_or w 4 0) (c 3) (c 2))
    (ap₂ ◌∷◌ (joined_codes pair_ops pairs (get_or w 5 0) (c 1) (c 0))
    refl)))))
    ∙ elements w 6 k

pub words_length : (b : List ℕ) → length (words_of b) ≡ 6
unfolding words_of
words_length b = refl

-- the codes of words that accepted codes write
read_known : (w b : List ℕ) → WrittenBy w b → (known w ≡ true) × (codes_of w ≡ b)
read_known w b h =
    let e : codes_of w ≡ b = ap codes_of h.written ∙ codes_of_words b h.eleven h.accepted in
    let n : length w ≡ 6 = ap length h.written ∙ words_length b in
    (ap₂ ◌&&◌ (eq-eqb (length w) 6 n) (ap codes_accepted e ∙ h.accepted), e)

pub read_written : (w b : List ℕ) → WrittenBy w b → read_sum w ≡ Some b
read_written w b h = let k = read_known w b h in rw (k.0, k.1)

-- what the answer says is so
pub read_means : (w : List ℕ) → ReadMeans w (read_sum w)
unfolding codes_of
read_means w = go (known w) refl
  where
    go : (b : Bool) → known w ≡ b → ReadMeans w (cond b (Some (codes_of w)) None)
    go true e =
        let g = both_true (eqb (length w) 6) (codes_accepted (codes_of w)) e in
        record { eleven = refl; accepted = g.1; written = sym (words_of_codes w (eqb-true (length w) 6 g.0) g.1) }
    go false e = λ b h. true≢false (sym (read_known w b h).0 ∙ e)

-- and an answer that says so has these numbers
pub read_numbered : (w : List ℕ) (r : Option (List ℕ)) → ReadMeans w r → ReadNumbered Accepted words_of w (read_number r) (read_place r)
read_numbered w (Some ops) says =
    numbered_read Accepted words_of w (ops, (record { eleven = says.eleven; codes = says.accepted }, says.written))
read_numbered w None none =
    numbered_refused Accepted words_of w (λ x. none x.0 (record { eleven = x.1.0.eleven; accepted = x.1.0.codes; written = x.1.1 }))

-- as the code meets it
pub read_meets : (w : List ℕ) (r : Option (List ℕ)) → r ≡ read_sum w
    → record { value : r ≡ read_sum w; meaning : ReadMeans w r; read_numbered : ReadNumbered Accepted words_of w (read_number r) (read_place r) }
read_meets w r e =
    let says : ReadMeans w r = rw e (read_means w) in record { value = e; meaning = says; read_numbered = read_numbered w r says }
