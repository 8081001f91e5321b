-- The words of a description one by one, and the model's walk over words: what the loops need. Assumes nothing.
use Prim.Native.Nat.{ℕ, suc, ◌+◌, ◌-◌, ◌*◌, ◌/◌, ◌%◌, ◌^◌, ◌≤◌, ◌<◌}
use mathlib.Core.Path.{◌≡◌, refl, sym, ap, ap₂, ◌∙◌}
use mathlib.Core.Bool.{Bool, true, false, ◌||◌}
use mathlib.Core.List.{List}
use native.Mathlib.Numerals.{add-one}
use native.Mathlib.Decide.{ℕ_discrete}
use native.Mathlib.Omega.{arith}
use lib.Bits.{bit_or, or_mod}
use lib.Dec.{eqb, lit<}
use lib.ListN.{length, get_or, drop, length-drop, drop_of_length-le}
use lib.Seq.{drop-cons}
use Rattle.lut.specs.Table.{answer_at, high, low, one_if}
use Rattle.lut.proofs.Halves.{word_lt}
use Rattle.lut.proofs.Down.{length_down, down_lt}
use Rattle.edge.specs.Words.{pair_table, word_at, edge_words}
use Rattle.edge.specs.Model.{word_hit, words_hit}
use Rattle.edge.proofs.Pair.{pair_lt}

-- an edge has eight words
pub words_length : (r f n : ℕ) → length (edge_words r f n) ≡ 8
words_length r f n = length_down (word_at r f n) 8

-- each word has 32 bits
pub words_lt : (r f n i : ℕ) → get_or (edge_words r f n) i 0 < 4294967296
words_lt r f n = down_lt (word_at r f n) 4294967296 (lit< tt) (λ k.
    word_lt (pair_table (2 * k + 1) r f n) (pair_table (2 * k) r f n) (pair_lt (2 * k + 1) r f n) (pair_lt (2 * k) r f n)) 8

-- the model's first word, and the rest
hit_step : (ws : List ℕ) (e l i k : ℕ) → i < length ws → k ≡ length ws - suc i
    → words_hit (drop i ws) e l ≡ word_hit k (get_or ws i 0) e l || words_hit (drop (i + 1) ws) e l
unfolding words_hit
hit_step ws e l i k h hk =
    let q : k ≡ length (drop (suc i) ws) = hk ∙ sym (length-drop (suc i) ws) in
    rw (drop-cons ws i 0 h, add-one i, q)

-- what the words before i say, and what is left says
abbrev pub Asked : (ws : List ℕ) (e l i : ℕ) (hit : Bool) → Type 0
Asked ws e l i hit = words_hit ws e l ≡ hit || words_hit (drop i ws) e l

ask_next : (ws : List ℕ) (e l i : ℕ) (hit here : Bool) → length ws ≡ 8 → i < 8 → Asked ws e l i hit
    → here ≡ word_hit (7 - i) (get_or ws i 0) e l → Asked ws e l (i + 1) (hit || here)
ask_next ws e l i true here len h asked at = asked
ask_next ws e l i false here len h asked at =
    asked ∙ hit_step ws e l i (7 - i) (omega arith) (omega arith) ∙ ap (λ (b : Bool). b || words_hit (drop (i + 1) ws) e l) (sym at)

-- what a number's lowest bit says
bit_says : (x : ℕ) → x % 2 ≡ one_if (eqb (x % 2) 1)
bit_says x =
    elim (ℕ_discrete (x % 2) 1) [
      | yes e ↦ rw e
      | no n ↦ let z : x % 2 ≡ 0 = omega arith in rw z
    ]

says_bit : (b : Bool) → eqb (one_if b) 1 ≡ b
says_bit true = refl
says_bit false = refl

or_bit : (a b : ℕ) (p q : Bool) → a % 2 ≡ one_if p → b % 2 ≡ one_if q → bit_or a b % 2 ≡ one_if (p || q)
or_bit a b p q ea eb = or_mod a b 1 ∙ ap₂ bit_or ea eb ∙ either p q
  where
    either : (p q : Bool) → bit_or (one_if p) (one_if q) ≡ one_if (p || q)
    either true true = refl
    either true false = refl
    either false true = refl
    either false false = refl

pub word_bit : (w u l : ℕ) → bit_or (w / 65536 / 2 ^ (u % 16)) (w % 65536 / 2 ^ (l % 16)) % 2
    ≡ one_if (eqb (answer_at (high w) (u % 16)) 1 || eqb (answer_at (low w) (l % 16)) 1)
word_bit w u l =
    let above = w / 65536 / 2 ^ (u % 16) in
    let below = w % 65536 / 2 ^ (l % 16) in
    or_bit above below (eqb (above % 2) 1) (eqb (below % 2) 1) (bit_says above) (bit_says below)

pub ask_next_bit : (ws : List ℕ) (e l i any here : ℕ) (hit : Bool) → length ws ≡ 8 → i < 8 → Asked ws e l i (eqb (any % 2) 1)
    → here % 2 ≡ one_if hit → hit ≡ word_hit (7 - i) (get_or ws i 0) e l → Asked ws e l (i + 1) (eqb (bit_or any here % 2) 1)
ask_next_bit ws e l i any here hit len h asked bit at =
    let more = or_bit any here (eqb (any % 2) 1) hit (bit_says any) bit in
    let both : eqb (any % 2) 1 || hit ≡ eqb (bit_or any here % 2) 1 = sym (ap (λ (x : ℕ). eqb x 1) more ∙ says_bit (eqb (any % 2) 1 || hit)) in
    ask_next ws e l i (eqb (any % 2) 1) hit len h asked at ∙ ap (λ (b : Bool). b || words_hit (drop (i + 1) ws) e l) both

-- past the last word nothing hits
walk_end : (ws : List ℕ) (e l i : ℕ) → length ws ≤ i → words_hit (drop i ws) e l ≡ false
unfolding words_hit
walk_end ws e l i h = rw (drop_of_length-le ws h)

pub ask_end : (ws : List ℕ) (e l i : ℕ) (hit : Bool) → length ws ≡ 8 → 8 ≤ i → Asked ws e l i hit → words_hit ws e l ≡ hit
ask_end ws e l i true len h asked = asked
ask_end ws e l i false len h asked = asked ∙ walk_end ws e l i (omega arith)
