-- Run over the words of a description, the model hits exactly when the plain rule does: one table is `pair_law`, and this lifts it over the
-- sixteen tables by induction on the words. It holds for any numbers, since both sides look at 32 lines only. Assumes nothing.
use Prim.Native.Nat.{ℕ, zero, suc, ◌+◌, ◌*◌}
use mathlib.Core.Path.{◌≡◌, refl, ap, ap₂, ◌∙◌}
use mathlib.Core.Bool.{Bool, ◌||◌, or_assoc}
use native.Mathlib.Omega.{arith}
use Rattle.lines.specs.Line.{line, over_lines, any_line}
use Rattle.lut.specs.Table.{down}
use Rattle.lut.proofs.Halves.{high_half, low_half}
use Rattle.lut.proofs.Down.{length_down}
use Rattle.edge.specs.Rule.{line_hit, lines_hit, edge_hit}
use Rattle.edge.specs.Words.{pair_table, word_at, edge_words}
use Rattle.edge.specs.Model.{table_hit, word_hit, words_hit}
use Rattle.edge.proofs.Pair.{pair_law, pair_lt}

regroup : (a b c d z : Bool) → ((a || b) || (c || d)) || z ≡ a || (b || (c || (d || z)))
regroup a b c d z = simp or_assoc

-- the four lines of a word by their two tables, and the lines below them
four_lines : (p : ℕ → Bool) (k : ℕ)
    → ((p (2 * (2 * k + 1) + 1) || p (2 * (2 * k + 1))) || (p (2 * (2 * k) + 1) || p (2 * (2 * k)))) || any_line (4 * k) p ≡ any_line (4 * suc k) p
unfolding over_lines
four_lines p k =
    let a : 2 * (2 * k + 1) + 1 ≡ suc (suc (suc (4 * k))) = omega arith in
    let b : 2 * (2 * k + 1) ≡ suc (suc (4 * k)) = omega arith in
    let c : 2 * (2 * k) + 1 ≡ suc (4 * k) = omega arith in
    let d : 2 * (2 * k) ≡ 4 * k = omega arith in
    let all : suc (suc (suc (suc (4 * k)))) ≡ 4 * suc k = omega arith in
    ap₂ (λ (x y : Bool). (x || y) || any_line (4 * k) p) (ap₂ (λ (x y : ℕ). p x || p y) a b) (ap₂ (λ (x y : ℕ). p x || p y) c d)
    ∙ regroup (p (suc (suc (suc (4 * k))))) (p (suc (suc (4 * k)))) (p (suc (4 * k))) (p (4 * k)) (any_line (4 * k) p)
    ∙ ap (λ (m : ℕ). any_line m p) all

module _ (r f n e l : ℕ) where
  -- line i has an asked-for event
  at : ℕ → Bool
  at i = line_hit (line r i) (line f i) (line n i) (line e i) (line l i)

  word_law : (k : ℕ)
      → word_hit k (word_at r f n k) e l ≡ (at (2 * (2 * k + 1) + 1) || at (2 * (2 * k + 1))) || (at (2 * (2 * k) + 1) || at (2 * (2 * k)))
  unfolding at
  word_law k =
      let upper = pair_table (2 * k + 1) r f n in
      let lower = pair_table (2 * k) r f n in
      ap₂ (λ (a b : ℕ). table_hit (2 * k + 1) a e l || table_hit (2 * k) b e l)
      (high_half upper lower (pair_lt (2 * k) r f n)) (low_half upper lower (pair_lt (2 * k) r f n))
      ∙ ap₂ ◌||◌ (pair_law (2 * k + 1) r f n e l) (pair_law (2 * k) r f n e l)

  words_law : (k : ℕ) → words_hit (down (word_at r f n) k) e l ≡ lines_hit (4 * k) r f n e l
  unfolding words_hit down over_lines at
  words_law zero = refl
  words_law (suc k) =
      ap₂ (λ (m : ℕ) (b : Bool). word_hit m (word_at r f n k) e l || b) (length_down (word_at r f n) k) (words_law k)
      ∙ ap (λ (b : Bool). b || lines_hit (4 * k) r f n e l) (word_law k)
      ∙ four_lines at k

pub model_law : (rise fall neither earlier later : ℕ)
    → words_hit (edge_words rise fall neither) earlier later ≡ edge_hit rise fall neither earlier later
model_law r f n e l = words_law r f n e l 8
