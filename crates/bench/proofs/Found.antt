-- The sources of a sample as they are found, from the highest down. Assumes nothing.
use Prim.Native.Nat.{ℕ, zero, suc, ◌+◌, ◌-◌, ◌*◌, ◌≤◌, ◌<◌}
use mathlib.Core.Path.{◌≡◌, refl, sym, ap, ap₂, ◌∙◌}
use mathlib.Core.Bool.{Bool, true, false, cond}
use mathlib.Core.List.{List}
use native.Mathlib.Nat.{add-zero}
use native.Mathlib.Omega.{arith}
use borrow.Author.Tests.{lt-ltb}
use lib.Dec.{ltb}
use lib.Pow.{pow_mono}
use Rattle.lines.specs.Line.{from_lines}
use Rattle.lines.proofs.Digit.{lines_equal, lines_next, from_lines_lt}
use Rattle.lut.specs.Table.{one_if}
use Rattle.lut.proofs.Tables.{one_lt}
use Rattle.programme.specs.Machine.{sources_by}
use Rattle.programme.specs.Table.{term_at, range_at, edge_at, plain}
use Rattle.bench.specs.Asking.{source_at, sources_from}

either_lt : (b : Bool) (x y : ℕ) → x < 2 → y < 2 → cond b x y < 2
either_lt true x y hx hy = hx
either_lt false x y hx hy = hy

module _ (t : List ℕ) (e s : ℕ) where
  source_lt : (i : ℕ) → source_at t e s i < 2
  unfolding source_at
  source_lt i =
      either_lt (ltb i 10) _ _ (one_lt (term_at t s i))
      (either_lt (ltb i 12) _ _ (one_lt (range_at t s (i - 10))) (either_lt (ltb i 14) _ _ (one_lt (edge_at t e s (i - 12))) (omega arith)))

  -- the ranges and edges; the two timers above them are 0
  pub upper_found : sources_from t e s 10
      ≡ (((0 * 2 + one_if (edge_at t e s 1)) * 2 + one_if (edge_at t e s 0)) * 2 + one_if (range_at t s 1)) * 2 + one_if (range_at t s 0)
  unfolding from_lines source_at
  upper_found = refl

  -- one term more
  pub term_found : (i found more : ℕ) → 0 < i → i ≤ 10 → found ≡ sources_from t e s i → more ≡ found * 2 + one_if (term_at t s (i - 1))
      → more ≡ sources_from t e s (i - 1)
  unfolding source_at
  term_found zero found more h l f m = absurd (omega arith)
  term_found (suc i) found more h l f m =
      let down : suc i - 1 ≡ i = omega arith in
      let term : source_at t e s i ≡ one_if (term_at t s i) = simp (lt-ltb i 10 (omega arith)) in
      rw down
      (m ∙ ap₂ (λ (x k : ℕ). x * 2 + one_if (term_at t s k)) f down
      ∙ sym (lines_next 16 i (source_at t e s) (omega arith) ∙ ap (λ (x : ℕ). sources_from t e s (suc i) * 2 + x) term))

  -- they fit in sixteen bits
  pub found_lt : (i found : ℕ) → found ≡ sources_from t e s i → found < 65536
  found_lt i found f =
      let l = from_lines_lt (16 - i) (λ j. source_at t e s (j + i)) (λ j. source_lt (j + i)) in
      omega (arith, pow_mono {i = 16 - i} {j = 16} (omega arith))

  -- all sixteen
  pub all_found : (i found : ℕ) → i ≤ 0 → found ≡ sources_from t e s i → found ≡ (plain t).sources e s
  unfolding plain sources_by source_at
  all_found zero found h f = f ∙ lines_equal 16 (λ j. source_at t e s (j + 0)) (source_at t e s) (λ j l. ap (source_at t e s) (add-zero j))
  all_found (suc i) found h f = absurd (omega arith)
