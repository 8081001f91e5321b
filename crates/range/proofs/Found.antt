-- The lines of a chain that have a table, from the highest down. Assumes nothing.
use Rattle.std.proofs.Common.{◌≡◌, ℕ, suc, ◌+◌, ◌-◌, ◌*◌, ◌^◌, ◌<◌, ◌≤◌, eqb, List, sym, refl, ap, ◌∙◌, ap₂, add-zero, lt_of_lt_of_le, arith, pow_mono}
use Rattle.lines.specs.Line.{from_lines}
use Rattle.lines.proofs.Digit.{lines_next, lines_equal, from_lines_lt}
use Rattle.lut.specs.Table.{one_if}
use Rattle.lut.proofs.Tables.{one_lt}
use Rattle.range.specs.Model.{table_at}
use Rattle.range.specs.Back.{lines_with}

module _ (table : ℕ) (chain : List ℕ) where
  -- 1 where line i has the table
  abbrev pub bit : (i : ℕ) → ℕ
  bit i = one_if (eqb (table_at chain i) table)

  -- the number of the lines from line i up
  unfoldable pub above : (i : ℕ) → ℕ
  above i = from_lines (32 - i) (λ j. bit (j + i))

  pub above_none : above 32 ≡ 0
  unfolding above from_lines
  above_none = refl

  -- what is found from line i up, in a loop that goes down: there is room for one line more, and then it is the one below
  module _ (i found : ℕ) (e : found ≡ above i) where
    pub found_fits : 0 < i → i ≤ 32 → found < 2 ^ 31
    unfolding above
    found_fits h l =
        rw e (lt_of_lt_of_le (from_lines_lt (32 - i) (λ j. bit (j + i)) (λ j. one_lt (eqb (table_at chain (j + i)) table)))
        (pow_mono {i = 32 - i} {j = 31} (omega arith)))

    pub found_more : (b : ℕ) → 0 < i → i ≤ 32 → b ≡ bit (i - 1) → found * 2 + b ≡ above (i - 1)
    unfolding above
    found_more b h l eb =
        let next : suc (i - 1) ≡ i = omega arith in
        sym (lines_next 32 (i - 1) bit (omega arith) ∙ ap₂ (λ (x y : ℕ). x * 2 + y) (ap above next ∙ sym e) (sym eb))

    pub found_all : i ≡ 0 → found ≡ lines_with table chain
    unfolding above lines_with
    found_all z = e ∙ ap above z ∙ lines_equal 32 (λ j. bit (j + 0)) bit (λ j h. ap bit (add-zero j))
