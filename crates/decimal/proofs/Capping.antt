-- A number that is capped at each digit is the number capped. Assumes nothing.
use Prim.Native.Nat.{ℕ, suc, ◌+◌, ◌-◌, ◌*◌, ◌≤◌, ◌<◌, min}
use mathlib.Core.List.{List, [], ◌∷◌}
use mathlib.Core.Path.{◌≡◌, sym, ap, ◌∙◌}
use native.Mathlib.Decide.{dec_le}
use native.Mathlib.Nat.{min-eq_left, min-eq_right}
use native.Mathlib.Numerals.{add-one}
use native.Mathlib.Omega.{arith}
use lib.ListN.{length, get_or, drop, drop_of_length-le}
use lib.Seq.{drop-cons}
use Rattle.records.specs.Sections.{sections}
use Rattle.decimal.specs.Decimal.{decimal_from}

grows : (n : ℕ) (ds : List ℕ) → n ≤ decimal_from n ds
unfolding decimal_from
grows n [] = omega arith
grows n (d ∷ ds) = omega (arith, grows (10 * n + (d - 48)) ds)

capped_first : (most n : ℕ) (ds : List ℕ) → min (decimal_from (min n most) ds) most ≡ min (decimal_from n ds) most
capped_first most n ds =
    elim (dec_le n most) [
      | yes few ↦ ap (λ (m : ℕ). min (decimal_from m ds) most) (min-eq_left few)
      | no many ↦
          ap (λ (m : ℕ). min (decimal_from m ds) most) (min-eq_right (omega arith))
          ∙ min-eq_right (grows most ds)
          ∙ sym (min-eq_right (omega (arith, grows n ds)))
    ]

module _ (word : List ℕ) (number i : ℕ) where
  pub one_digit_more : i < length word
      → min (decimal_from number (drop i word)) sections
      ≡ min (decimal_from (min (10 * number + (get_or word i 0 - 48)) sections) (drop (i + 1) word)) sections
  unfolding decimal_from
  one_digit_more h =
      rw (add-one i, drop-cons word i 0 h) (sym (capped_first sections (10 * number + (get_or word i 0 - 48)) (drop (suc i) word)))

  pub no_digit_left : length word ≤ i → number ≤ sections → min (decimal_from number (drop i word)) sections ≡ number
  unfolding decimal_from
  no_digit_left h few = rw (drop_of_length-le word h) (min-eq_left few)
