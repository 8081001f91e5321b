-- The least sample that tells two patterns apart, as it is computed.
-- A procedure, not a meaning: nothing here has to be believed. What it answers is pinned by lut's `Says` and `Least`:
-- telling_says and telling_least in proofs/Theorems [D3.6, D3.7].
use Rattle.std.specs.Prelude.{cond, ℕ, ◌+◌, ◌^◌, min, eqb}
use Rattle.std.specs.Int.Bits.{bit_and, bit_xor}
use Rattle.std.specs.Int.Count.{count_trailing_zeros}
use Rattle.lut.specs.declared.Telling.{Telling}
use Rattle.lut.specs.declared.Telling.TheVariants.{Alike, Apart}
use Rattle.lut.specs.declared.Input.TheVariants.{Sample}

-- computed: the lowest line set in a number of 32 lines, as a number [B6, N9]
abbrev pub lowest_line : ℕ → ℕ
lowest_line x = 2 ^ count_trailing_zeros 32 x

-- computed by the targets cut to the masks: where they differ, the lesser; where only the masks differ, the target with
-- the lowest line that just one mask has. What it means is Says and Least, theorems telling-says and telling-least
-- [B6, N6, N9, N10]
unfoldable pub term_telling : (target₁ mask₁ target₂ mask₂ : ℕ) → Telling
term_telling t₁ m₁ t₂ m₂ =
    cond (eqb (bit_and t₁ m₁) (bit_and t₂ m₂))
    (cond (eqb m₁ m₂) Alike (Apart (Sample (bit_and t₁ m₁ + lowest_line (bit_xor m₁ m₂)))))
    (Apart (Sample (min (bit_and t₁ m₁) (bit_and t₂ m₂))))
