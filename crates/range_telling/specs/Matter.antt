-- The lines of a range that cannot matter, by what that means, and the words without them. *Cannot matter* and
-- *dropped* are the buyer's terms.
use Rattle.std.specs.Prelude.{◌≡◌, List, ℕ, ◌^◌, ◌<◌, length}
use Rattle.lines.specs.Line.{flip_line}
use Rattle.range.specs.declared.Range.{Range}
use Rattle.range.specs.Rule.{hit_of}
use Rattle.range.specs.Words.{words_of}
use Rattle.range.specs.Model.{lower_table, upper_table}

-- for every sample, turning this one line over leaves the answer as it is [G11]
abbrev pub CannotMatter : (r : Range) (i : ℕ) → Type 0
CannotMatter r i = (sample : ℕ) → sample < 2 ^ 32 → hit_of r (flip_line i sample) ≡ hit_of r sample

-- 32 words: 0xFFFF in both chains for each line that cannot matter, the range's own tables for the others [G12, D3.4]
pub record DroppedWords (r : Range) (words : List ℕ) : Type 0 where
  pub count : length words ≡ 32
  pub dropped : (i : ℕ) → i < 32 → CannotMatter r i → (lower_table words i ≡ 0xFFFF) × (upper_table words i ≡ 0xFFFF)
  pub kept : (i : ℕ) → i < 32 → (CannotMatter r i → ⊥)
      → (lower_table words i ≡ lower_table (words_of r) i) × (upper_table words i ≡ upper_table (words_of r) i)
