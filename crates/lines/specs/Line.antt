-- The lines of a sample: a number's binary digits are the values of the 32 lines.
use Rattle.std.specs.Prelude.{ℕ, zero, suc, ◌+◌, ◌-◌, ◌*◌, ◌/◌, ◌%◌, ◌^◌, Bool, true, false, ◌&&◌, ◌||◌}

-- the value of line i, 0 or 1 [B1]
abbrev pub line : ℕ → ℕ → ℕ
line x i = x / 2 ^ i % 2

-- by a line's value: 0 gives the first, 1 the second [B1]
abbrev pub choose : ℕ → ℕ → ℕ → ℕ
choose zero a b = a
choose (suc d) a b = b

-- the answers of a test at the lines k - 1 to 0, joined [B1]
unfoldable pub over_lines : (Bool → Bool → Bool) → Bool → ℕ → (ℕ → Bool) → Bool
over_lines join none zero p = none
over_lines join none (suc i) p = join (p i) (over_lines join none i p)

-- the test holds at one or more of the lowest k lines [B1]
abbrev pub any_line : ℕ → (ℕ → Bool) → Bool
any_line = over_lines ◌||◌ false

-- the test holds at all of the lowest k lines [B1]
abbrev pub every_line : ℕ → (ℕ → Bool) → Bool
every_line = over_lines ◌&&◌ true

-- the sample with line i turned over and every other line as it was [G11]
unfoldable pub flip_line : ℕ → ℕ → ℕ
flip_line zero sample = sample / 2 * 2 + (1 - sample % 2)
flip_line (suc i) sample = flip_line i (sample / 2) * 2 + sample % 2

-- the number whose n lowest lines have the given values [B1]
unfoldable pub from_lines : ℕ → (ℕ → ℕ) → ℕ
from_lines zero f = 0
from_lines (suc n) f = from_lines n (λ i. f (suc i)) * 2 + f 0
