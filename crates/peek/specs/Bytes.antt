-- Bytes, and the numbers that they make.
use Rattle.std.specs.Prelude.{ℕ, zero, suc, ◌+◌, ◌*◌, ◌/◌, ◌%◌, ◌<◌, List, [], ◌∷◌, get_or}

-- a list of bytes: each number is below 256, and past the end 0 [B2, B4]
abbrev pub Bytes : List ℕ → Type 0
Bytes s = (i : ℕ) → get_or s i 0 < 256

-- the number of the four bytes from an offset on, least byte first; past the end 0 [B3, B4]
unfoldable pub u32_at : List ℕ → ℕ → ℕ
u32_at s at = get_or s at 0 + get_or s (at + 1) 0 * 256 + get_or s (at + 2) 0 * 65536 + get_or s (at + 3) 0 * 16777216

-- a number as four bytes, least byte first [B3]
abbrev pub u32_bytes : ℕ → List ℕ
u32_bytes n = n % 256 ∷ n / 256 % 256 ∷ n / 65536 % 256 ∷ n / 16777216 % 256 ∷ []

-- n bytes from an offset on; past the end 0 [B4]
abbrev pub bytes_from : (n at : ℕ) (s : List ℕ) → List ℕ
bytes_from zero at s = []
bytes_from (suc n) at s = get_or s at 0 ∷ bytes_from n (at + 1) s
