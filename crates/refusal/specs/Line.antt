-- The line that tells people of a refusal.
use Rattle.std.specs.Prelude.{ℕ, zero, suc, ◌+◌, ◌/◌, ◌%◌, cond, List, [], ◌∷◌, ◌++◌, ltb}
use Rattle.refusal.specs.Words.{ascii, meaning_of}

-- the decimal digits of a number below 10^k, the last one last and none in front without need: '0' is 48 [A11]
unfoldable pub digits_within : (k n : ℕ) → List ℕ
digits_within zero n = []
digits_within (suc k) n = cond (ltb n 10) [] (digits_within k (n / 10)) ++ ((48 + n % 10) ∷ [])

-- a number in decimal; no number of 64 bits has more than 20 digits [A11]
unfoldable pub decimal : ℕ → List ℕ
decimal n = digits_within 20 n

-- a refusal in words: number, place and meaning [A11]
unfoldable pub refusal_text : (number place : ℕ) → List ℕ
refusal_text number place =
    ascii "refused " ++ decimal number ++ ascii " at " ++ decimal place ++ ascii ": " ++ meaning_of number

-- a line on a file: its name, what is said of it, what stands there, a line feed [A11]
unfoldable pub line_on : (file words there : List ℕ) → List ℕ
line_on file words there = file ++ ascii ": " ++ words ++ ascii "; " ++ there ++ (10 ∷ [])

-- the line of a refusal [A11]
abbrev pub refusal_line : (file : List ℕ) (number place : ℕ) (there : List ℕ) → List ℕ
refusal_line file number place there = line_on file (refusal_text number place) there
