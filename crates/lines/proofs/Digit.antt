-- A line is a binary digit: the laws of one line, and of a number made from its lines. Assumes nothing.
use mathlib.Core.Path.{◌≡◌, refl, sym, ap, ap₂, ◌∙◌}
use Prim.Native.Nat.{ℕ, zero, suc, ◌+◌, ◌-◌, ◌*◌, ◌/◌, ◌%◌, ◌^◌, ◌<◌}
use native.Mathlib.Nat.{one-mul, mod-lt, two-pow-succ, zero-lt-suc, div-one, add_comm, zero-add}
use native.Mathlib.Numerals.{add-one, one-add}
use native.Mathlib.Omega.{arith}
use lib.Bits.{bit_and, bit_or, bit_xor, and_shr, or_shr, xor_shr, and_mod, or_mod, xor_mod}
use lib.Dec.{lit<}
use lib.Pow.{shl_exact, shr-shr, field, mod-mod-pow}
use Rattle.lines.specs.Line.{line, from_lines}

pub bit_lt : (x : ℕ) → x % 2 < 2
bit_lt x = mod-lt x (zero-lt-suc 1)

-- the lines from line i up: what is left when line i is taken is the lines from i + 1 up
pub next_lines : (x i : ℕ) → x / 2 ^ i / 2 ≡ x / 2 ^ suc i
next_lines x i = shr-shr x i 1 ∙ ap (λ (j : ℕ). x / 2 ^ j) (add-one i)

-- the lines of half a sample are the sample's, one line down
pub half_lines : (x i : ℕ) → x / 2 / 2 ^ i ≡ x / 2 ^ suc i
half_lines x i = shr-shr x 1 i ∙ ap (λ (j : ℕ). x / 2 ^ j) (one-add i)

pub line_half : (x i : ℕ) → line x (suc i) ≡ line (x / 2) i
line_half x i = ap (λ (q : ℕ). q % 2) (sym (half_lines x i))

pub line_zero : (x : ℕ) → line x 0 ≡ x % 2
line_zero x = ap (λ (q : ℕ). q % 2) (div-one x)

-- line j + m of a sample is line j of the sample shifted down by m
pub line_up : (x j m : ℕ) → line x (j + m) ≡ line (x / 2 ^ m) j
line_up x j m = ap (λ (i : ℕ). x / 2 ^ i % 2) (add_comm j m) ∙ ap (λ (y : ℕ). y % 2) (sym (shr-shr x m j))

-- a number cut to its lowest n + 1 lines: its lowest line, and the others
pub cut_lowest : (n x : ℕ) → x % 2 ^ suc n % 2 ≡ x % 2
cut_lowest n x = ap (λ (j : ℕ). x % 2 ^ j % 2) (sym (add-one n)) ∙ mod-mod-pow x n 1

pub cut_others : (n x : ℕ) → x % 2 ^ suc n / 2 ≡ x / 2 % 2 ^ n
cut_others n x = ap (λ (j : ℕ). x % 2 ^ j / 2) (sym (add-one n)) ∙ field x n 1

-- a number cut to its lowest n lines keeps each of them
pub line_mod : (x n i : ℕ) → i < n → line (x % 2 ^ n) i ≡ line x i
line_mod x n i h =
    let above : n ≡ n - suc i + 1 + i = omega arith in
    ap (λ (k : ℕ). line (x % 2 ^ k) i) above
    ∙ ap (λ (q : ℕ). q % 2) (field x (n - suc i + 1) i)
    ∙ mod-mod-pow (x / 2 ^ i) (n - suc i) 1

-- a line of the AND, of the OR and of the XOR of two numbers: a formula of whole numbers holds line by line
pub line_and : (a b i : ℕ) → line (bit_and a b) i ≡ bit_and (line a i) (line b i)
line_and a b i = ap (λ (x : ℕ). x % 2) (and_shr a b i) ∙ and_mod (a / 2 ^ i) (b / 2 ^ i) 1

pub line_or : (a b i : ℕ) → line (bit_or a b) i ≡ bit_or (line a i) (line b i)
line_or a b i = ap (λ (x : ℕ). x % 2) (or_shr a b i) ∙ or_mod (a / 2 ^ i) (b / 2 ^ i) 1

pub line_xor : (a b i : ℕ) → line (bit_xor a b) i ≡ bit_xor (line a i) (line b i)
line_xor a b i = ap (λ (x : ℕ). x % 2) (xor_shr a b i) ∙ xor_mod (a / 2 ^ i) (b / 2 ^ i) 1

-- 1 << i in a word of w bits
pub shifted_one : (i w : ℕ) → i < w → 1 * 2 ^ i % 2 ^ w ≡ 2 ^ i
shifted_one i w h = shl_exact 1 i w (lit< tt) (omega arith) ∙ one-mul (2 ^ i)

-- a bit on line i, in a word of 32 bits
pub bit_shifted : (x i : ℕ) → i < 32 → x % 2 * 2 ^ i % 4294967296 ≡ x % 2 * 2 ^ i
bit_shifted x i h = shl_exact 1 i 32 (bit_lt x) (omega arith)

-- the number with the given lines
pub from_lines_law : (n x : ℕ) (f : ℕ → ℕ) → ((i : ℕ) → i < n → f i ≡ line x i) → x < 2 ^ n → from_lines n f ≡ x
unfolding from_lines
from_lines_law zero x f h l = omega arith
from_lines_law (suc n) x f h l =
    let rest = from_lines_law n (x / 2) (λ i. f (suc i)) (λ i k. h (suc i) (omega arith) ∙ line_half x i) (omega (arith, two-pow-succ n)) in
    let bit = h 0 (omega arith) ∙ line_zero x in
    omega arith

-- two numbers with the same lines are the same
pub lines_same : (n x y : ℕ) → x < 2 ^ n → y < 2 ^ n → ((i : ℕ) → i < n → line x i ≡ line y i) → x ≡ y
lines_same n x y hx hy h = sym (from_lines_law n x (line x) (λ i l. refl) hx) ∙ from_lines_law n y (line x) h hy

-- lines of the same values make the same number
pub lines_equal : (n : ℕ) (f g : ℕ → ℕ) → ((i : ℕ) → i < n → f i ≡ g i) → from_lines n f ≡ from_lines n g
unfolding from_lines
lines_equal zero f g h = refl
lines_equal (suc n) f g h =
    ap₂ (λ (x y : ℕ). x * 2 + y) (lines_equal n (λ i. f (suc i)) (λ i. g (suc i)) (λ i k. h (suc i) (omega arith))) (h 0 (omega arith))

-- the lines from line i up are line i and the lines from i + 1 up
pub lines_next : (n i : ℕ) (f : ℕ → ℕ) → i < n
    → from_lines (n - i) (λ j. f (j + i)) ≡ from_lines (n - suc i) (λ j. f (j + suc i)) * 2 + f i
unfolding from_lines
lines_next n i f h =
    let more : n - i ≡ suc (n - suc i) = omega arith in
    ap (λ (m : ℕ). from_lines m (λ j. f (j + i))) more
    ∙ ap₂ (λ (x y : ℕ). x * 2 + y) (lines_equal (n - suc i) (λ j. f (suc j + i)) (λ j. f (j + suc i)) (λ j k. ap f (omega arith))) (ap f (zero-add i))

-- n lines make a number of n bits
pub from_lines_lt : (n : ℕ) (f : ℕ → ℕ) → ((i : ℕ) → f i < 2) → from_lines n f < 2 ^ n
unfolding from_lines
from_lines_lt zero f h = omega arith
from_lines_lt (suc n) f h =
    let ih = from_lines_lt n (λ i. f (suc i)) (λ i. h (suc i)) in
    let bit = h 0 in
    omega (arith, two-pow-succ n)

-- NOT, in n bits, is the other value on each line
pub lines_not : (n : ℕ) (f : ℕ → ℕ) → ((i : ℕ) → f i < 2) → 2 ^ n - 1 - from_lines n f ≡ from_lines n (λ i. 1 - f i)
unfolding from_lines
lines_not zero f h = refl
lines_not (suc n) f h =
    let ih = lines_not n (λ i. f (suc i)) (λ i. h (suc i)) in
    let bit = h 0 in
    let rest = from_lines_lt n (λ i. f (suc i)) (λ i. h (suc i)) in
    omega (arith, two-pow-succ n)

-- each line of a number that was made from its lines
pub line_from : (n : ℕ) (f : ℕ → ℕ) → ((i : ℕ) → f i < 2) → (i : ℕ) → i < n → line (from_lines n f) i ≡ f i
unfolding from_lines
line_from zero f h i l = absurd (omega arith)
line_from (suc n) f h zero l = line_zero (from_lines n (λ i. f (suc i)) * 2 + f 0) ∙ omega (arith, h 0)
line_from (suc n) f h (suc i) l =
    let rest = from_lines n (λ i. f (suc i)) in
    let half : (rest * 2 + f 0) / 2 ≡ rest = omega (arith, h 0) in
    line_half (rest * 2 + f 0) i ∙ ap (λ (x : ℕ). line x i) half ∙ line_from n (λ i. f (suc i)) (λ i. h (suc i)) i (omega arith)
