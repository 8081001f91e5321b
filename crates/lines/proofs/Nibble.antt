-- A word by its nibbles: what AND and OR, a shift under a mask, a difference, a product and a sum do to each of them, and
-- a hole closed. Assumes nothing.
use mathlib.Core.Path.{◌≡◌, refl, sym, ap, ◌∙◌}
use Prim.Native.Nat.{ℕ, zero, suc, ◌+◌, ◌-◌, ◌*◌, ◌/◌, ◌%◌, ◌^◌, ◌≤◌, ◌<◌}
use native.Mathlib.Nat.{add-zero, add-mul, add_comm, mul-one, mul_right_comm, mul-suc, div-one, mod-eq_of_lt}
use native.Mathlib.Omega.{arith}
use lib.Bits.{bit_and, bit_or, and_shr, or_shr, and_mod, or_mod, and_le_l, and_le_r}
use lib.Dec.{T, eqb, eqb→eq}
use lib.Pow.{shr-shr, field, mod-mod-pow}
use Rattle.lines.proofs.Computed.{every_below, every_below_law}

-- nibble i, from the lowest
abbrev pub nibble : ℕ → ℕ → ℕ
nibble zero x = x % 16
nibble (suc i) x = nibble i (x / 16)

pub nibble_at : (i x : ℕ) → x / 2 ^ (4 * i) % 16 ≡ nibble i x
nibble_at zero x = ap (λ (q : ℕ). q % 16) (div-one x)
nibble_at (suc i) x =
    let up : 4 * suc i ≡ 4 + 4 * i = mul-suc 4 i ∙ add_comm (4 * i) 4 in
    ap (λ (j : ℕ). x / 2 ^ j % 16) up ∙ ap (λ (q : ℕ). q % 16) (sym (shr-shr x 4 (4 * i))) ∙ nibble_at i (x / 16)

pub nibble_lt : (i x : ℕ) → nibble i x < 16
nibble_lt zero x = omega arith
nibble_lt (suc i) x = nibble_lt i (x / 16)

-- the nibbles of a constant
abbrev pub Is : ℕ → (ℕ → ℕ) → Type 0
Is word c = T (every_below 8 (λ i. eqb (nibble i word) (c i)))

pub nibble_of : (word : ℕ) (c : ℕ → ℕ) → Is word c → (i : ℕ) → i < 8 → nibble i word ≡ c i
nibble_of word c t i h = eqb→eq (nibble i word) (c i) (every_below_law 8 (λ i. eqb (nibble i word) (c i)) t i h)

pub nibble_and : (i a b : ℕ) → nibble i (bit_and a b) ≡ bit_and (nibble i a) (nibble i b)
nibble_and zero a b = and_mod a b 4
nibble_and (suc i) a b = ap (nibble i) (and_shr a b 4) ∙ nibble_and i (a / 16) (b / 16)

pub nibble_or : (i a b : ℕ) → nibble i (bit_or a b) ≡ bit_or (nibble i a) (nibble i b)
nibble_or zero a b = or_mod a b 4
nibble_or (suc i) a b = ap (nibble i) (or_shr a b 4) ∙ nibble_or i (a / 16) (b / 16)

-- what a shift by k brings in from the nibble above lies outside a mask of the other j bits of each nibble
pub nibble_shr : (i x h j k : ℕ) → 4 ≡ j + k → nibble i h < 2 ^ j
    → nibble i (bit_and (x / 2 ^ k) h) ≡ bit_and (nibble i x / 2 ^ k) (nibble i h)
nibble_shr zero x h j k e small =
    let within : x / 2 ^ k % 2 ^ 4 % 2 ^ j ≡ x % 2 ^ 4 / 2 ^ k =
    ap (λ (b : ℕ). x / 2 ^ k % 2 ^ b % 2 ^ j) (e ∙ add_comm j k) ∙ mod-mod-pow (x / 2 ^ k) k j
    ∙ sym (field x j k) ∙ ap (λ (b : ℕ). x % 2 ^ b / 2 ^ k) (sym e) in
    and_mod (x / 2 ^ k) h 4 ∙ low (x / 2 ^ k % 16) (h % 16) small ∙ ap (λ (q : ℕ). bit_and q (h % 16)) within
  where
    low : (a b : ℕ) → b < 2 ^ j → bit_and a b ≡ bit_and (a % 2 ^ j) b
    low a b l =
        let less : bit_and a b < 2 ^ j = omega (arith, and_le_r a b) in
        sym (mod-eq_of_lt less) ∙ and_mod a b j ∙ ap (bit_and (a % 2 ^ j)) (mod-eq_of_lt l)
nibble_shr (suc i) x h j k e small =
    let crossed : x / 2 ^ k / 2 ^ 4 ≡ x / 2 ^ 4 / 2 ^ k =
    shr-shr x k 4 ∙ ap (λ (b : ℕ). x / 2 ^ b) (add_comm k 4) ∙ sym (shr-shr x 4 k) in
    ap (nibble i) (and_shr (x / 2 ^ k) h 4 ∙ ap (λ (q : ℕ). bit_and q (h / 16)) crossed) ∙ nibble_shr i (x / 16) (h / 16) j k e small

-- a difference borrows nothing where no nibble is the smaller one
pub nibble_sub : (i x t : ℕ) → t ≤ x → ((j : ℕ) → j ≤ i → nibble j t ≤ nibble j x) → nibble i (x - t) ≡ nibble i x - nibble i t
nibble_sub zero x t h each = let first = each 0 (omega arith) in omega arith
nibble_sub (suc i) x t h each =
    let first = each 0 (omega arith) in
    let less : (x - t) / 16 ≡ x / 16 - t / 16 = omega arith in
    ap (nibble i) less ∙ nibble_sub i (x / 16) (t / 16) (omega arith) (λ j l. each (suc j) (omega arith))

parts : (x k y : ℕ) → x * k + y ≡ (x / 16 * k + y / 16) * 16 + (x % 16 * k + y % 16)
parts x k y =
    let whole : x ≡ x / 16 * 16 + x % 16 = omega arith in
    let upper = mul_right_comm (x / 16) 16 k in
    ap (λ (q : ℕ). q * k + y) whole ∙ ap (λ (q : ℕ). q + y) (add-mul (x / 16 * 16) (x % 16) k) ∙ omega arith

-- a product and a sum carry nothing where each nibble has room
pub nibble_sum : (i x k y : ℕ) → ((j : ℕ) → j ≤ i → nibble j x * k + nibble j y < 16)
    → nibble i (x * k + y) ≡ nibble i x * k + nibble i y
nibble_sum zero x k y each = let first = each 0 (omega arith) in omega (arith, parts x k y)
nibble_sum (suc i) x k y each =
    let first = each 0 (omega arith) in
    let more : (x * k + y) / 16 ≡ x / 16 * k + y / 16 = omega (arith, parts x k y) in
    ap (nibble i) more ∙ nibble_sum i (x / 16) k (y / 16) (λ j l. each (suc j) (omega arith))

pub nibble_mul : (i x k : ℕ) → ((j : ℕ) → j ≤ i → nibble j x * k < 16) → nibble i (x * k) ≡ nibble i x * k
nibble_mul i x k each =
    ap (nibble i) (sym (add-zero (x * k))) ∙ nibble_sum i x k 0 (λ j l. rw (none j, add-zero (nibble j x * k)) (each j l))
    ∙ ap (λ (q : ℕ). nibble i x * k + q) (none i) ∙ add-zero (nibble i x * k)
  where
    none : (j : ℕ) → nibble j 0 ≡ 0
    none zero = refl
    none (suc j) = none j

pub nibble_add : (i x y : ℕ) → ((j : ℕ) → j ≤ i → nibble j x + nibble j y < 16) → nibble i (x + y) ≡ nibble i x + nibble i y
nibble_add i x y each =
    ap (λ (q : ℕ). nibble i (q + y)) (sym (mul-one x)) ∙ nibble_sum i x 1 y (λ j l. rw (mul-one (nibble j x)) (each j l))
    ∙ ap (λ (q : ℕ). q + nibble i y) (mul-one (nibble i x))

-- NOT, in a word
pub nibble_not : (i x : ℕ) → x < 2 ^ 32 → i < 8 → nibble i (4294967295 - x) ≡ 15 - nibble i x
nibble_not i x fits h =
    nibble_sub i 4294967295 x (omega arith)
    (λ j l. rw (nibble_of 4294967295 (λ _. 15) tt j (omega arith)) (let small = nibble_lt j x in omega arith))
    ∙ ap (λ (q : ℕ). q - nibble i x) (nibble_of 4294967295 (λ _. 15) tt i h)

-- holes closed: the bit above each comes down
abbrev pub closing : ℕ → ℕ → ℕ
closing x holes = x - bit_and (x / 2) holes

closing_le : (x holes : ℕ) → bit_and (x / 2) holes ≤ x
closing_le x holes = omega (arith, and_le_l (x / 2) holes)

pub nibble_closing : (i x holes : ℕ) → ((j : ℕ) → j ≤ i → nibble j holes < 8)
    → nibble i (closing x holes) ≡ closing (nibble i x) (nibble i holes)
nibble_closing i x holes small =
    nibble_sub i x (bit_and (x / 2) holes) (closing_le x holes)
    (λ j l. rw (nibble_shr j x holes 3 1 (omega arith) (small j l)) (closing_le (nibble j x) (nibble j holes)))
    ∙ ap (λ (q : ℕ). nibble i x - q) (nibble_shr i x holes 3 1 (omega arith) (small i (omega arith)))
