-- Laws of bytes and of the numbers that four of them make: a number is read as it was written, and written as it was read.
-- Assumes nothing.
use Prim.Native.Nat.{ℕ, zero, suc, ◌+◌, ◌*◌, ◌/◌, ◌%◌, ◌^◌, ◌≤◌, ◌<◌}
use mathlib.Core.Path.{◌≡◌, sym, ap, ◌∙◌}
use mathlib.Core.List.{List, [], ◌∷◌, ◌++◌}
use native.Mathlib.Omega.{arith}
use native.Mathlib.Nat.{add-zero, not-suc-le-zero, div-div-eq-div-mul, div-add-mod', mod-eq_of_lt}
use lib.Arith.{digits_div, digits_mod}
use lib.Dec.{lit<}
use lib.ListN.{length, take, drop}
use lib.Seq.{get_or-drop, get_or-take, drop-append-add}
use Rattle.peek.specs.Bytes.{Bytes, u32_at, u32_bytes}

-- ---- these numbers are bytes

pub bytes_nil : Bytes []
bytes_nil i = lit< tt

pub bytes_cons : (b : ℕ) (s : List ℕ) → b < 256 → Bytes s → Bytes (b ∷ s)
bytes_cons b s h k zero = h
bytes_cons b s h k (suc i) = k i

pub bytes_tail : (b : ℕ) (s : List ℕ) → Bytes (b ∷ s) → Bytes s
bytes_tail b s h i = h (suc i)

pub bytes_append : (s t : List ℕ) → Bytes s → Bytes t → Bytes (s ++ t)
bytes_append [] t h k = k
bytes_append (b ∷ s) t h k = bytes_cons b (s ++ t) (h 0) (bytes_append s t (bytes_tail b s h) k)

pub bytes_drop : (n : ℕ) (s : List ℕ) → Bytes s → Bytes (drop n s)
bytes_drop n s h i = rw get_or-drop (h (n + i))

pub bytes_take : (n : ℕ) (s : List ℕ) → Bytes s → Bytes (take n s)
bytes_take zero s h = bytes_nil
bytes_take (suc n) [] h = bytes_nil
bytes_take (suc n) (b ∷ s) h = bytes_cons b (take n s) (h 0) (bytes_take n s (bytes_tail b s h))

pub bytes_u32 : (n : ℕ) → Bytes (u32_bytes n)
bytes_u32 n =
    let s₁ : List ℕ = n / 16777216 % 256 ∷ [] in
    let s₂ : List ℕ = n / 65536 % 256 ∷ s₁ in
    let s₃ : List ℕ = n / 256 % 256 ∷ s₂ in
    bytes_cons (n % 256) s₃ (omega arith)
    (bytes_cons (n / 256 % 256) s₂ (omega arith)
    (bytes_cons (n / 65536 % 256) s₁ (omega arith) (bytes_cons (n / 16777216 % 256) [] (omega arith) bytes_nil)))

-- ---- the number at an offset

pub u32_drop : (s : List ℕ) (at : ℕ) → u32_at s at ≡ u32_at (drop at s) 0
unfolding u32_at
u32_drop s at = simp (get_or-drop, add-zero)

pub u32_small : (s : List ℕ) (at : ℕ) → Bytes s → u32_at s at < 2 ^ 32
unfolding u32_at
u32_small s at h = omega (arith, h at, h (at + 1), h (at + 2), h (at + 3))

-- it is that of the part it stands in: at the start of a list, or behind another
pub u32_take : (n : ℕ) (s : List ℕ) (at : ℕ) → at + 4 ≤ n → u32_at (take n s) at ≡ u32_at s at
unfolding u32_at
u32_take n s at h =
    simp (
      get_or-take n s at 0 (omega arith),
      get_or-take n s (at + 1) 0 (omega arith),
      get_or-take n s (at + 2) 0 (omega arith),
      get_or-take n s (at + 3) 0 (omega arith),
    )

pub u32_behind : (s t : List ℕ) (at : ℕ) → u32_at (s ++ t) (length s + at) ≡ u32_at t at
u32_behind s t at =
    u32_drop (s ++ t) (length s + at) ∙ ap (λ (r : List ℕ). u32_at r 0) (drop-append-add s t at) ∙ sym (u32_drop t at)

-- ---- the bytes of a number

-- the quotients by which they are cut off, one byte at a time
by_256² : (n : ℕ) → n / 65536 ≡ n / 256 / 256
by_256² n = sym (div-div-eq-div-mul n 256 256)

by_256³ : (n : ℕ) → n / 16777216 ≡ n / 65536 / 256
by_256³ n = sym (div-div-eq-div-mul n 65536 256)

joined : (n q₁ q₂ q₃ d₀ d₁ d₂ d₃ : ℕ) → q₁ * 256 + d₀ ≡ n → q₂ * 256 + d₁ ≡ q₁ → q₃ * 256 + d₂ ≡ q₂ → d₃ ≡ q₃
    → d₀ + d₁ * 256 + d₂ * 65536 + d₃ * 16777216 ≡ n
joined n q₁ q₂ q₃ d₀ d₁ d₂ d₃ e₁ e₂ e₃ e₄ = omega arith

cut : (n q r : ℕ) → n ≡ q * 256 + r → r < 256 → (n % 256 ≡ r) × (n / 256 ≡ q)
cut n q r e h = (ap (λ (m : ℕ). m % 256) e ∙ digits_mod q h, ap (λ (m : ℕ). m / 256) e ∙ digits_div q h)

-- a number is read as it was written, whatever stands behind it
pub u32_read : (n : ℕ) (rest : List ℕ) → n < 2 ^ 32 → u32_at (u32_bytes n ++ rest) 0 ≡ n
unfolding u32_at
u32_read n rest h =
    joined n (n / 256) (n / 65536) (n / 16777216) (n % 256) (n / 256 % 256) (n / 65536 % 256) (n / 16777216 % 256)
    (div-add-mod' n 256)
    (rw (by_256² n) (div-add-mod' (n / 256) 256))
    (rw (by_256³ n) (div-add-mod' (n / 65536) 256))
    (mod-eq_of_lt (omega arith))

-- and written as it was read
pub u32_written : (s : List ℕ) → Bytes s → 4 ≤ length s → u32_bytes (u32_at s 0) ≡ take 4 s
unfolding u32_at
u32_written [] h l = absurd (not-suc-le-zero l)
u32_written (a ∷ []) h l = absurd (omega arith)
u32_written (a ∷ b ∷ []) h l = absurd (omega arith)
u32_written (a ∷ b ∷ c ∷ []) h l = absurd (omega arith)
u32_written (a ∷ b ∷ c ∷ d ∷ r) h l =
    let n : ℕ = a + b * 256 + c * 65536 + d * 16777216 in
    let ha : a < 256 = h 0 in
    let hb : b < 256 = h 1 in
    let hc : c < 256 = h 2 in
    let hd : d < 256 = h 3 in
    let c₁ = cut n (b + c * 256 + d * 65536) a (omega arith) ha in
    let c₂ = cut (n / 256) (c + d * 256) b (c₁.1 ∙ omega arith) hb in
    let c₃ = cut (n / 65536) d c (by_256² n ∙ c₂.1 ∙ omega arith) hc in
    let ed : n / 16777216 % 256 ≡ d = ap (λ (q : ℕ). q % 256) (by_256³ n ∙ c₃.1) ∙ mod-eq_of_lt hd in
    rw (c₁.0, c₂.0, c₃.0, ed)
