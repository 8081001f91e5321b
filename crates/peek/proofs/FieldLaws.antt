-- The numbers of a description: they are read as they were written, and written as they were read. Assumes nothing.
use Prim.Native.Nat.{ℕ, zero, suc, ◌+◌, ◌*◌, ◌^◌, ◌≤◌, ◌<◌}
use mathlib.Core.List.{List, [], ◌∷◌, ◌++◌}
use mathlib.Core.Path.{◌≡◌, refl, sym, ap, ap₂, ◌∙◌}
use native.Mathlib.Omega.{arith}
use native.Mathlib.Numerals.{add-one}
use lib.Dec.{lit<}
use lib.ListN.{length, get_or, take, drop, length-append, length-drop, drop_of_length-le, take-append-drop}
use lib.Seq.{drop-drop, drop-cons}
use Rattle.peek.specs.Bytes.{Bytes, u32_at, u32_bytes, bytes_from}
use Rattle.peek.specs.Fields.{field_of, field_bytes, fields_from}
use Rattle.peek.proofs.Numbers.{bytes_nil, bytes_append, bytes_drop, bytes_u32, u32_drop, u32_behind, u32_read, u32_written}

pub fields_length : (ns : List ℕ) → length (field_bytes ns) ≡ 4 * length ns
unfolding field_bytes
fields_length [] = refl
fields_length (n ∷ ns) = omega (arith, length-append (u32_bytes n) (field_bytes ns), fields_length ns)

pub fields_bytes : (ns : List ℕ) → Bytes (field_bytes ns)
unfolding field_bytes
fields_bytes [] = bytes_nil
fields_bytes (n ∷ ns) = bytes_append (u32_bytes n) (field_bytes ns) (bytes_u32 n) (fields_bytes ns)

-- each number is read as it was written
pub fields_read : (ns : List ℕ) → ((i : ℕ) → get_or ns i 0 < 2 ^ 32) → (i : ℕ) → i < length ns → field_of (field_bytes ns) i ≡ get_or ns i 0
unfolding field_bytes
fields_read [] h i l = absurd (omega arith)
fields_read (n ∷ ns) h zero l = u32_read n (field_bytes ns) (h 0)
fields_read (n ∷ ns) h (suc i) l =
    let e : 4 * suc i ≡ 4 + 4 * i = omega arith in
    ap (u32_at (u32_bytes n ++ field_bytes ns)) e ∙ u32_behind (u32_bytes n) (field_bytes ns) (4 * i) ∙ fields_read ns (λ j. h (suc j)) i (omega arith)

-- written again they are what was read
pub fields_written : (n i : ℕ) (d : List ℕ) → Bytes d → length d ≡ 4 * (i + n) → field_bytes (fields_from n i d) ≡ drop (4 * i) d
unfolding field_bytes
fields_written zero i d b l = sym (drop_of_length-le d {i = 4 * i} (omega arith))
fields_written (suc n) i d b l =
    let rest = drop (4 * i) d in
    let first : u32_bytes (field_of d i) ≡ take 4 rest =
    ap (λ (x : ℕ). u32_bytes x) (u32_drop d (4 * i)) ∙ u32_written rest (bytes_drop (4 * i) d b) (omega (arith, length-drop (4 * i) d)) in
    let e : 4 * (i + 1) ≡ 4 * i + 4 = omega arith in
    let later : field_bytes (fields_from n (i + 1) d) ≡ drop 4 rest =
    fields_written n (i + 1) d b (omega arith) ∙ ap (λ (x : ℕ). drop x d) e ∙ sym (drop-drop 4 (4 * i) d) in
    ap₂ ◌++◌ first later ∙ take-append-drop 4 rest

-- the numbers from the i-th on
pub fields_from_law : (ns : List ℕ) (i : ℕ) → i < length ns → field_bytes (drop i ns) ≡ u32_bytes (get_or ns i 0) ++ field_bytes (drop (i + 1) ns)
unfolding field_bytes
fields_from_law ns i h = rw (add-one, drop-cons ns i 0)

pub fields_end : (ns : List ℕ) (i : ℕ) → length ns ≤ i → field_bytes (drop i ns) ≡ []
unfolding field_bytes
fields_end ns i h = rw (drop_of_length-le ns {i = i} h)

-- bytes that are there, one by one, are the part that they make
pub bytes_taken : (n i : ℕ) (s : List ℕ) → i + n ≤ length s → bytes_from n i s ≡ take n (drop i s)
bytes_taken zero i s h = refl
bytes_taken (suc n) i s h =
    ap (λ (xs : List ℕ). get_or s i 0 ∷ xs) (bytes_taken n (i + 1) s (omega arith))
    ∙ sym (ap (take (suc n)) (drop-cons s i 0 (omega arith)) ∙ ap (λ (j : ℕ). get_or s i 0 ∷ take n (drop j s)) (sym (add-one i)))

-- numbers of 32 bits
pub fit₂ : (x y : ℕ) → x < 2 ^ 32 → y < 2 ^ 32 → (i : ℕ) → get_or (x ∷ y ∷ []) i 0 < 2 ^ 32
fit₂ x y hx hy zero = hx
fit₂ x y hx hy (suc zero) = hy
fit₂ x y hx hy (suc (suc i)) = lit< tt

pub fit₃ : (x y z : ℕ) → x < 2 ^ 32 → y < 2 ^ 32 → z < 2 ^ 32 → (i : ℕ) → get_or (x ∷ y ∷ z ∷ []) i 0 < 2 ^ 32
fit₃ x y z hx hy hz zero = hx
fit₃ x y z hx hy hz (suc i) = fit₂ y z hy hz i

pub same₃ : {A : Type 0} (f : ℕ → ℕ → ℕ → A) {x x' y y' z z' : ℕ} → x ≡ x' → y ≡ y' → z ≡ z' → f x y z ≡ f x' y' z'
same₃ f p q r = cc
