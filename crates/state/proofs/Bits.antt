-- The flags of a state and the bits of its word: each is read as it was written, and written as it was read. Assumes
-- nothing.
use Prim.Native.Nat.{ℕ, zero, suc, ◌+◌, ◌-◌, ◌*◌, ◌/◌, ◌%◌, ◌^◌, ◌<◌, ◌≤◌}
use mathlib.Core.Bool.{true}
use mathlib.Core.List.{List, ◌∷◌}
use mathlib.Core.Path.{◌≡◌, refl, sym, ap, ap₂, ◌∙◌}
use native.Mathlib.Decide.{dec_lt}
use native.Mathlib.Nat.{lt_of_lt_of_le, zero-add, add-zero, add_comm, mod-eq_of_lt}
use native.Mathlib.Omega.{arith}
use lib.Dec.{lit<}
use lib.ListN.{length, get_or, get_or-eq_default}
use lib.Pow.{pow_mono}
use lib.Seq.{take_all}
use Rattle.lines.specs.Line.{line, from_lines}
use Rattle.lines.proofs.Digit.{bit_lt, line_up, line_from, from_lines_law, from_lines_lt, lines_next}
use Rattle.peek.specs.Bytes.{bytes_from}
use Rattle.peek.proofs.FieldLaws.{bytes_taken}
use Rattle.compare.specs.Within.{all_within}
use Rattle.compare.proofs.Within.{within_at}
use Rattle.state.specs.Words.{bits_of}
use Rattle.state.specs.Back.{bits_from}

-- ---- flags as a number

pub bits_lt : (fs : List ℕ) → bits_of fs < 256
bits_lt fs = from_lines_lt 8 (λ i. get_or fs i 0 % 2) (λ i. bit_lt (get_or fs i 0))

-- the flags from i on, of eight
abbrev pub bits_above : (fs : List ℕ) (i : ℕ) → ℕ
bits_above fs i = from_lines (8 - i) (λ j. get_or fs (j + i) 0 % 2)

pub above_lt : (fs : List ℕ) (i : ℕ) → bits_above fs i < 256
above_lt fs i =
    lt_of_lt_of_le (from_lines_lt (8 - i) (λ j. get_or fs (j + i) 0 % 2) (λ j. bit_lt (get_or fs (j + i) 0)))
    (pow_mono {i = 8 - i} {j = 8} (omega arith))

pub above_more : (fs : List ℕ) (i : ℕ) → 0 < i → i ≤ 8 → bits_above fs (i - 1) ≡ bits_above fs i * 2 + get_or fs (i - 1) 0 % 2
above_more fs i h l =
    let e : suc (i - 1) ≡ i = omega arith in
    rw e at (lines_next 8 (i - 1) (λ j. get_or fs j 0 % 2) (omega arith))

pub above_all : (fs : List ℕ) → bits_above fs 0 ≡ bits_of fs
above_all fs = simp add-zero

-- what the loop over the flags needs
pub ruleset above = (above_lt, above_more, above_all)

-- a flag that is 0 or 1
flag_small : (fs : List ℕ) → all_within 0 1 fs ≡ true → (i : ℕ) → get_or fs i 0 < 2
flag_small fs w i =
    elim (dec_lt i (length fs)) [
      | yes h ↦ omega (arith, (within_at 0 1 fs i w h).1)
      | no h ↦ rw (get_or-eq_default fs 0 {n = i} (omega arith)) (lit< tt)
    ]

-- bit i of the number is flag i
pub bit_is_flag : (fs : List ℕ) → all_within 0 1 fs ≡ true → (i : ℕ) → i < 8 → line (bits_of fs) i ≡ get_or fs i 0
bit_is_flag fs w i h =
    line_from 8 (λ i. get_or fs i 0 % 2) (λ i. bit_lt (get_or fs i 0)) i h ∙ mod-eq_of_lt (flag_small fs w i)

-- ---- bits one by one

pub bits_length : (n i x : ℕ) → length (bits_from n i x) ≡ n
unfolding bits_from
bits_length zero i x = refl
bits_length (suc n) i x = ap suc (bits_length n (i + 1) x)

bits_at : (n i x j : ℕ) → j < n → get_or (bits_from n i x) j 0 ≡ line x (i + j)
unfolding bits_from
bits_at zero i x j h = absurd (omega arith)
bits_at (suc n) i x zero h = ap (line x) (sym (add-zero i))
bits_at (suc n) i x (suc j) h = let e : i + 1 + j ≡ i + suc j = omega arith in bits_at n (i + 1) x j (omega arith) ∙ ap (line x) e

pub bits_within : (n i x : ℕ) → all_within 0 1 (bits_from n i x) ≡ true
unfolding bits_from all_within
bits_within zero i x = refl
bits_within (suc n) i x = one_bit (line x i) (bits_from n (i + 1) x) (bit_lt (x / 2 ^ i)) (bits_within n (i + 1) x)
  where
    one_bit : (b : ℕ) (fs : List ℕ) → b < 2 → all_within 0 1 fs ≡ true → all_within 0 1 (b ∷ fs) ≡ true
    one_bit zero fs h w = w
    one_bit (suc zero) fs h w = w
    one_bit (suc (suc b)) fs h w = absurd (omega arith)

-- bits that are flags, one by one
bits_flags : (n i k x : ℕ) (fs : List ℕ) → ((j : ℕ) → j < n → line x (i + j) ≡ get_or fs (k + j) 0) → bits_from n i x ≡ bytes_from n k fs
unfolding bits_from
bits_flags zero i k x fs h = refl
bits_flags (suc n) i k x fs h =
    ap₂ ◌∷◌ (ap (line x) (sym (add-zero i)) ∙ h 0 (omega arith) ∙ ap (λ (m : ℕ). get_or fs m 0) (add-zero k))
    (bits_flags n (i + 1) (k + 1) x fs (λ j l.
    let a : i + 1 + j ≡ i + suc j = omega arith in
    let b : k + suc j ≡ k + 1 + j = omega arith in
    ap (line x) a ∙ h (suc j) (omega arith) ∙ ap (λ (m : ℕ). get_or fs m 0) b))

-- eight flags, one by one, are all of them
pub eight_flags : (fs : List ℕ) → length fs ≡ 8 → bytes_from 8 0 fs ≡ fs
eight_flags fs l = bytes_taken 8 0 fs (omega arith) ∙ take_all 8 fs (omega arith)

-- ---- the flags of a word

-- the bits from 24 on are those of the number that stands there
pub upper_bit : (w j : ℕ) → line w (24 + j) ≡ line (w / 2 ^ 24) j
upper_bit w j = ap (line w) (add_comm 24 j) ∙ line_up w j 24

-- a word that has the flags there is read as them
pub flags_read : (w : ℕ) (fs : List ℕ) → w / 2 ^ 24 ≡ bits_of fs → length fs ≡ 8 → all_within 0 1 fs ≡ true → bits_from 8 24 w ≡ fs
flags_read w fs e l ok =
    bits_flags 8 24 0 w fs (λ j h. upper_bit w j ∙ ap (λ (x : ℕ). line x j) e ∙ bit_is_flag fs ok j h ∙ ap (λ (m : ℕ). get_or fs m 0) (sym (zero-add j)))
    ∙ eight_flags fs l

-- and what is read of a word stands there
pub flags_written : (w : ℕ) → w < 2 ^ 32 → bits_of (bits_from 8 24 w) ≡ w / 2 ^ 24
flags_written w h =
    from_lines_law 8 (w / 2 ^ 24) (λ i. get_or (bits_from 8 24 w) i 0 % 2)
    (λ i l. ap (λ (x : ℕ). x % 2) (bits_at 8 24 w i l) ∙ mod-eq_of_lt (bit_lt (w / 2 ^ (24 + i))) ∙ upper_bit w i) (omega arith)
