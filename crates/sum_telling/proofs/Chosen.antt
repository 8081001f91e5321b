-- Sets of 64 patterns, line by line: what choosing between two sets gives, and what a table answers for 64 patterns.
-- Assumes nothing.
use Prim.Native.Nat.{ℕ, zero, suc, ◌+◌, ◌*◌, ◌/◌, ◌%◌, ◌<◌}
use mathlib.Core.Path.{◌≡◌, refl, ap, ap₂, ◌∙◌}
use mathlib.Core.Bool.{cond}
use mathlib.Core.List.{[], ◌∷◌}
use native.Mathlib.Omega.{arith}
use lib.Bits.{bit_and, bit_xor}
use lib.Dec.{eqb, eqb→eq}
use lib.ListN.{get_or}
use Rattle.lines.specs.Line.{line}
use Rattle.lines.proofs.Digit.{line_and, line_xor}
use Rattle.lines.proofs.Computed.{digits, every_below_law, every_within_law}
use Rattle.lut.specs.Table.{one_if}

-- ---- all patterns and none

pub in_all : (k : ℕ) → k < 64 → line 0xFFFFFFFFFFFFFFFF k ≡ 1
in_all k h = eqb→eq _ _ (every_below_law 64 (λ k. eqb (line 0xFFFFFFFFFFFFFFFF k) 1) tt k h)

pub in_none : (k : ℕ) → k < 64 → line 0 k ≡ 0
in_none k h = eqb→eq _ _ (every_below_law 64 (λ k. eqb (line 0 k) 0) tt k h)

-- ---- one of two sets

chosen_digit : (d e f : ℕ) → d < 2 → e < 2 → f < 2 → bit_xor f (bit_and d (bit_xor e f)) ≡ cond (eqb d 1) e f
chosen_digit d e f hd he hf =
    eqb→eq _ _
    (every_within_law (digits 3)
    (λ ds. eqb (bit_xor (get_or ds 2 0) (bit_and (get_or ds 0 0) (bit_xor (get_or ds 1 0) (get_or ds 2 0)))) (cond (eqb (get_or ds 0 0) 1) (get_or ds 1 0) (get_or ds 2 0)))
    tt (d ∷ e ∷ f ∷ []) (hd, (he, (hf, tt))))

pub chosen : (s x y k : ℕ) → line (bit_xor y (bit_and s (bit_xor x y))) k ≡ cond (eqb (line s k) 1) (line x k) (line y k)
chosen s x y k =
    line_xor y (bit_and s (bit_xor x y)) k
    ∙ ap (bit_xor (line y k)) (line_and s (bit_xor x y) k ∙ ap (bit_and (line s k)) (line_xor x y k))
    ∙ chosen_digit (line s k) (line x k) (line y k) (omega arith) (omega arith) (omega arith)

-- ---- one of four by two digits

pub pick_two : (f : ℕ → ℕ) (x y : ℕ) → x < 2 → y < 2
    → cond (eqb y 1) (cond (eqb x 1) (f 3) (f 2)) (cond (eqb x 1) (f 1) (f 0)) ≡ f (x + 2 * y)
pick_two f zero zero hx hy = refl
pick_two f (suc zero) zero hx hy = refl
pick_two f zero (suc zero) hx hy = refl
pick_two f (suc zero) (suc zero) hx hy = refl
pick_two f zero (suc (suc y)) hx hy = absurd (omega arith)
pick_two f (suc zero) (suc (suc y)) hx hy = absurd (omega arith)
pick_two f (suc (suc x)) y hx hy = absurd (omega arith)

pub pick_pair : (f : ℕ → ℕ) (x y : ℕ) → x < 2 → y < 2
    → cond (eqb y 1) (cond (eqb x 1) (f 15) (f 12)) (cond (eqb x 1) (f 3) (f 0)) ≡ f (3 * x + 12 * y)
pick_pair f zero zero hx hy = refl
pick_pair f (suc zero) zero hx hy = refl
pick_pair f zero (suc zero) hx hy = refl
pick_pair f (suc zero) (suc zero) hx hy = refl
pick_pair f zero (suc (suc y)) hx hy = absurd (omega arith)
pick_pair f (suc zero) (suc (suc y)) hx hy = absurd (omega arith)
pick_pair f (suc (suc x)) y hx hy = absurd (omega arith)

-- all of them as often as a digit says
pub spread_digit : (d k : ℕ) → d < 2 → k < 64 → line (d * 0xFFFFFFFFFFFFFFFF) k ≡ d
spread_digit zero k hd h = in_none k h
spread_digit (suc zero) k hd h = in_all k h
spread_digit (suc (suc d)) k hd h = absurd (omega arith)

-- ---- the patterns of a class

class_digit : (o n c : ℕ) → o < 2 → n < 2 → c < 4 → bit_and (bit_xor o (cond (eqb (c % 2) 1) 0 1)) (bit_xor n (cond (eqb (c / 2) 1) 0 1)) ≡ one_if (eqb (o + 2 * n) c)
class_digit o n c ho hn hc =
    eqb→eq _ _
    (every_within_law (2 ∷ 2 ∷ 4 ∷ [])
    (λ ds.
    eqb (bit_and (bit_xor (get_or ds 0 0) (cond (eqb (get_or ds 2 0 % 2) 1) 0 1)) (bit_xor (get_or ds 1 0) (cond (eqb (get_or ds 2 0 / 2) 1) 0 1)))
    (one_if (eqb (get_or ds 0 0 + 2 * get_or ds 1 0) (get_or ds 2 0))))
    tt (o ∷ n ∷ c ∷ []) (ho, (hn, (hc, tt))))

pub of_class : (old new class x y k : ℕ) → class < 4 → line x k ≡ cond (eqb (class % 2) 1) 0 1 → line y k ≡ cond (eqb (class / 2) 1) 0 1
    → line (bit_and (bit_xor old x) (bit_xor new y)) k ≡ one_if (eqb (line old k + 2 * line new k) class)
of_class old new class x y k h ex ey =
    line_and (bit_xor old x) (bit_xor new y) k
    ∙ ap₂ bit_and (line_xor old x k ∙ ap (bit_xor (line old k)) ex) (line_xor new y k ∙ ap (bit_xor (line new k)) ey)
    ∙ class_digit (line old k) (line new k) class (omega arith) (omega arith) h
