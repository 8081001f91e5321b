-- The plain rule: the upper lines and the lower ones, the formula of XOR and AND, and the same by cut numbers. Assumes
-- nothing.
use Rattle.std.proofs.Common.{◌≡◌, refl, ap, ◌∙◌, Bool, true, ◌&&◌, List, [], ◌∷◌, ℕ, ◌+◌, ◌/◌, ◌^◌, ◌<◌, arith, bit_and, bit_xor, eqb, get_or}
use mathlib.Core.Bool.{and_assoc, beq}
use lib.Bits.{and_lt, and_le_r, xor_lt}
use Rattle.lines.specs.Line.{line}
use Rattle.lines.proofs.Computed.{digits, every_within_law}
use Rattle.lines.proofs.Digit.{line_up, line_and, line_xor}
use Rattle.lines.proofs.Over.{lines_cong, lines_split, none_set, same_lines}
use Rattle.lines.proofs.Truth.{agree}
use Rattle.term.specs.Rule.{line_hit, lines_hit, term_hit}

-- the upper k lines and the lowest m lines
pub hit_split : (k m t n s : ℕ) → lines_hit (k + m) t n s ≡ lines_hit k (t / 2 ^ m) (n / 2 ^ m) (s / 2 ^ m) && lines_hit m t n s
hit_split k m t n s =
    lines_split ◌&&◌ true (λ b. refl) and_assoc k m _
    ∙ ap (λ (b : Bool). b && lines_hit m t n s)
    (lines_cong ◌&&◌ true k _ _ (λ j h. rw (line_up t j m, line_up n j m, line_up s j m)))

-- a rule of one line, as a test over the digits of target, mask and sample
abbrev line_test : (ℕ → ℕ → ℕ → Bool) → List ℕ → Bool
line_test rule ds = beq (rule (get_or ds 0 0) (get_or ds 1 0) (get_or ds 2 0)) (line_hit (get_or ds 0 0) (get_or ds 1 0) (get_or ds 2 0))

line_formula : (t m s i : ℕ) → eqb (bit_and (bit_xor (line s i) (line t i)) (line m i)) 0 ≡ line_hit (line t i) (line m i) (line s i)
line_formula t m s i =
    agree _ _ (every_within_law (digits 3) (line_test (λ t m s. eqb (bit_and (bit_xor s t) m) 0)) tt (line t i ∷ line m i ∷ line s i ∷ []) (omega arith))

line_masked_law : (t m s i : ℕ) → eqb (bit_and (line s i) (line m i)) (bit_and (line t i) (line m i)) ≡ line_hit (line t i) (line m i) (line s i)
line_masked_law t m s i =
    agree _ _ (every_within_law (digits 3) (line_test (λ t m s. eqb (bit_and s m) (bit_and t m))) tt (line t i ∷ line m i ∷ line s i ∷ []) (omega arith))

-- the formula: (sample XOR target) AND mask = 0 [P2]
pub lines_formula : (k t m s : ℕ) → t < 2 ^ k → m < 2 ^ k → s < 2 ^ k → eqb (bit_and (bit_xor s t) m) 0 ≡ lines_hit k t m s
lines_formula k t m s ht hm hs =
    none_set k (bit_and (bit_xor s t) m) (and_lt k (bit_xor s t) m (xor_lt k s t hs ht) hm)
    ∙ lines_cong ◌&&◌ true k _ _ (λ i h. rw (line_and (bit_xor s t) m i, line_xor s t i) (line_formula t m s i))

-- the sample and the target agree once both are cut to the mask
pub lines_masked : (k t m s : ℕ) → m < 2 ^ k → eqb (bit_and s m) (bit_and t m) ≡ lines_hit k t m s
lines_masked k t m s hm =
    same_lines k (bit_and s m) (bit_and t m) (omega (arith, and_le_r s m)) (omega (arith, and_le_r t m))
    ∙ lines_cong ◌&&◌ true k _ _ (λ i h. rw (line_and s m i, line_and t m i) (line_masked_law t m s i))

pub term_formula : (t m s : ℕ) → t < 2 ^ 32 → m < 2 ^ 32 → s < 2 ^ 32 → eqb (bit_and (bit_xor s t) m) 0 ≡ term_hit t m s
unfolding term_hit
term_formula t m s ht hm hs = lines_formula 32 t m s ht hm hs

pub term_masked : (t m s : ℕ) → m < 2 ^ 32 → eqb (bit_and s m) (bit_and t m) ≡ term_hit t m s
unfolding term_hit
term_masked t m s hm = lines_masked 32 t m s hm
