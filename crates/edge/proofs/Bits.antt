-- The plain rule and acceptance on all lines at once, by bit operations on whole numbers: one computed test of a line
-- each. Assumes nothing.
use Prim.Native.Nat.{ℕ, ◌^◌, ◌<◌}
use mathlib.Core.Path.{◌≡◌, ap, ap₂, ◌∙◌}
use mathlib.Core.Bool.{Bool, true, false, not, ◌&&◌, ◌||◌, beq}
use mathlib.Core.List.{List, [], ◌∷◌}
use native.Mathlib.Omega.{arith}
use lib.Bits.{bit_and, bit_or, bit_xor, and_lt, or_lt, xor_lt}
use lib.Dec.{eqb}
use lib.ListN.{get_or}
use Rattle.lines.specs.Line.{line}
use Rattle.lines.proofs.Computed.{digits, every_within_law}
use Rattle.lines.proofs.Digit.{line_and, line_or, line_xor}
use Rattle.lines.proofs.Over.{lines_cong, not_every, none_set}
use Rattle.lines.proofs.Truth.{agree}
use Rattle.edge.specs.Rule.{line_hit, lines_hit, line_accepted, lines_accepted}
use Rattle.edge.specs.Telling.{without}

pub line_without : (a b i : ℕ) → line (without a b) i ≡ without (line a i) (line b i)
unfolding without
line_without a b i = line_xor a (bit_and a b) i ∙ ap (bit_xor (line a i)) (line_and a b i)

pub without_lt : (k a b : ℕ) → a < 2 ^ k → b < 2 ^ k → without a b < 2 ^ k
unfolding without
without_lt k a b ha hb = xor_lt k a (bit_and a b) ha (and_lt k a b ha hb)

-- the lines with an asked-for event
abbrev pub hit_lines : (rise fall neither earlier later : ℕ) → ℕ
hit_lines r f n e l = bit_or (bit_or (bit_and (without l e) r) (bit_and (without e l) f)) (without n (bit_xor e l))

line_hit_law : (r f n e l i : ℕ) → line (hit_lines r f n e l) i ≡ hit_lines (line r i) (line f i) (line n i) (line e i) (line l i)
line_hit_law r f n e l i =
    line_or (bit_or (bit_and (without l e) r) (bit_and (without e l) f)) (without n (bit_xor e l)) i
    ∙ ap₂ bit_or
    (line_or (bit_and (without l e) r) (bit_and (without e l) f) i
    ∙ ap₂ bit_or
    (line_and (without l e) r i ∙ ap (λ (x : ℕ). bit_and x (line r i)) (line_without l e i))
    (line_and (without e l) f i ∙ ap (λ (x : ℕ). bit_and x (line f i)) (line_without e l i)))
    (line_without n (bit_xor e l) i ∙ ap (without (line n i)) (line_xor e l i))

hit_right : List ℕ → Bool
hit_right ds =
    beq (not (eqb (hit_lines (get_or ds 0 0) (get_or ds 1 0) (get_or ds 2 0) (get_or ds 3 0) (get_or ds 4 0)) 0))
    (line_hit (get_or ds 0 0) (get_or ds 1 0) (get_or ds 2 0) (get_or ds 3 0) (get_or ds 4 0))

pub hit_bits : (k r f n e l : ℕ) → r < 2 ^ k → f < 2 ^ k → n < 2 ^ k → e < 2 ^ k → l < 2 ^ k
    → not (eqb (hit_lines r f n e l) 0) ≡ lines_hit k r f n e l
unfolding hit_right without
hit_bits k r f n e l hr hf hn he hl =
    ap not (none_set k (hit_lines r f n e l)
    (or_lt k _ _
    (or_lt k _ _ (and_lt k _ _ (without_lt k l e hl he) hr) (and_lt k _ _ (without_lt k e l he hl) hf))
    (without_lt k n (bit_xor e l) hn (xor_lt k e l he hl))))
    ∙ not_every k _
    ∙ lines_cong ◌||◌ false k _ _
    (λ i h. rw (line_hit_law r f n e l i)
    (agree _ _ (every_within_law (digits 5) hit_right tt (line r i ∷ line f i ∷ line n i ∷ line e i ∷ line l i ∷ []) (omega arith))))

-- the code's test of one line
accepted_right : List ℕ → Bool
accepted_right ds =
    beq (eqb (bit_and (bit_and (get_or ds 0 0) (get_or ds 1 0)) (get_or ds 2 0)) 0) (line_accepted (get_or ds 0 0) (get_or ds 1 0) (get_or ds 2 0))

pub accepted_bits : (k r f n : ℕ) → r < 2 ^ k → f < 2 ^ k → n < 2 ^ k → eqb (bit_and (bit_and r f) n) 0 ≡ lines_accepted k r f n
unfolding accepted_right
accepted_bits k r f n hr hf hn =
    none_set k (bit_and (bit_and r f) n) (and_lt k (bit_and r f) n (and_lt k r f hr hf) hn)
    ∙ lines_cong ◌&&◌ true k _ _
    (λ i h. rw (line_and (bit_and r f) n i, line_and r f i)
    (agree _ _ (every_within_law (digits 3) accepted_right tt (line r i ∷ line f i ∷ line n i ∷ []) (omega arith))))
