-- A chain is an adder: over n lines from line i up it adds the gathered sample, the gathered value and the carry that enters,
-- and the carry that leaves is the sum's bit k, k being the masked ones of these lines. Assumes nothing.
use Rattle.std.proofs.Common.{◌≡◌, ℕ, zero, suc, ◌+◌, ◌*◌, ◌/◌, ◌%◌, ◌^◌, ◌<◌, ◌≤◌, sym, refl, ap, ◌∙◌, add-zero, zero-add, div-one, one-add, arith}
use native.Mathlib.Nat.{div-div-eq-div-mul, pow-succ'}
use lib.Count.{ones, ones_in}
use Rattle.lines.specs.Line.{line, choose}
use Rattle.lines.specs.Gather.{pack, gathered, scattered}
use Rattle.lines.proofs.Digit.{bit_lt, next_lines}
use Rattle.lines.proofs.Ones.{ones_in_law}
use Rattle.lines.proofs.Scattering.{gather_scatter}
use Rattle.lut.specs.Table.{answer_at, down}
use Rattle.range.specs.Words.{table_for, pair_word, chain_words}
use Rattle.range.specs.Model.{carry_after, carry_from, chain_carry}
use Rattle.range.proofs.Tables.{table_down}

-- One line: an unmasked line passes the carry on; a masked line adds its value, its bit and the carry, and carries the sum's bit 1.
line_carry : (d bit v c : ℕ) → d < 2 → bit < 2 → v < 2 → c < 2
    → choose (answer_at (table_for d bit) v) v c ≡ choose d c ((v + bit + c) / 2)
line_carry zero bit zero c hd hb hv hc = refl
line_carry zero bit (suc zero) c hd hb hv hc = refl
line_carry (suc zero) zero zero c hd hb hv hc = omega arith
line_carry (suc zero) zero (suc zero) c hd hb hv hc = omega arith
line_carry (suc zero) (suc zero) zero c hd hb hv hc = omega arith
line_carry (suc zero) (suc zero) (suc zero) c hd hb hv hc = omega arith
line_carry zero bit (suc (suc v)) c hd hb hv hc = absurd (omega arith)
line_carry (suc zero) zero (suc (suc v)) c hd hb hv hc = absurd (omega arith)
line_carry (suc zero) (suc zero) (suc (suc v)) c hd hb hv hc = absurd (omega arith)
line_carry (suc zero) (suc (suc bit)) v c hd hb hv hc = absurd (omega arith)
line_carry (suc (suc d)) bit v c hd hb hv hc = absurd (omega arith)

-- One line of the sum: its bits are added below, and what they carry goes into the sum of the lines above.
line_sum : (d v bit c g h k : ℕ) → d < 2
    → (g + h + choose d c ((v + bit + c) / 2)) / 2 ^ k ≡ (pack d v g + pack d bit h + c) / 2 ^ (d + k)
line_sum zero v bit c g h k hd = ap (λ (j : ℕ). (g + h + c) / 2 ^ j) (sym (zero-add k))
line_sum (suc zero) v bit c g h k hd =
    let halved : g + h + (v + bit + c) / 2 ≡ (g * 2 + v + (h * 2 + bit) + c) / 2 = omega arith in
    ap (λ (x : ℕ). x / 2 ^ k) halved ∙ div-div-eq-div-mul _ 2 (2 ^ k)
    ∙ ap (λ (x : ℕ). (g * 2 + v + (h * 2 + bit) + c) / x) (sym (pow-succ' 2 k) ∙ ap (λ (j : ℕ). 2 ^ j) (sym (one-add k)))
line_sum (suc (suc d)) v bit c g h k hd = absurd (omega arith)

-- a carry is 0 or 1
carry_lt : (d c s : ℕ) → c < 2 → s < 4 → choose d c (s / 2) < 2
carry_lt zero c s hc hs = hc
carry_lt (suc d) c s hc hs = omega arith

-- the sum over n lines from line i up
pub adder : (mask spread sample n i c : ℕ) → i + n ≤ 32 → c < 2
    → carry_from (down (pair_word mask spread) 16) sample n i c
    ≡ (gathered n (sample / 2 ^ i) (mask / 2 ^ i) + gathered n (spread / 2 ^ i) (mask / 2 ^ i) + c) / 2 ^ ones_in n (mask / 2 ^ i)
unfolding carry_from gathered ones_in
adder mask spread sample zero i c hi hc = sym (div-one (0 + 0 + c) ∙ (let z : 0 + 0 + c ≡ c = omega arith in z))
adder mask spread sample (suc n) i c hi hc =
    let d = line mask i in
    let v = line sample i in
    let bit = line spread i in
    let out = choose d c ((v + bit + c) / 2) in
    let hv = bit_lt (sample / 2 ^ i) in
    let hb = bit_lt (spread / 2 ^ i) in
    let hd = bit_lt (mask / 2 ^ i) in
    let after : carry_after (down (pair_word mask spread) 16) sample i c ≡ out
    = ap (λ (t : ℕ). choose (line t v) v c) (table_down mask spread i (omega arith)) ∙ line_carry d bit v c hd hb hv hc in
    ap (carry_from (down (pair_word mask spread) 16) sample n (suc i)) after
    ∙ adder mask spread sample n (suc i) out (omega arith) (carry_lt d c (v + bit + c) hc (omega arith))
    ∙ rw (← next_lines sample i, ← next_lines spread i, ← next_lines mask i)
    (line_sum d v bit c (gathered n (sample / 2 ^ i / 2) (mask / 2 ^ i / 2)) (gathered n (spread / 2 ^ i / 2) (mask / 2 ^ i / 2))
    (ones_in n (mask / 2 ^ i / 2)) hd)

-- The carry of a whole chain: bit k of the gathered sample plus the lowest k bits of the value.
pub chain_sum : (mask value sample : ℕ) → mask < 2 ^ 32
    → chain_carry (chain_words mask value) sample ≡ (gathered 32 sample mask + value % 2 ^ ones mask) / 2 ^ ones mask
unfolding chain_carry chain_words
chain_sum mask value sample hm =
    let spread = scattered 32 value mask in
    adder mask spread sample 32 0 0 (omega arith) (omega arith)
    ∙ rw (div-one sample, div-one mask, div-one spread, gather_scatter 32 value mask, ones_in_law 32 mask hm, add-zero (gathered 32 sample mask + value % 2 ^ ones mask))
