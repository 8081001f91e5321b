-- `gather_walk::voltamar_gather_walk` meets its contract. The loop's invariant: the lines from i up are packed.
-- Assumes nothing.
use mathlib.Core.Path.{◌≡◌, sym, ap, ap₂, ◌∙◌}
use Prim.Native.Nat.{ℕ, zero, suc, ◌+◌, ◌-◌, ◌*◌, ◌/◌, ◌%◌, ◌^◌, ◌≤◌, ◌<◌}
use native.Mathlib.Nat.{div-one, lt_of_lt_of_le, mod-eq_of_lt}
use native.Mathlib.Omega.{arith}
use lib.Bits.{bit_or, or_shifted}
use lib.Pow.{pow_mono}
use Rattle.lines.specs.Line.{line}
use Rattle.lines.specs.Gather.{pack, gathered}
use Rattle.lines.proofs.Digit.{bit_lt, next_lines}
use Rattle.lines.proofs.Gathering.{gather_lt_lines}
use Rattle.gather_walk.proofs.voltamar_gather_walk.Given as goal

-- the lines from i up, packed
abbrev pub packed_from : ℕ → ℕ → ℕ → ℕ
packed_from sample mask i = gathered (32 - i) (sample / 2 ^ i) (mask / 2 ^ i)

module _ (sample mask packed : ℕ) where
  -- one turn: the line below i, which the call has as d, goes in if it is masked
  pub turn : (i d : ℕ) → 0 < i → i ≤ 32 → packed ≡ packed_from sample mask i → d ≡ line mask (i - 1)
      → pack d (line sample (i - 1)) packed ≡ packed_from sample mask (i - 1)
  unfolding gathered
  turn zero d hi h e m = absurd (omega arith)
  turn (suc j) d hi h e m =
      let down : suc j - 1 ≡ j = omega arith in
      let more : suc (32 - suc j) ≡ 32 - j = omega arith in
      rw (m, down, e)
      (ap (pack (line mask j) (line sample j)) (sym (ap₂ (gathered (32 - suc j)) (next_lines sample j) (next_lines mask j)))
      ∙ ap (λ (k : ℕ). gathered k (sample / 2 ^ j) (mask / 2 ^ j)) more)

  pub room : (i : ℕ) → 0 < i → packed ≡ packed_from sample mask i → packed < 2 ^ 31
  room i hi e =
      rw e (lt_of_lt_of_le (gather_lt_lines (32 - i) (sample / 2 ^ i) (mask / 2 ^ i)) (pow_mono {i = 32 - i} {j = 31} (omega arith)))

  pub masked : (i d bit : ℕ) → 0 < i → i ≤ 32 → packed ≡ packed_from sample mask i → d ≡ line mask (i - 1) → d ≡ 1
      → bit ≡ line sample (i - 1) → bit_or (packed * 2 % 4294967296) bit ≡ packed_from sample mask (i - 1)
  masked i d bit hi h e m one b =
      let small : packed * 2 < 4294967296 = omega (arith, room i hi e) in
      ap (λ (x : ℕ). bit_or x bit) (mod-eq_of_lt small) ∙ or_shifted packed 1 bit (rw b (bit_lt _)) ∙ ap (λ (x : ℕ). packed * 2 + x) b
      ∙ ap (λ (x : ℕ). pack x (line sample (i - 1)) packed) (sym one) ∙ turn i d hi h e m

  pub unmasked : (i d : ℕ) → 0 < i → i ≤ 32 → packed ≡ packed_from sample mask i → d ≡ line mask (i - 1) → (d ≡ 1 → ⊥)
      → packed ≡ packed_from sample mask (i - 1)
  unmasked i d hi h e m ne =
      let none : 0 ≡ d = omega (arith, bit_lt (mask / 2 ^ (i - 1))) in
      ap (λ (x : ℕ). pack x (line sample (i - 1)) packed) none ∙ turn i d hi h e m

  pub whole : (i : ℕ) → i ≤ 0 → packed ≡ packed_from sample mask i → packed ≡ gathered 32 sample mask
  whole i h e =
      let none : i ≡ 0 = omega arith in
      e ∙ ap (packed_from sample mask) none ∙ ap₂ (gathered 32) (div-one sample) (div-one mask)

abbrev pub invariant-loop-i : goal.invariant-loop-i
invariant-loop-i l = (l.i ≤ 32) × (l.packed ≡ packed_from l.sample l.mask l.i)

abbrev pub decreases-loop-i : goal.decreases-loop-i
decreases-loop-i l = l.i
