-- The masked lines of each nibble of a word, packed. What is done to one nibble is tried on all of them; what is done to
-- a word is that in each nibble. Assumes nothing.
use mathlib.Core.Path.{◌≡◌, sym, ap, ap₂, ◌∙◌}
use Prim.Native.Nat.{ℕ, ◌+◌, ◌-◌, ◌*◌, ◌/◌, ◌%◌, ◌^◌, ◌≤◌, ◌<◌}
use native.Mathlib.Omega.{arith}
use lib.Bits.{bit_and, bit_or, and_le_l, and_le_r, or_lt}
use lib.Dec.{eqb, eqb→eq, lit<}
use Rattle.lines.specs.Gather.{gathered}
use Rattle.lines.proofs.Computed.{every_below, every_below_law}
use Rattle.lines.proofs.Gathering.{gather_cut}
use Rattle.lines.proofs.Nibble.{
  nibble,
  nibble_at,
  nibble_lt,
  Is,
  nibble_of,
  nibble_and,
  nibble_or,
  nibble_shr,
  nibble_sub,
  nibble_mul,
  nibble_sum,
  nibble_not,
  closing,
  nibble_closing,
}

-- ---- the upper pair comes down

-- given the unmasked ones of the first lines and of the second
abbrev pub lowering : ℕ → ℕ → ℕ → ℕ
lowering pairs first second =
    pairs - bit_and (pairs / 4) (bit_or first second * 3) * 2 - bit_and (pairs / 4) (bit_and first second * 3)

lowering_le : (pairs a b : ℕ) → bit_and (pairs / 4) a * 2 + bit_and (pairs / 4) b ≤ pairs
lowering_le pairs a b = omega (arith, and_le_l (pairs / 4) a, and_le_l (pairs / 4) b)

at_once : (a b c : ℕ) → a - b - c ≡ a - (b + c)
at_once a b c = omega arith

-- ones of two words, one in each nibble
pub either_lt : (x y : ℕ) → bit_or (bit_and x 0x11111111) (bit_and y 0x11111111) < 2 ^ 29
either_lt x y =
    or_lt 29 (bit_and x 0x11111111) (bit_and y 0x11111111) (omega (arith, and_le_r x 0x11111111)) (omega (arith, and_le_r y 0x11111111))

module _ (pairs first second n : ℕ) (small₁ : (j : ℕ) → j < n → nibble j first < 2) (small₂ : (j : ℕ) → j < n → nibble j second < 2) where
  both_small : (j : ℕ) → j < n → nibble j (bit_and first second) < 2
  both_small j h = rw (nibble_and j first second) (omega (arith, and_le_l (nibble j first) (nibble j second), small₁ j h))

  either_small : (j : ℕ) → j < n → nibble j (bit_or first second) < 2
  either_small j h = rw (nibble_or j first second) (or_lt 1 (nibble j first) (nibble j second) (small₁ j h) (small₂ j h))

  -- the upper pair of each nibble where the word has a one
  upper_pair : (ones : ℕ) → ((j : ℕ) → j < n → nibble j ones < 2) → (j : ℕ) → j < n
      → nibble j (bit_and (pairs / 4) (ones * 3)) ≡ bit_and (nibble j pairs / 4) (nibble j ones * 3)
  upper_pair ones small j h =
      let thrice : nibble j (ones * 3) ≡ nibble j ones * 3 = nibble_mul j ones 3 (λ k l. omega (arith, small k (omega arith))) in
      nibble_shr j pairs (ones * 3) 2 2 (omega arith) (rw thrice (omega (arith, small j h))) ∙ ap (bit_and (nibble j pairs / 4)) thrice

  nibble_lowering : (i : ℕ) → i < n
      → nibble i (lowering pairs first second) ≡ lowering (nibble i pairs) (nibble i first) (nibble i second)
  nibble_lowering i h =
      ap (nibble i) (at_once pairs (one * 2) two)
      ∙ nibble_sub i pairs (one * 2 + two) (lowering_le pairs (bit_or first second * 3) (bit_and first second * 3))
      (λ j l. rw (down j (omega arith)) (lowering_le (nibble j pairs) (nibble j (bit_or first second) * 3) (nibble j (bit_and first second) * 3)))
      ∙ ap (λ (q : ℕ). nibble i pairs - q)
      (down i h
      ∙ ap₂ (λ (a b : ℕ). bit_and (nibble i pairs / 4) (a * 3) * 2 + bit_and (nibble i pairs / 4) (b * 3))
      (nibble_or i first second) (nibble_and i first second))
      ∙ sym (at_once (nibble i pairs) _ _)
    where
      one : ℕ
      one = bit_and (pairs / 4) (bit_or first second * 3)

      two : ℕ
      two = bit_and (pairs / 4) (bit_and first second * 3)

      down : (j : ℕ) → j < n
          → nibble j (one * 2 + two)
          ≡ bit_and (nibble j pairs / 4) (nibble j (bit_or first second) * 3) * 2
          + bit_and (nibble j pairs / 4) (nibble j (bit_and first second) * 3)
      down j l =
          nibble_sum j one 2 two
          (λ k m. rw (upper_pair (bit_or first second) either_small k (omega arith), upper_pair (bit_and first second) both_small k (omega arith))
          (omega (arith, lowering_le (nibble k pairs) (nibble k (bit_or first second) * 3) (nibble k (bit_and first second) * 3), nibble_lt k pairs)))
          ∙ ap₂ (λ (a b : ℕ). a * 2 + b) (upper_pair (bit_or first second) either_small j l) (upper_pair (bit_and first second) both_small j l)

-- ---- the whole nibble

abbrev packed_four : ℕ → ℕ → ℕ
packed_four sample mask =
    let unmasked = 15 - mask in
    lowering (closing (bit_and sample mask) (bit_and unmasked 5)) (bit_and unmasked 1) (bit_and (unmasked / 2) 1)

packed_four_law : (s m : ℕ) → s < 16 → m < 16 → packed_four s m ≡ gathered 4 s m
unfolding gathered
packed_four_law s m hs hm =
    eqb→eq (packed_four s m) (gathered 4 s m)
    (every_below_law 16 (λ m. eqb (packed_four s m) (gathered 4 s m))
    (every_below_law 16 (λ s. every_below 16 (λ m. eqb (packed_four s m) (gathered 4 s m))) tt s hs) m hm)

module _ (mask : ℕ) (fits : mask < 2 ^ 32) where
  abbrev unmasked : ℕ
  unmasked = 4294967295 - mask

  -- some of the unmasked lines of each nibble, as they stand or one down
  nibble_some : (word c : ℕ) → Is word (λ _. c) → (i : ℕ) → i < 8 → nibble i (bit_and unmasked word) ≡ bit_and (15 - nibble i mask) c
  nibble_some word c t i h = nibble_and i unmasked word ∙ ap₂ bit_and (nibble_not i mask fits h) (nibble_of word (λ _. c) t i h)

  nibble_down : (word c : ℕ) → Is word (λ _. c) → c < 8 → (i : ℕ) → i < 8
      → nibble i (bit_and (unmasked / 2) word) ≡ bit_and ((15 - nibble i mask) / 2) c
  nibble_down word c t l i h =
      nibble_shr i unmasked word 3 1 (omega arith) (rw (nibble_of word (λ _. c) t i h) l)
      ∙ ap₂ (λ (x y : ℕ). bit_and (x / 2) y) (nibble_not i mask fits h) (nibble_of word (λ _. c) t i h)

  pub packed_nibbles : (sample pairs r : ℕ)
      → pairs ≡ closing (bit_and sample mask) (bit_and unmasked 0x55555555)
      → r ≡ lowering pairs (bit_and unmasked 0x11111111) (bit_and (unmasked / 2) 0x11111111)
      → (i : ℕ) → i < 8 → r / 2 ^ (4 * i) % 16 ≡ gathered 4 (sample / 2 ^ (4 * i)) (mask / 2 ^ (4 * i))
  packed_nibbles sample pairs r ep er i h =
      let free = 15 - nibble i mask in
      nibble_at i r ∙ ap (nibble i) er
      ∙ nibble_lowering pairs (bit_and unmasked 0x11111111) (bit_and (unmasked / 2) 0x11111111) 8
      (λ j l. rw (nibble_some 0x11111111 1 tt j l) (omega (arith, and_le_r (15 - nibble j mask) 1)))
      (λ j l. rw (nibble_down 0x11111111 1 tt (lit< tt) j l) (omega (arith, and_le_r ((15 - nibble j mask) / 2) 1))) i h
      ∙ ap₂ (lowering (nibble i pairs)) (nibble_some 0x11111111 1 tt i h) (nibble_down 0x11111111 1 tt (lit< tt) i h)
      ∙ ap (λ (q : ℕ). lowering q (bit_and free 1) (bit_and (free / 2) 1))
      (ap (nibble i) ep
      ∙ nibble_closing i (bit_and sample mask) (bit_and unmasked 0x55555555)
      (λ j l. rw (nibble_some 0x55555555 5 tt j (omega arith)) (omega (arith, and_le_r (15 - nibble j mask) 5)))
      ∙ ap₂ closing (nibble_and i sample mask) (nibble_some 0x55555555 5 tt i h))
      ∙ packed_four_law (nibble i sample) (nibble i mask) (nibble_lt i sample) (nibble_lt i mask)
      ∙ ap₂ (gathered 4) (sym (nibble_at i sample)) (sym (nibble_at i mask))
      ∙ gather_cut 4 (sample / 2 ^ (4 * i)) (mask / 2 ^ (4 * i))
