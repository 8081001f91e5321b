-- The unmasked lines of each byte of a word and of its lower nibble, counted. What is done to one nibble is tried on all
-- of them; what is done to a word is that in each nibble. Assumes nothing.
use mathlib.Core.Path.{◌≡◌, sym, ap, ap₂, ◌∙◌}
use Prim.Native.Nat.{ℕ, zero, suc, ◌+◌, ◌-◌, ◌*◌, ◌/◌, ◌%◌, ◌^◌, ◌≤◌, ◌<◌}
use native.Mathlib.Omega.{arith}
use lib.Bits.{bit_and, and_le_r}
use lib.Count.{ones_in}
use lib.Dec.{eqb, eqb→eq, lit<}
use lib.Pow.{shr-shr}
use Rattle.lines.specs.Line.{choose}
use Rattle.lines.proofs.Computed.{every_below_law}
use Rattle.lines.proofs.Nibble.{nibble, nibble_at, nibble_lt, nibble_of, nibble_and, nibble_shr, nibble_add, nibble_not, closing, nibble_closing}
use Rattle.lines.proofs.Ones.{ones_in_le, ones_cut, ones_split}

-- two counts of pairs added, where the word threes has a 3
abbrev pub counting : ℕ → ℕ → ℕ
counting threes pairs = bit_and pairs threes + bit_and (pairs / 4) threes

counted_four : (m : ℕ) → m < 16 → counting 3 (closing (15 - m) 5) ≡ 4 - ones_in 4 m
unfolding ones_in
counted_four m h =
    eqb→eq (counting 3 (closing (15 - m) 5)) (4 - ones_in 4 m)
    (every_below_law 16 (λ m. eqb (counting 3 (closing (15 - m) 5)) (4 - ones_in 4 m)) tt m h)

-- the threes of every second nibble
abbrev threes : ℕ → ℕ
threes j = choose (j % 2) 3 0

threes_le : (j : ℕ) → threes j ≤ 3
threes_le j = go (j % 2)
  where
    go : (d : ℕ) → choose d 3 0 ≤ 3
    go zero = omega arith
    go (suc d) = omega arith

nibble_counting : (pairs i : ℕ) → i < 8 → nibble i (counting 0x03030303 pairs) ≡ counting (threes i) (nibble i pairs)
nibble_counting pairs i h =
    nibble_add i (bit_and pairs 0x03030303) (bit_and (pairs / 4) 0x03030303)
    (λ j l. rw (low j (omega arith), high j (omega arith))
    (omega (arith, threes_le j, and_le_r (nibble j pairs) (threes j), and_le_r (nibble j pairs / 4) (threes j))))
    ∙ ap₂ ◌+◌ (low i h) (high i h)
  where
    low : (j : ℕ) → j < 8 → nibble j (bit_and pairs 0x03030303) ≡ bit_and (nibble j pairs) (threes j)
    low j l = nibble_and j pairs 0x03030303 ∙ ap (bit_and (nibble j pairs)) (nibble_of 0x03030303 threes tt j l)

    high : (j : ℕ) → j < 8 → nibble j (bit_and (pairs / 4) 0x03030303) ≡ bit_and (nibble j pairs / 4) (threes j)
    high j l =
        nibble_shr j pairs 0x03030303 2 2 (omega arith) (rw (nibble_of 0x03030303 threes tt j l) (omega (arith, threes_le j)))
        ∙ ap (bit_and (nibble j pairs / 4)) (nibble_of 0x03030303 threes tt j l)

six_le : (pairs i : ℕ) → i < 8 → nibble i (counting 0x03030303 pairs) ≤ 6
six_le pairs i h =
    rw (nibble_counting pairs i h)
    (omega (arith, threes_le i, and_le_r (nibble i pairs) (threes i), and_le_r (nibble i pairs / 4) (threes i)))

module _ (mask : ℕ) (fits : mask < 2 ^ 32) (pairs : ℕ) (made : pairs ≡ closing (4294967295 - mask) 0x55555555) where
  -- the unmasked lines of a nibble, counted
  unmasked_four : (i : ℕ) → i < 8 → counting 3 (nibble i pairs) ≡ 4 - ones_in 4 (mask / 2 ^ (4 * i))
  unmasked_four i h =
      ap (λ (q : ℕ). counting 3 (nibble i q)) made
      ∙ ap (counting 3)
      (nibble_closing i (4294967295 - mask) 0x55555555 (λ j l. rw (nibble_of 0x55555555 (λ _. 5) tt j (omega arith)) (lit< tt))
      ∙ ap₂ closing (nibble_not i mask fits h) (nibble_of 0x55555555 (λ _. 5) tt i h))
      ∙ counted_four (nibble i mask) (nibble_lt i mask)
      ∙ ap (λ (q : ℕ). 4 - ones_in 4 q) (sym (nibble_at i mask))
      ∙ ap (λ (q : ℕ). 4 - q) (ones_cut 4 (mask / 2 ^ (4 * i)))

  -- a byte's lower nibble is an even one
  even_nibble : (i x : ℕ) → i < 4 → nibble (2 * i) (counting 0x03030303 x) ≡ counting 3 (nibble (2 * i) x)
  even_nibble i x h =
      let even : 2 * i % 2 ≡ 0 = omega arith in
      nibble_counting x (2 * i) (omega arith) ∙ ap (λ (d : ℕ). counting (choose d 3 0) (nibble (2 * i) x)) even

  byte_at : (i x : ℕ) → x / 2 ^ (8 * i) % 16 ≡ nibble (2 * i) x
  byte_at i x = let twice : 8 * i ≡ 4 * (2 * i) = omega arith in ap (λ (j : ℕ). x / 2 ^ j % 16) twice ∙ nibble_at (2 * i) x

  pub unmasked_in_lower : (r : ℕ) → r ≡ counting 0x03030303 pairs
      → (i : ℕ) → i < 4 → r / 2 ^ (8 * i) % 16 ≡ 4 - ones_in 4 (mask / 2 ^ (8 * i))
  unmasked_in_lower r er i h =
      let twice : 4 * (2 * i) ≡ 8 * i = omega arith in
      byte_at i r ∙ ap (nibble (2 * i)) er ∙ even_nibble i pairs h ∙ unmasked_four (2 * i) (omega arith)
      ∙ ap (λ (j : ℕ). 4 - ones_in 4 (mask / 2 ^ j)) twice

  pub unmasked_in_bytes : (a b : ℕ) → a ≡ counting 0x03030303 pairs → b ≡ counting 0x03030303 (pairs / 16)
      → (i : ℕ) → i < 4 → (a + b) / 2 ^ (8 * i) % 16 ≡ 8 - ones_in 8 (mask / 2 ^ (8 * i))
  unmasked_in_bytes a b ea eb i h =
      let x = mask / 2 ^ (8 * i) in
      let up : 4 * suc (2 * i) ≡ 8 * i + 4 = omega arith in
      let upper : mask / 2 ^ (4 * suc (2 * i)) ≡ x / 2 ^ 4 = ap (λ (j : ℕ). mask / 2 ^ j) up ∙ sym (shr-shr mask (8 * i) 4) in
      byte_at i (a + b)
      ∙ nibble_add (2 * i) a b (λ j l. rw (ea, eb) (omega (arith, six_le pairs j (omega arith), six_le (pairs / 16) j (omega arith))))
      ∙ ap₂ ◌+◌ (sym (byte_at i a) ∙ unmasked_in_lower a ea i h)
      (ap (nibble (2 * i)) eb ∙ even_nibble i (pairs / 16) h ∙ unmasked_four (suc (2 * i)) (omega arith) ∙ ap (λ (q : ℕ). 4 - ones_in 4 q) upper)
      ∙ omega (arith, ones_split 4 4 x, ones_in_le 4 (x / 2 ^ 4), ones_in_le 4 x)
