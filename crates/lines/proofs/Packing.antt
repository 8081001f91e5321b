-- The lines of a sample packed byte by byte, from the highest byte down: one turn of the loop of `gather`, which shifts and
-- masks the sample [L3]. Assumes nothing.
use mathlib.Core.Path.{◌≡◌, sym, ap, ap₂, subst, ◌∙◌}
use Prim.Native.Nat.{ℕ, ◌+◌, ◌-◌, ◌*◌, ◌/◌, ◌%◌, ◌^◌, ◌≤◌, ◌<◌}
use native.Mathlib.Nat.{add-mul, add_comm, mul_assoc}
use native.Mathlib.Omega.{arith}
use lib.Bits.{bit_and, and_high, and_mask}
use lib.Count.{ones_in}
use lib.Dec.{lit<}
use lib.Pow.{high_ones, pow-add, shl_lt, shl-shr, shl_exact, shr-shr}
use Rattle.lines.specs.Gather.{gathered}
use Rattle.lines.proofs.Gathering.{gather_lt_lines, gather_split}
use Rattle.lines.proofs.Ones.{ones_in_le}

-- a number at place a comes down by a gap
come_down : (x a c at gap : ℕ) → a ≡ c + at + gap → x * 2 ^ a / 2 ^ gap ≡ x * 2 ^ c * 2 ^ at
come_down x a c at gap e =
    ap (λ (q : ℕ). q / 2 ^ gap)
    (ap (λ (b : ℕ). x * 2 ^ b) e ∙ ap (λ (q : ℕ). x * q) (pow-add 2 (c + at) gap) ∙ sym (mul_assoc x (2 ^ (c + at)) (2 ^ gap)))
    ∙ shl-shr (x * 2 ^ (c + at)) gap ∙ ap (λ (q : ℕ). x * q) (pow-add 2 c at) ∙ sym (mul_assoc x (2 ^ c) (2 ^ at))

-- the nibble at place k, left where it stands
nibble_cut : (x k : ℕ) → bit_and x (15 * 2 ^ k) ≡ x / 2 ^ k % 16 * 2 ^ k
nibble_cut x k = ap (bit_and x) (sym (high_ones 4 k)) ∙ and_high x 4 k

module _ (sample mask : ℕ) where
  -- the lines of the bytes from i up, packed
  abbrev pub bytes_from : ℕ → ℕ
  bytes_from i = gathered (8 * (4 - i)) (sample / 2 ^ (8 * i)) (mask / 2 ^ (8 * i))

  bytes_lt : (i : ℕ) → i ≤ 4 → bytes_from i * 2 ^ (8 * i) < 2 ^ 32
  bytes_lt i h =
      let all : 8 * (4 - i) + 8 * i ≡ 32 = omega arith in
      subst (λ (b : ℕ). bytes_from i * 2 ^ (8 * i) < 2 ^ b) all
      (shl_lt (8 * (4 - i)) (8 * i) (gather_lt_lines (8 * (4 - i)) (sample / 2 ^ (8 * i)) (mask / 2 ^ (8 * i))))

  module _ (lower gaps nibbles : ℕ)
      (lowers : (j : ℕ) → j < 4 → lower / 2 ^ (8 * j) % 16 ≡ 4 - ones_in 4 (mask / 2 ^ (8 * j)))
      (counts : (j : ℕ) → j < 4 → gaps / 2 ^ (8 * j) % 16 ≡ 8 - ones_in 8 (mask / 2 ^ (8 * j)))
      (packs : (j : ℕ) → j < 8 → nibbles / 2 ^ (4 * j) % 16 ≡ gathered 4 (sample / 2 ^ (4 * j)) (mask / 2 ^ (4 * j))) where
    -- the lines of byte j, packed, where they stand
    byte_packed : (j : ℕ) → j < 4
        → bit_and nibbles (15 * 2 ^ (8 * j) % 4294967296)
        + bit_and nibbles (240 * 2 ^ (8 * j) % 4294967296) / 2 ^ bit_and (lower / 2 ^ (8 * j)) 15
        ≡ gathered 8 (sample / 2 ^ (8 * j)) (mask / 2 ^ (8 * j)) * 2 ^ (8 * j)
    byte_packed j h =
        let at = 8 * j in
        let c = ones_in 4 (mask / 2 ^ at) in
        let few = ones_in_le 4 (mask / 2 ^ at) in
        let gap = and_mask (lower / 2 ^ at) 4 ∙ lowers j h in
        let part : (i k : ℕ) → i < 8 → 4 * i ≡ k → bit_and nibbles (15 * 2 ^ k) ≡ gathered 4 (sample / 2 ^ k) (mask / 2 ^ k) * 2 ^ k =
        λ i k l e. nibble_cut nibbles k
        ∙ ap (λ (q : ℕ). q * 2 ^ k) (subst (λ (b : ℕ). nibbles / 2 ^ b % 16 ≡ gathered 4 (sample / 2 ^ b) (mask / 2 ^ b)) e (packs i l)) in
        let above : (x : ℕ) → x / 2 ^ (4 + at) ≡ x / 2 ^ at / 2 ^ 4 = λ x. ap (λ (b : ℕ). x / 2 ^ b) (add_comm 4 at) ∙ sym (shr-shr x at 4) in
        let low = gathered 4 (sample / 2 ^ at) (mask / 2 ^ at) in
        let high = gathered 4 (sample / 2 ^ (4 + at)) (mask / 2 ^ (4 + at)) in
        let lowest : bit_and nibbles (15 * 2 ^ at % 4294967296) ≡ low * 2 ^ at =
        ap (bit_and nibbles) (shl_exact 4 at 32 (lit< tt) (omega arith)) ∙ part (2 * j) at (omega arith) (omega arith) in
        let upper : bit_and nibbles (240 * 2 ^ at % 4294967296) ≡ high * 2 ^ (4 + at) =
        ap (bit_and nibbles)
        (shl_exact 8 at 32 (lit< tt) (omega arith) ∙ mul_assoc 15 16 (2 ^ at) ∙ ap (λ (q : ℕ). 15 * q) (sym (pow-add 2 4 at)))
        ∙ part (2 * j + 1) (4 + at) (omega arith) (omega arith) in
        ap₂ ◌+◌ lowest
        (ap (λ (q : ℕ). q / 2 ^ bit_and (lower / 2 ^ at) 15) upper
        ∙ come_down high (4 + at) c at (bit_and (lower / 2 ^ at) 15) (omega arith))
        ∙ add_comm (low * 2 ^ at) (high * 2 ^ c * 2 ^ at) ∙ sym (add-mul (high * 2 ^ c) low (2 ^ at))
        ∙ ap (λ (q : ℕ). q * 2 ^ at)
        (ap (λ (q : ℕ). q * 2 ^ c + low) (ap₂ (gathered 4) (above sample) (above mask)) ∙ sym (gather_split 4 4 (sample / 2 ^ at) (mask / 2 ^ at)))

    -- one turn: what is above byte i - 1 comes down by its unmasked lines, and the byte goes in below
    pub turn : (i packed : ℕ) → 0 < i → i ≤ 4 → packed ≡ bytes_from i * 2 ^ (8 * i)
        → packed / 2 ^ bit_and (gaps / 2 ^ (8 * (i - 1))) 15
        + (bit_and nibbles (15 * 2 ^ (8 * (i - 1)) % 4294967296)
        + bit_and nibbles (240 * 2 ^ (8 * (i - 1)) % 4294967296) / 2 ^ bit_and (lower / 2 ^ (8 * (i - 1))) 15)
        ≡ bytes_from (i - 1) * 2 ^ (8 * (i - 1))
    turn i packed hi h e =
        let at = 8 * (i - 1) in
        let c = ones_in 8 (mask / 2 ^ at) in
        let few = ones_in_le 8 (mask / 2 ^ at) in
        let gap = and_mask (gaps / 2 ^ at) 4 ∙ counts (i - 1) (omega arith) in
        let byte = gathered 8 (sample / 2 ^ at) (mask / 2 ^ at) in
        let up : at + 8 ≡ 8 * i = omega arith in
        let more : 8 + 8 * (4 - i) ≡ 8 * (4 - (i - 1)) = omega arith in
        let above : (x : ℕ) → x / 2 ^ (8 * i) ≡ x / 2 ^ at / 2 ^ 8 = λ x. ap (λ (b : ℕ). x / 2 ^ b) (sym up) ∙ sym (shr-shr x at 8) in
        ap₂ ◌+◌
        (ap (λ (q : ℕ). q / 2 ^ bit_and (gaps / 2 ^ at) 15) e
        ∙ come_down (bytes_from i) (8 * i) c at (bit_and (gaps / 2 ^ at) 15) (omega arith))
        (byte_packed (i - 1) (omega arith))
        ∙ sym (add-mul (bytes_from i * 2 ^ c) byte (2 ^ at))
        ∙ ap (λ (q : ℕ). q * 2 ^ at)
        (ap (λ (q : ℕ). q * 2 ^ c + byte) (ap₂ (gathered (8 * (4 - i))) (above sample) (above mask))
        ∙ sym (gather_split 8 (8 * (4 - i)) (sample / 2 ^ at) (mask / 2 ^ at))
        ∙ ap (λ (k : ℕ). gathered k (sample / 2 ^ at) (mask / 2 ^ at)) more)

    pub turn_lt : (i packed : ℕ) → 0 < i → i ≤ 4 → packed ≡ bytes_from i * 2 ^ (8 * i)
        → packed / 2 ^ bit_and (gaps / 2 ^ (8 * (i - 1))) 15
        + (bit_and nibbles (15 * 2 ^ (8 * (i - 1)) % 4294967296)
        + bit_and nibbles (240 * 2 ^ (8 * (i - 1)) % 4294967296) / 2 ^ bit_and (lower / 2 ^ (8 * (i - 1))) 15)
        < 2 ^ 32
    turn_lt i packed hi h e = rw (turn i packed hi h e) (bytes_lt (i - 1) (omega arith))
