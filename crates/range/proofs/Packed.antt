-- Answers packed two bits to a line, and the lines of the packed words. Assumes nothing.
use Rattle.std.proofs.Common.{◌≡◌, ℕ, zero, suc, ◌+◌, ◌-◌, ◌*◌, ◌/◌, ◌%◌, ◌^◌, ◌<◌, ◌≤◌, eqb, ltb, List, get_or, take, drop, sym, ap, ◌∙◌, ap₂, mod-lt, mod-eq_of_lt, div-one, add-one, lt_of_lt_of_le, pow_mono, get_or-take, get_or-drop, arith, lit<, eqb→eq, bit_and, bit_or, bit_xor}
use native.Mathlib.Decide.{ℕ_discrete, dec_lt}
use lib.Bits.{and_block, and_mask, and_zero_r, or_zero_l, or_zero_r, and_le_l, and_le_r, or_lt, xor_lt}
use lib.Pow as pow
use Rattle.lines.specs.Line.{line}
use Rattle.lines.proofs.Computed.{every_below_law}
use Rattle.lines.proofs.Digit.{bit_lt, line_half, line_up, line_mod, line_and, line_or}
use Rattle.lut.specs.Table.{answer_at, high, low, one_if}
use Rattle.range.specs.Model.{table_at, chain_carry}
use Rattle.range.proofs.Compared.{compared}

-- ---- two bits of each of m numbers, the first one's highest

unfoldable pub quads : (ℕ → ℕ) → ℕ → ℕ
quads f zero = 0
quads f (suc m) = quads f m * 4 + f m % 4

pub quads_next : (f : ℕ → ℕ) (m : ℕ) → quads f (m + 1) ≡ quads f m * 4 + f m % 4
unfolding quads
quads_next f m = ap (quads f) (add-one m)

pub quads_lt : (f : ℕ → ℕ) (m : ℕ) → quads f m < 2 ^ (2 * m)
unfolding quads
quads_lt f zero = lit< tt
quads_lt f (suc m) =
    let more : 2 * suc m ≡ 2 * m + 2 = omega arith in
    let up : 2 ^ (2 * suc m) ≡ 2 ^ (2 * m) * 4 = ap (λ (j : ℕ). 2 ^ j) more ∙ pow.pow-add 2 (2 * m) 2 in
    let before = quads_lt f m in
    omega (arith, up)

lowest : (q d : ℕ) → (q * 4 + d % 4) % 2 ≡ d % 2
lowest q d = omega arith

second : (q d : ℕ) → (q * 4 + d % 4) / 2 % 2 ≡ d / 2 % 2
second q d = omega arith

others : (q d : ℕ) → (q * 4 + d % 4) / 2 / 2 ≡ q
others q d = omega arith

pub quads_line : (f : ℕ → ℕ) (m j : ℕ) → j < 2 * m → line (quads f m) j ≡ line (f (m - 1 - j / 2)) (j % 2)
unfolding quads
quads_line f zero j h = absurd (omega arith)
quads_line f (suc m) zero h =
    let at : suc m - 1 - 0 / 2 ≡ m = omega arith in
    ap (λ (x : ℕ). x % 2) (div-one (quads f m * 4 + f m % 4)) ∙ lowest (quads f m) (f m) ∙ ap (λ (x : ℕ). x % 2) (sym (div-one (f m)))
    ∙ ap (λ (n : ℕ). line (f n) 0) (sym at)
quads_line f (suc m) (suc zero) h =
    let at : suc m - 1 - 1 / 2 ≡ m = omega arith in
    second (quads f m) (f m) ∙ ap (λ (n : ℕ). line (f n) 1) (sym at)
quads_line f (suc m) (suc (suc j)) h =
    let at : m - 1 - j / 2 ≡ suc m - 1 - suc (suc j) / 2 = omega arith in
    let bit : j % 2 ≡ suc (suc j) % 2 = omega arith in
    line_half (quads f m * 4 + f m % 4) (suc j) ∙ line_half ((quads f m * 4 + f m % 4) / 2) j
    ∙ ap (λ (x : ℕ). line x j) (others (quads f m) (f m)) ∙ quads_line f m j (omega arith) ∙ ap₂ (λ (n v : ℕ). line (f n) v) at bit

-- ---- both tables of a word at once

pub both : (w : ℕ) → bit_and w 0x30003 ≡ low w % 4 + 65536 * (high w % 4)
both w =
    let whole : w ≡ high w * 2 ^ 16 + low w = omega arith in
    ap (λ (x : ℕ). bit_and x 0x30003) whole ∙ and_block 16 (high w) 3 (low w) 3 (omega arith) (omega arith)
    ∙ ap₂ (λ (a b : ℕ). a * 2 ^ 16 + b) (and_mask (high w) 2) (and_mask (low w) 2) ∙ omega arith

-- ---- a number of two halves, line by line

module _ (hi lo : ℕ) (h : lo < 65536) where
  pub lower_line : (i : ℕ) → i < 16 → line (hi * 65536 + lo) i ≡ line lo i
  lower_line i l = sym (line_mod (hi * 65536 + lo) 16 i l) ∙ ap (λ (x : ℕ). line x i) (pow.low hi 16 h)

  pub upper_line : (i : ℕ) → line (hi * 65536 + lo) (i + 16) ≡ line hi i
  upper_line i = line_up (hi * 65536 + lo) i 16 ∙ ap (λ (x : ℕ). line x i) (pow.high hi 16 h)

-- ---- from pairs of bits to lines

parity : {P : Type 0} (i : ℕ) → (i % 2 ≡ 0 → P) → (i % 2 ≡ 1 → P) → P
parity i f g =
    elim (ℕ_discrete (i % 2) 0) [
      | yes e ↦ f e
      | no ne ↦ g (omega arith)
    ]

below_or : {P : Type 0} (n i : ℕ) → (i < n → P) → ((j : ℕ) → i ≡ j + n → P) → P
below_or n i f g =
    elim (dec_lt i n) [
      | yes l ↦ f l
      | no ge ↦ g (i - n) (omega arith)
    ]

pick_first : (d e m n : ℕ) → d < 2 → m ≡ 1 → n ≡ 0 → bit_or (bit_and d m) (bit_and e n) ≡ d
pick_first d e m n h em en =
    ap₂ (λ (a b : ℕ). bit_or (bit_and d a) (bit_and e b)) em en ∙ ap₂ bit_or (and_mask d 1 ∙ mod-eq_of_lt h) (and_zero_r e) ∙ or_zero_r d

pick_second : (d e m n : ℕ) → e < 2 → m ≡ 0 → n ≡ 1 → bit_or (bit_and d m) (bit_and e n) ≡ e
pick_second d e m n h em en =
    ap₂ (λ (a b : ℕ). bit_or (bit_and d a) (bit_and e b)) em en ∙ ap₂ bit_or (and_zero_r d) (and_mask e 1 ∙ mod-eq_of_lt h) ∙ or_zero_l e

fives : (i : ℕ) → i < 32 → line 0x55555555 i ≡ 1 - i % 2
fives i h = eqb→eq (line 0x55555555 i) (1 - i % 2) (every_below_law 32 (λ j. eqb (line 0x55555555 j) (1 - j % 2)) tt i h)

tens : (i : ℕ) → i < 32 → line 0xAAAAAAAA i ≡ i % 2
tens i h = eqb→eq (line 0xAAAAAAAA i) (i % 2) (every_below_law 32 (λ j. eqb (line 0xAAAAAAAA j) (j % 2)) tt i h)

masked : (x y m n i : ℕ) → line (bit_or (bit_and x m) (bit_and y n)) i ≡ bit_or (bit_and (line x i) (line m i)) (bit_and (line y i) (line n i))
masked x y m n i = line_or (bit_and x m) (bit_and y n) i ∙ ap₂ bit_or (line_and x m i) (line_and y n i)

even_table : (chain : List ℕ) (i : ℕ) → i % 2 ≡ 0 → low (get_or chain (15 - i / 2) 0) ≡ table_at chain i
even_table chain i e = rw e

odd_table : (chain : List ℕ) (i : ℕ) → i % 2 ≡ 1 → high (get_or chain (15 - i / 2) 0) ≡ table_at chain i
odd_table chain i e = rw e

doubled : (x : ℕ) → x * 2 / 2 ≡ x
doubled x = omega arith

module _ (chain : List ℕ) (even odd : ℕ)
    (even-at : (i : ℕ) → i < 32 → line even i ≡ answer_at (low (get_or chain (15 - i / 2) 0)) (i % 2))
    (odd-at : (i : ℕ) → i < 32 → line odd i ≡ answer_at (high (get_or chain (15 - i / 2) 0)) (i % 2)) where
  at_zero_even : (i : ℕ) → i < 32 → i % 2 ≡ 0 → line (bit_or (bit_and even 0x55555555) (bit_and (odd * 2 % 4294967296) 0xAAAAAAAA)) i ≡ answer_at (table_at chain i) 0
  at_zero_even i h e =
      masked even (odd * 2 % 4294967296) 0x55555555 0xAAAAAAAA i
      ∙ pick_first (line even i) (line (odd * 2 % 4294967296) i) _ _ (bit_lt _) (fives i h ∙ ap (λ (v : ℕ). 1 - v) e) (tens i h ∙ e)
      ∙ even-at i h ∙ ap₂ answer_at (even_table chain i e) e

  at_zero_odd : (i : ℕ) → i < 32 → i % 2 ≡ 1 → line (bit_or (bit_and even 0x55555555) (bit_and (odd * 2 % 4294967296) 0xAAAAAAAA)) i ≡ answer_at (table_at chain i) 0
  at_zero_odd zero h e = absurd (omega arith)
  at_zero_odd (suc k) h e =
      let half : 15 - k / 2 ≡ 15 - suc k / 2 = omega arith in
      let bit : k % 2 ≡ 0 = omega arith in
      masked even (odd * 2 % 4294967296) 0x55555555 0xAAAAAAAA (suc k)
      ∙ pick_second (line even (suc k)) (line (odd * 2 % 4294967296) (suc k)) _ _ (bit_lt _) (fives (suc k) h ∙ ap (λ (v : ℕ). 1 - v) e) (tens (suc k) h ∙ e)
      ∙ line_mod (odd * 2) 32 (suc k) h ∙ line_half (odd * 2) k ∙ ap (λ (x : ℕ). line x k) (doubled odd) ∙ odd-at k (omega arith)
      ∙ ap₂ (λ (n v : ℕ). answer_at (high (get_or chain n 0)) v) half bit ∙ ap (λ (t : ℕ). answer_at t 0) (odd_table chain (suc k) e)

  at_one_even : (i : ℕ) → i < 32 → i % 2 ≡ 0 → line (bit_or (bit_and (even / 2) 0x55555555) (bit_and odd 0xAAAAAAAA)) i ≡ answer_at (table_at chain i) 1
  at_one_even i h e =
      let half : 15 - suc i / 2 ≡ 15 - i / 2 = omega arith in
      let bit : suc i % 2 ≡ 1 = omega arith in
      masked (even / 2) odd 0x55555555 0xAAAAAAAA i
      ∙ pick_first (line (even / 2) i) (line odd i) _ _ (bit_lt _) (fives i h ∙ ap (λ (v : ℕ). 1 - v) e) (tens i h ∙ e)
      ∙ sym (line_half even i) ∙ even-at (suc i) (omega arith)
      ∙ ap₂ (λ (n v : ℕ). answer_at (low (get_or chain n 0)) v) half bit ∙ ap (λ (t : ℕ). answer_at t 1) (even_table chain i e)

  at_one_odd : (i : ℕ) → i < 32 → i % 2 ≡ 1 → line (bit_or (bit_and (even / 2) 0x55555555) (bit_and odd 0xAAAAAAAA)) i ≡ answer_at (table_at chain i) 1
  at_one_odd i h e =
      masked (even / 2) odd 0x55555555 0xAAAAAAAA i
      ∙ pick_second (line (even / 2) i) (line odd i) _ _ (bit_lt _) (fives i h ∙ ap (λ (v : ℕ). 1 - v) e) (tens i h ∙ e)
      ∙ odd-at i h ∙ ap₂ answer_at (odd_table chain i e) e

  pub at_zero : (i : ℕ) → i < 32 → line (bit_or (bit_and even 0x55555555) (bit_and (odd * 2 % 4294967296) 0xAAAAAAAA)) i ≡ answer_at (table_at chain i) 0
  at_zero i h = parity i (at_zero_even i h) (at_zero_odd i h)

  pub at_one : (i : ℕ) → i < 32 → line (bit_or (bit_and (even / 2) 0x55555555) (bit_and odd 0xAAAAAAAA)) i ≡ answer_at (table_at chain i) 1
  at_one i h = parity i (at_one_even i h) (at_one_odd i h)

-- ---- eight words, one after the other

-- their tables
abbrev pub lows : (words : List ℕ) (k : ℕ) → ℕ
lows words k = low (get_or words k 0)

abbrev pub highs : (words : List ℕ) (k : ℕ) → ℕ
highs words k = high (get_or words k 0)

-- what they are packed to
abbrev pub Low : (words : List ℕ) (r : ℕ) → Type 0
Low words r = (j : ℕ) → j < 16 → line r j ≡ answer_at (lows words (7 - j / 2)) (j % 2)

abbrev pub High : (words : List ℕ) (r : ℕ) → Type 0
High words r = (j : ℕ) → j < 16 → line r (j + 16) ≡ answer_at (highs words (7 - j / 2)) (j % 2)

-- seven have room for one more
room : (f : ℕ → ℕ) (k : ℕ) → k < 8 → quads f k < 16384
room f k h = lt_of_lt_of_le (quads_lt f k) (pow_mono {i = 2 * k} {j = 14} (omega arith))

full : (f : ℕ → ℕ) (k : ℕ) → k ≤ 8 → quads f k < 65536
full f k h = lt_of_lt_of_le (quads_lt f k) (pow_mono {i = 2 * k} {j = 16} (omega arith))

module _ (words : List ℕ) (r k : ℕ) (e : r ≡ quads (highs words) k * 65536 + quads (lows words) k) where
  pub packed_fits : k < 8 → r * 4 < 4294770688
  packed_fits h = omega (arith, e, room (highs words) k h, room (lows words) k h)

  pub packed_more : r * 4 + bit_and (get_or words k 0) 0x30003 ≡ quads (highs words) (k + 1) * 65536 + quads (lows words) (k + 1)
  packed_more = omega (arith, e, both (get_or words k 0), quads_next (highs words) k, quads_next (lows words) k)

  pub packed_low : k ≡ 8 → Low words r
  packed_low h j l =
      ap (λ (x : ℕ). line x j) e ∙ lower_line (quads (highs words) k) (quads (lows words) k) (full (lows words) k (omega arith)) j l
      ∙ ap (λ (n : ℕ). line (quads (lows words) n) j) h ∙ quads_line (lows words) 8 j (omega arith)

  pub packed_high : k ≡ 8 → High words r
  packed_high h j l =
      ap (λ (x : ℕ). line x (j + 16)) e ∙ upper_line (quads (highs words) k) (quads (lows words) k) (full (lows words) k (omega arith)) j
      ∙ ap (λ (n : ℕ). line (quads (highs words) n) j) h ∙ quads_line (highs words) 8 j (omega arith)

-- ---- both halves of a chain

-- where the words of its halves stand
in_first : (chain : List ℕ) (k n : ℕ) → k < 8 → k ≡ n → get_or (take 8 chain) k 0 ≡ get_or chain n 0
in_first chain k n h e = get_or-take 8 chain k 0 h ∙ ap (λ (m : ℕ). get_or chain m 0) e

in_second : (chain : List ℕ) (k n : ℕ) → 8 + k ≡ n → get_or (drop 8 chain) k 0 ≡ get_or chain n 0
in_second chain k n e = get_or-drop 8 chain k 0 ∙ ap (λ (m : ℕ). get_or chain m 0) e

module _ (chain : List ℕ) (a b : ℕ) (fits : b < 4294967296) where
  pub even_lines : Low (take 8 chain) a → Low (drop 8 chain) b → (i : ℕ) → i < 32
      → line (a % 65536 * 65536 + b % 65536) i ≡ answer_at (low (get_or chain (15 - i / 2) 0)) (i % 2)
  even_lines la lb i h = below_or 16 i
      (λ l. let at = in_second chain (7 - i / 2) (15 - i / 2) (omega arith) in
      lower_line (a % 65536) (b % 65536) (mod-lt b (lit< tt)) i l ∙ line_mod b 16 i l ∙ lb i l ∙ ap (λ (w : ℕ). answer_at (low w) (i % 2)) at)
      (λ j e. let at = in_first chain (7 - j / 2) (15 - i / 2) (omega arith) (omega arith) in
      let bit : j % 2 ≡ i % 2 = omega arith in
      let l : j < 16 = omega arith in
      ap (line (a % 65536 * 65536 + b % 65536)) e ∙ upper_line (a % 65536) (b % 65536) (mod-lt b (lit< tt)) j ∙ line_mod a 16 j l ∙ la j l
      ∙ ap₂ (λ (w v : ℕ). answer_at (low w) v) at bit)

  pub odd_lines : High (take 8 chain) a → High (drop 8 chain) b → (i : ℕ) → i < 32
      → line (a / 65536 * 65536 + b / 65536) i ≡ answer_at (high (get_or chain (15 - i / 2) 0)) (i % 2)
  odd_lines ha hb i h = below_or 16 i
      (λ l. let at = in_second chain (7 - i / 2) (15 - i / 2) (omega arith) in
      lower_line (a / 65536) (b / 65536) (omega arith) i l ∙ sym (line_up b i 16) ∙ hb i l ∙ ap (λ (w : ℕ). answer_at (high w) (i % 2)) at)
      (λ j e. let at = in_first chain (7 - j / 2) (15 - i / 2) (omega arith) (omega arith) in
      let bit : j % 2 ≡ i % 2 = omega arith in
      ap (line (a / 65536 * 65536 + b / 65536)) e ∙ upper_line (a / 65536) (b / 65536) (omega arith) j ∙ sym (line_up a j 16) ∙ ha j (omega arith)
      ∙ ap₂ (λ (w v : ℕ). answer_at (high w) v) at bit)

-- all of it
module _ (chain : List ℕ) (sample a b : ℕ) (hs : sample < 4294967296) (fits : b < 4294967296)
    (la : Low (take 8 chain) a) (ha : High (take 8 chain) a) (lb : Low (drop 8 chain) b) (hb : High (drop 8 chain) b) where
  abbrev pub even : ℕ
  even = a % 65536 * 65536 + b % 65536

  abbrev pub odd : ℕ
  odd = a / 65536 * 65536 + b / 65536

  abbrev pub all_zero : ℕ
  all_zero = bit_or (bit_and even 0x55555555) (bit_and (odd * 2 % 4294967296) 0xAAAAAAAA)

  abbrev pub all_one : ℕ
  all_one = bit_or (bit_and (even / 2) 0x55555555) (bit_and odd 0xAAAAAAAA)

  pub carried : (r : ℕ) → r ≡ one_if (ltb (bit_xor 0xFFFFFFFF (bit_or sample all_zero)) (bit_xor sample (bit_and sample all_one))) → r ≡ chain_carry chain sample
  carried r e =
      let five : bit_and even 0x55555555 < 4294967296 = omega (arith, and_le_r even 0x55555555) in
      let ten : bit_and (odd * 2 % 4294967296) 0xAAAAAAAA < 4294967296 = omega (arith, and_le_r (odd * 2 % 4294967296) 0xAAAAAAAA) in
      let within : bit_and sample all_one < 4294967296 = omega (arith, and_le_l sample all_one) in
      compared chain sample all_zero all_one
      (at_zero chain even odd (even_lines chain a b fits la lb) (odd_lines chain a b fits ha hb))
      (at_one chain even odd (even_lines chain a b fits la lb) (odd_lines chain a b fits ha hb))
      r (xor_lt 32 sample (bit_and sample all_one) hs within)
      (xor_lt 32 0xFFFFFFFF (bit_or sample all_zero) (lit< tt) (or_lt 32 sample all_zero hs (or_lt 32 _ _ five ten))) e
