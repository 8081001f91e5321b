-- The sixteen sources of a pattern are the eight of its first half and the eight of its last, and every two halves are
-- a pattern; a mid's answer depends on its own half alone. Assumes nothing.
use Prim.Native.Nat.{ℕ, zero, suc, ◌+◌, ◌*◌, ◌/◌, ◌%◌, ◌<◌}
use mathlib.Core.Path.{◌≡◌, sym, ap, ap₂, subst, ◌∙◌}
use mathlib.Core.List.{List}
use native.Mathlib.Omega.{arith}
use lib.Dec.{lit<}
use lib.ListN.{get_or}
use Rattle.lines.specs.Line.{line}
use Rattle.lines.proofs.Digit.{line_mod, line_up}
use Rattle.lut.specs.Table.{answer_at, high, low}
use Rattle.sum.specs.Model.{first_pairs, last_pairs, pair_at, inputs_of, first_mid, last_mid}
use Rattle.sum_telling.specs.Telling.{patterns}
use Rattle.sum_telling.specs.Halves.{first_half, last_half, half_pairs, mid_at, first_sources, last_sources}

-- ---- a mid sees eight sources

-- the sources at eight places of s are those at eight places of n
abbrev pub Seen : (places : List ℕ) (s : ℕ) (places' : List ℕ) (n : ℕ) → Type 0
Seen places s places' n = (i : ℕ) → i < 8 → line s (get_or places i 0) ≡ line n (get_or places' i 0)

sums : {p q r t p' q' r' t' : ℕ} → p ≡ p' → q ≡ q' → r ≡ r' → t ≡ t' → p + 2 * q + 4 * r + 8 * t ≡ p' + 2 * q' + 4 * r' + 8 * t'
sums e f g h = omega arith

pair_seen : (t s n a b a' b' : ℕ) → line s a ≡ line n a' → line s b ≡ line n b' → pair_at t s a b ≡ pair_at t n a' b'
pair_seen t s n a b a' b' e f = ap₂ (λ (x y : ℕ). answer_at t (3 * x + 12 * y)) e f

-- a mid's inputs depend on the eight sources that its four pairs read, and on nothing else [M8]
pub inputs_by_sources : (places places' : List ℕ) (v w s n : ℕ) → Seen places s places' n → inputs_of places v w s ≡ inputs_of places' v w n
unfolding inputs_of
inputs_by_sources ps qs v w s n e =
    sums (pair_seen (low v) s n (get_or ps 0 0) (get_or ps 1 0) (get_or qs 0 0) (get_or qs 1 0) (e 0 (lit< tt)) (e 1 (lit< tt)))
    (pair_seen (high v) s n (get_or ps 2 0) (get_or ps 3 0) (get_or qs 2 0) (get_or qs 3 0) (e 2 (lit< tt)) (e 3 (lit< tt)))
    (pair_seen (low w) s n (get_or ps 4 0) (get_or ps 5 0) (get_or qs 4 0) (get_or qs 5 0) (e 4 (lit< tt)) (e 5 (lit< tt)))
    (pair_seen (high w) s n (get_or ps 6 0) (get_or ps 7 0) (get_or qs 6 0) (get_or qs 7 0) (e 6 (lit< tt)) (e 7 (lit< tt)))

-- ---- the digits of a pattern: five of each half, and three of each in turn

module _ (p q c d e f g h : ℕ) (hp : p < 32) (hq : q < 32) (hc : c < 2) (hd : d < 2) (he : e < 2) (hf : f < 2) (hg : g < 2) (hh : h < 2) where
  abbrev joined : ℕ
  joined = p + 32 * q + 1024 * c + 2048 * d + 4096 * e + 8192 * f + 16384 * g + 32768 * h

  at_10 : line joined 10 ≡ c
  at_10 = omega arith

  at_11 : line joined 11 ≡ d
  at_11 = omega arith

  at_12 : line joined 12 ≡ e
  at_12 = omega arith

  at_13 : line joined 13 ≡ f
  at_13 = omega arith

  at_14 : line joined 14 ≡ g
  at_14 = omega arith

  at_15 : line joined 15 ≡ h
  at_15 = omega arith

  at_low : (i : ℕ) → i < 5 → line joined i ≡ line p i
  at_low i l = let m : joined % 32 ≡ p = omega arith in sym (line_mod joined 5 i l) ∙ ap (λ (x : ℕ). line x i) m

  at_next : (i : ℕ) → i < 5 → line joined (i + 5) ≡ line q i
  at_next i l =
      let m : joined / 32 % 32 ≡ q = omega arith in
      line_up joined i 5 ∙ sym (line_mod (joined / 32) 5 i l) ∙ ap (λ (x : ℕ). line x i) m

-- a half's own pattern
module _ (p c e g : ℕ) (hp : p < 32) (hc : c < 2) (he : e < 2) (hg : g < 2) where
  abbrev half : ℕ
  half = p + 32 * c + 64 * e + 128 * g

  half_lt : half < 256
  half_lt = omega arith

  half_0 : half % 32 ≡ p
  half_0 = omega arith

  half_5 : half / 32 % 2 ≡ c
  half_5 = omega arith

  half_6 : half / 64 % 2 ≡ e
  half_6 = omega arith

  half_7 : half / 128 % 2 ≡ g
  half_7 = omega arith

  half_8 : half / 256 ≡ 0
  half_8 = omega arith

  first_of_half : first_sources half ≡ p + 1024 * c + 4096 * e + 16384 * g
  unfolding first_sources
  first_of_half = rw (half_0, half_5, half_6, half_7, half_8) (omega arith)

  last_of_half : last_sources half ≡ 32 * p + 2048 * c + 8192 * e + 32768 * g
  unfolding last_sources
  last_of_half = rw (half_0, half_5, half_6, half_7, half_8) (omega arith)

  half_low : (i : ℕ) → i < 5 → line half i ≡ line p i
  half_low i l = sym (line_mod half 5 i l) ∙ ap (λ (x : ℕ). line x i) half_0

-- ---- two halves' own patterns, and the pattern of both

module _ (p q c d e f g h : ℕ) (hp : p < 32) (hq : q < 32) (hc : c < 2) (hd : d < 2) (he : e < 2) (hf : f < 2) (hg : g < 2) (hh : h < 2) where
  abbrev both : ℕ
  both = joined p q c d e f g h hp hq hc hd he hf hg hh

  abbrev first : ℕ
  first = half p c e g hp hc he hg

  abbrev last : ℕ
  last = half q d f h hq hd hf hh

  both_sources : first_sources first + last_sources last ≡ both
  both_sources = omega (arith, first_of_half p c e g hp hc he hg, last_of_half q d f h hq hd hf hh)

  low_seen : (i : ℕ) → i < 5 → line both i ≡ line first i
  low_seen i l = at_low p q c d e f g h hp hq hc hd he hf hg hh i l ∙ sym (half_low p c e g hp hc he hg i l)

  next_seen : (i : ℕ) → i < 5 → line both (i + 5) ≡ line last i
  next_seen i l = at_next p q c d e f g h hp hq hc hd he hf hg hh i l ∙ sym (half_low q d f h hq hd hf hh i l)

  first_both : Seen first_pairs both half_pairs first
  first_both zero l = low_seen 0 (lit< tt)
  first_both (suc zero) l = low_seen 1 (lit< tt)
  first_both (suc (suc zero)) l = low_seen 2 (lit< tt)
  first_both (suc (suc (suc zero))) l = at_10 p q c d e f g h hp hq hc hd he hf hg hh ∙ sym (half_5 p c e g hp hc he hg)
  first_both (suc (suc (suc (suc zero)))) l = low_seen 3 (lit< tt)
  first_both (suc (suc (suc (suc (suc zero))))) l = at_12 p q c d e f g h hp hq hc hd he hf hg hh ∙ sym (half_6 p c e g hp hc he hg)
  first_both (suc (suc (suc (suc (suc (suc zero)))))) l = low_seen 4 (lit< tt)
  first_both (suc (suc (suc (suc (suc (suc (suc zero))))))) l = at_14 p q c d e f g h hp hq hc hd he hf hg hh ∙ sym (half_7 p c e g hp hc he hg)
  first_both (suc (suc (suc (suc (suc (suc (suc (suc i)))))))) l = absurd (omega arith)

  last_both : Seen last_pairs both half_pairs last
  last_both zero l = next_seen 0 (lit< tt)
  last_both (suc zero) l = next_seen 1 (lit< tt)
  last_both (suc (suc zero)) l = next_seen 2 (lit< tt)
  last_both (suc (suc (suc zero))) l = at_11 p q c d e f g h hp hq hc hd he hf hg hh ∙ sym (half_5 q d f h hq hd hf hh)
  last_both (suc (suc (suc (suc zero)))) l = next_seen 3 (lit< tt)
  last_both (suc (suc (suc (suc (suc zero))))) l = at_13 p q c d e f g h hp hq hc hd he hf hg hh ∙ sym (half_6 q d f h hq hd hf hh)
  last_both (suc (suc (suc (suc (suc (suc zero)))))) l = next_seen 4 (lit< tt)
  last_both (suc (suc (suc (suc (suc (suc (suc zero))))))) l = at_15 p q c d e f g h hp hq hc hd he hf hg hh ∙ sym (half_7 q d f h hq hd hf hh)
  last_both (suc (suc (suc (suc (suc (suc (suc (suc i)))))))) l = absurd (omega arith)

-- s is the pattern of the half patterns a and b
pub record Both (s a b : ℕ) : Type 0 where
  pub first_fits : a < 256
  pub last_fits : b < 256
  pub fits : s < patterns
  pub is : first_sources a + last_sources b ≡ s
  pub first_seen : Seen first_pairs s half_pairs a
  pub last_seen : Seen last_pairs s half_pairs b

made : (p q c d e f g h : ℕ) → (hp : p < 32) (hq : q < 32) (hc : c < 2) (hd : d < 2) (he : e < 2) (hf : f < 2) (hg : g < 2) (hh : h < 2)
    → Both (p + 32 * q + 1024 * c + 2048 * d + 4096 * e + 8192 * f + 16384 * g + 32768 * h) (p + 32 * c + 64 * e + 128 * g) (q + 32 * d + 64 * f + 128 * h)
made p q c d e f g h hp hq hc hd he hf hg hh =
    record {
      first_fits = half_lt p c e g hp hc he hg;
      last_fits = half_lt q d f h hq hd hf hh;
      fits = omega arith;
      is = both_sources p q c d e f g h hp hq hc hd he hf hg hh;
      first_seen = first_both p q c d e f g h hp hq hc hd he hf hg hh;
      last_seen = last_both p q c d e f g h hp hq hc hd he hf hg hh;
    }

-- any two half patterns are those of a pattern
whole : (n : ℕ) → n < 256 → n % 32 + 32 * (n / 32 % 2) + 64 * (n / 64 % 2) + 128 * (n / 128 % 2) ≡ n
whole n h =
    let a : n ≡ n % 32 + 32 * (n / 32) = omega arith in
    let b : n / 32 ≡ n / 32 % 2 + 2 * (n / 64) = omega arith in
    let c : n / 64 ≡ n / 64 % 2 + 2 * (n / 128) = omega arith in
    let d : n / 128 ≡ n / 128 % 2 = omega arith in
    linear (n % 32) (n / 32 % 2) (n / 64 % 2) (n / 128 % 2) n (n / 32) (n / 64) (n / 128) a b c d
  where
    linear : (p c e g n n₁ n₂ n₃ : ℕ) → n ≡ p + 32 * n₁ → n₁ ≡ c + 2 * n₂ → n₂ ≡ e + 2 * n₃ → n₃ ≡ g → p + 32 * c + 64 * e + 128 * g ≡ n
    linear p c e g n n₁ n₂ n₃ e₁ e₂ e₃ e₄ = omega arith

pub any_both : (a b : ℕ) → a < 256 → b < 256 → Both (first_sources a + last_sources b) a b
any_both a b ha hb =
    let m = made (a % 32) (b % 32) (a / 32 % 2) (b / 32 % 2) (a / 64 % 2) (b / 64 % 2) (a / 128 % 2) (b / 128 % 2) (omega arith) (omega arith) (omega arith)
    (omega arith) (omega arith) (omega arith) (omega arith) (omega arith) in
    let r = rw (whole a ha, whole b hb) at m in
    subst (λ (s : ℕ). Both s a b) (sym r.is) r

-- and any pattern is that of two half patterns
abbrev pub first_of : ℕ → ℕ
first_of s = s % 32 + 32 * (s / 1024 % 2) + 64 * (s / 4096 % 2) + 128 * (s / 16384 % 2)

abbrev pub last_of : ℕ → ℕ
last_of s = s / 32 % 32 + 32 * (s / 2048 % 2) + 64 * (s / 8192 % 2) + 128 * (s / 32768 % 2)

parts : (s : ℕ) → s < patterns
    → s % 32 + 32 * (s / 32 % 32) + 1024 * (s / 1024 % 2) + 2048 * (s / 2048 % 2) + 4096 * (s / 4096 % 2) + 8192 * (s / 8192 % 2) + 16384 * (s / 16384 % 2)
    + 32768 * (s / 32768 % 2)
    ≡ s
parts s h =
    let a : s ≡ s % 32 + 32 * (s / 32) = omega arith in
    let b : s / 32 ≡ s / 32 % 32 + 32 * (s / 1024) = omega arith in
    let c : s / 1024 ≡ s / 1024 % 2 + 2 * (s / 2048) = omega arith in
    let d : s / 2048 ≡ s / 2048 % 2 + 2 * (s / 4096) = omega arith in
    let e : s / 4096 ≡ s / 4096 % 2 + 2 * (s / 8192) = omega arith in
    let f : s / 8192 ≡ s / 8192 % 2 + 2 * (s / 16384) = omega arith in
    let g : s / 16384 ≡ s / 16384 % 2 + 2 * (s / 32768) = omega arith in
    let z : s / 32768 ≡ s / 32768 % 2 = omega arith in
    linear (s % 32) (s / 32 % 32) (s / 1024 % 2) (s / 2048 % 2) (s / 4096 % 2) (s / 8192 % 2) (s / 16384 % 2) (s / 32768 % 2) s (s / 32) (s / 1024) (s / 2048) (s / 4096)
    (s / 8192) (s / 16384) (s / 32768) a b c d e f g z
  where
    linear : (p q c d e f g h s s₁ s₂ s₃ s₄ s₅ s₆ s₇ : ℕ) → s ≡ p + 32 * s₁ → s₁ ≡ q + 32 * s₂ → s₂ ≡ c + 2 * s₃ → s₃ ≡ d + 2 * s₄ → s₄ ≡ e + 2 * s₅
        → s₅ ≡ f + 2 * s₆ → s₆ ≡ g + 2 * s₇ → s₇ ≡ h
        → p + 32 * q + 1024 * c + 2048 * d + 4096 * e + 8192 * f + 16384 * g + 32768 * h ≡ s
    linear p q c d e f g h s s₁ s₂ s₃ s₄ s₅ s₆ s₇ e₁ e₂ e₃ e₄ e₅ e₆ e₇ e₈ = omega arith

pub every_both : (s : ℕ) → s < patterns → Both s (first_of s) (last_of s)
every_both s h =
    let m = made (s % 32) (s / 32 % 32) (s / 1024 % 2) (s / 2048 % 2) (s / 4096 % 2) (s / 8192 % 2) (s / 16384 % 2) (s / 32768 % 2) (omega arith) (omega arith)
    (omega arith) (omega arith) (omega arith) (omega arith) (omega arith) (omega arith) in
    subst (λ (x : ℕ). Both x (first_of s) (last_of s)) (parts s h) m

-- ---- the mids of a pattern are those of its halves

module _ (v : List ℕ) (s a b : ℕ) (both : Both s a b) where
  pub first_mid_law : first_mid v s ≡ mid_at (first_half v) a
  unfolding mid_at
  first_mid_law = ap (answer_at (low (get_or v 1 0))) (inputs_by_sources first_pairs half_pairs (get_or v 5 0) (get_or v 4 0) s a both.first_seen)

  pub last_mid_law : last_mid v s ≡ mid_at (last_half v) b
  unfolding mid_at
  last_mid_law = ap (answer_at (high (get_or v 1 0))) (inputs_by_sources last_pairs half_pairs (get_or v 3 0) (get_or v 2 0) s b both.last_seen)
