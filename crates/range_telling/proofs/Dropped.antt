-- Which lines cannot matter, and what dropping them does to the words: FFFF in their place in both chains, and nothing else.
-- Assumes nothing.
use Rattle.std.proofs.Common.{◌≡◌, refl, sym, ap, ◌∙◌, Bool, true, false, cond, List, ◌⊎◌, inl, inr, ℕ, zero, suc, ◌-◌, ◌/◌, ◌%◌, ◌^◌, ◌≤◌, ◌<◌, arith}
use native.Mathlib.Nat.{two-pow-succ}
use lib.Count.{ones}
use Rattle.lines.specs.Line.{line, flip_line}
use Rattle.lines.specs.Gather.{scattered, drop_lowest}
use Rattle.lines.proofs.Drop.{scatter_drop}
use Rattle.range.specs.declared.Range.{Range}
use Rattle.range.specs.Rule.{Accepted}
use Rattle.range.specs.Words.{table_for, line_table, lower_value, upper_value, words_of}
use Rattle.range.specs.Model.{lower_table, upper_table}
use Rattle.range_telling.specs.Matter.{CannotMatter, DroppedWords}
use Rattle.range_telling.specs.Reduce.{idle, halved, reduce_from, reduce_of}
use Rattle.range_telling.specs.Telling.{turn_sample}
use Rattle.range.proofs.Tables.{length_sent, lower_sent, upper_sent, words_same}
use Rattle.range.proofs.Carry.{lower_value_law, upper_value_law}
use Rattle.range_telling.proofs.Halving.{idle_parts, halved_accepted, ones_halved, reduce_masks}
use Rattle.range_telling.proofs.Turn.{bit_cases}
use Rattle.range_telling.proofs.Apart.{reduced, reduced_hit, flip_hit, turn_sample_law, turn_sample_lt}

-- ---- the lines that cannot matter are those that the reduced range has not

pub gone_cannot_matter : (r : Range) (i : ℕ) → line (reduce_of r).mask i ≡ 0 → CannotMatter r i
gone_cannot_matter r i h sample l =
    sym (reduced_hit r (flip_line i sample)) ∙ flip_hit (reduce_of r) i sample h ∙ reduced_hit r sample

pub left_matters : (r : Range) (i : ℕ) → Accepted r → i < 32 → line (reduce_of r).mask i ≡ 1 → CannotMatter r i → ⊥
left_matters r i a hi hl none =
    let s = turn_sample (reduce_of r) i in
    turn_sample_law (reduce_of r) i (reduced r a) hi hl
    (reduced_hit r s ∙ sym (none s (turn_sample_lt (reduce_of r) i)) ∙ sym (reduced_hit r (flip_line i s)))

-- so it is settled of each line whether it matters
abbrev pub Settled : (r : Range) (i : ℕ) → Type 0
Settled r i = ((line (reduce_of r).mask i ≡ 0) × CannotMatter r i) ⊎ ((line (reduce_of r).mask i ≡ 1) × (CannotMatter r i → ⊥))

pub settled : (r : Range) (i : ℕ) → Accepted r → i < 32 → Settled r i
settled r i a hi = go (bit_cases ((reduce_of r).mask / 2 ^ i))
  where
    go : (line (reduce_of r).mask i ≡ 0) ⊎ (line (reduce_of r).mask i ≡ 1) → Settled r i
    go (inl e) = inl (e, gone_cannot_matter r i e)
    go (inr e) = inr (e, left_matters r i a hi e)

-- ---- the values on the masked lines stay

-- of an even number x of k bits, 2 ^ k - x is even, and half of it is what x / 2 has
half_lower : (k x : ℕ) → 1 ≤ x → x ≤ 2 ^ k - 1 → x % 2 ≡ 0
    → ((2 ^ k - 1 - (x - 1)) % 2 ≡ 0) × ((2 ^ k - 1 - (x - 1)) / 2 ≡ 2 ^ (k - 1) - 1 - (x / 2 - 1))
half_lower zero x l h e = absurd (omega arith)
half_lower (suc k) x l h e =
    let less : suc k - 1 ≡ k = omega arith in
    rw less (omega (arith, two-pow-succ k), omega (arith, two-pow-succ k))

half_upper : (k x : ℕ) → x ≤ 2 ^ k - 1 → x % 2 ≡ 1
    → ((2 ^ k - 1 - x) % 2 ≡ 0) × ((2 ^ k - 1 - x) / 2 ≡ 2 ^ (k - 1) - 1 - x / 2)
half_upper zero x h e = absurd (omega arith)
half_upper (suc k) x h e =
    let less : suc k - 1 ≡ k = omega arith in
    rw less (omega (arith, two-pow-succ k), omega (arith, two-pow-succ k))

-- the chains' values put on the masked lines
abbrev pub lower_spread : Range → ℕ
lower_spread r = scattered 32 (lower_value r.lower r.mask) r.mask

abbrev pub upper_spread : Range → ℕ
upper_spread r = scattered 32 (upper_value r.upper r.mask) r.mask

module _ (r : Range) (a : Accepted r) (e : idle r ≡ true) where
  halved_lower : lower_spread (halved r) ≡ lower_spread r
  halved_lower =
      let k = ones r.mask in
      let h = half_lower k r.lower a.positive (omega arith) (idle_parts r e).0 in
      let value = lower_value_law r.lower r.upper r.mask a in
      let value' = lower_value_law (r.lower / 2) (r.upper / 2) (drop_lowest 32 r.mask) (halved_accepted r a e) in
      rw (value, value', ones_halved r.mask a.fits, ← h.1) (scatter_drop 32 (2 ^ k - 1 - (r.lower - 1)) r.mask h.0)

  halved_upper : upper_spread (halved r) ≡ upper_spread r
  halved_upper =
      let k = ones r.mask in
      let h = half_upper k r.upper a.within (idle_parts r e).1 in
      let value = upper_value_law r.lower r.upper r.mask a in
      let value' = upper_value_law (r.lower / 2) (r.upper / 2) (drop_lowest 32 r.mask) (halved_accepted r a e) in
      rw (value, value', ones_halved r.mask a.fits, ← h.1) (scatter_drop 32 (2 ^ k - 1 - r.upper) r.mask h.0)

pub record SameSpread (r r' : Range) : Type 0 where
  pub lowers : lower_spread r' ≡ lower_spread r
  pub uppers : upper_spread r' ≡ upper_spread r

reduce_spread : (n : ℕ) (r : Range) → Accepted r → SameSpread r (reduce_from n r)
unfolding reduce_from
reduce_spread zero r a = record { lowers = refl; uppers = refl }
reduce_spread (suc n) r a = go (idle r) refl (reduce_spread n (halved r))
  where
    go : (t : Bool) → idle r ≡ t → (Accepted (halved r) → SameSpread (halved r) (reduce_from n (halved r)))
        → SameSpread r (cond t (reduce_from n (halved r)) r)
    go true e ih =
        let s = ih (halved_accepted r a e) in
        record { lowers = s.lowers ∙ halved_lower r a e; uppers = s.uppers ∙ halved_upper r a e }
    go false e ih = record { lowers = refl; uppers = refl }

-- ---- so the tables stay, but for FFFF at the dropped lines

table_left : (mask mask' spread i : ℕ) → line mask' i ≡ 1 → line mask i ≡ 1 → line_table mask' spread i ≡ line_table mask spread i
table_left mask mask' spread i e' e = ap (λ (d : ℕ). table_for d (line spread i)) (e' ∙ sym e)

table_gone : (mask spread i : ℕ) → line mask i ≡ 0 → line_table mask spread i ≡ 0xFFFF
table_gone mask spread i e = ap (λ (d : ℕ). table_for d (line spread i)) e

-- the tables of line i in both chains
abbrev Tables : (words : List ℕ) (i x y : ℕ) → Type 0
Tables words i x y = (lower_table words i ≡ x) × (upper_table words i ≡ y)

module _ (r q : Range) (spread : SameSpread r q) (masked : (i : ℕ) → line q.mask i ≡ 1 → line r.mask i ≡ 1) (i : ℕ) (hi : i < 32) where
  gone : line q.mask i ≡ 0 → Tables (words_of q) i 0xFFFF 0xFFFF
  gone e = (
    lower_sent q.lower q.upper q.mask i hi ∙ table_gone q.mask (lower_spread q) i e,
    upper_sent q.lower q.upper q.mask i hi ∙ table_gone q.mask (upper_spread q) i e,
  )

  left : line q.mask i ≡ 1 → Tables (words_of q) i (lower_table (words_of r) i) (upper_table (words_of r) i)
  left e = (
    lower_sent q.lower q.upper q.mask i hi ∙ ap (λ (t : ℕ). line_table q.mask t i) spread.lowers
        ∙ table_left r.mask q.mask (lower_spread r) i e (masked i e) ∙ sym (lower_sent r.lower r.upper r.mask i hi),
    upper_sent q.lower q.upper q.mask i hi ∙ ap (λ (t : ℕ). line_table q.mask t i) spread.uppers
        ∙ table_left r.mask q.mask (upper_spread r) i e (masked i e) ∙ sym (upper_sent r.lower r.upper r.mask i hi),
  )

module _ (r : Range) (a : Accepted r) where
  spread : SameSpread r (reduce_of r)
  unfolding reduce_of
  spread = reduce_spread 32 r a

  masked : (i : ℕ) → line (reduce_of r).mask i ≡ 1 → line r.mask i ≡ 1
  unfolding reduce_of
  masked = reduce_masks 32 r

  -- the words of the reduced range are the range's words with the lines dropped that cannot matter
  pub dropped_words : DroppedWords r (words_of (reduce_of r))
  dropped_words =
      record {
        count = length_sent (reduce_of r).lower (reduce_of r).upper (reduce_of r).mask;
        dropped = λ i hi none. when_gone i hi none (settled r i a hi);
        kept = λ i hi some. when_left i hi some (settled r i a hi);
      }
    where
      when_gone : (i : ℕ) → i < 32 → CannotMatter r i → Settled r i → Tables (words_of (reduce_of r)) i 0xFFFF 0xFFFF
      when_gone i hi none (inl e) = gone r (reduce_of r) spread masked i hi e.0
      when_gone i hi none (inr e) = absurd (e.1 none)

      when_left : (i : ℕ) → i < 32 → (CannotMatter r i → ⊥) → Settled r i
          → Tables (words_of (reduce_of r)) i (lower_table (words_of r) i) (upper_table (words_of r) i)
      when_left i hi some (inl e) = absurd (some e.1)
      when_left i hi some (inr e) = left r (reduce_of r) spread masked i hi e.0

  -- and no other words are
  pub dropped_only : (v w : List ℕ) → DroppedWords r v → DroppedWords r w → v ≡ w
  dropped_only v w dv dw = words_same v w dv.count dw.count (λ i hi. go i hi (settled r i a hi))
    where
      go : (i : ℕ) → i < 32 → Settled r i → Tables v i (lower_table w i) (upper_table w i)
      go i hi (inl e) =
          let x = dv.dropped i hi e.1 in
          let y = dw.dropped i hi e.1 in
          (x.0 ∙ sym y.0, x.1 ∙ sym y.1)
      go i hi (inr e) =
          let x = dv.kept i hi e.1 in
          let y = dw.kept i hi e.1 in
          (x.0 ∙ sym y.0, x.1 ∙ sym y.1)
