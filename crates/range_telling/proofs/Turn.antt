-- Every masked line of a reduced range matters: a value at which changing the line's bit changes the hit. Assumes nothing.
use Rattle.std.proofs.Common.{◌≡◌, refl, sym, ap, ◌∙◌, Bool, true, false, ◌&&◌, true≢false, ◌⊎◌, inl, inr, ℕ, zero, suc, ◌+◌, ◌-◌, ◌/◌, ◌%◌, ◌^◌, ◌≤◌, ◌<◌, arith, le-leb, leb, pow_pos}
use mathlib.Core.Bool.{and-false}
use native.Mathlib.Nat.{two-pow-succ}
use native.Mathlib.Decide.{dec_le}
use borrow.Author.Tests.{lt-leb}
use Rattle.lines.specs.Line.{line, flip_line}
use Rattle.lines.proofs.Digit.{bit_lt, line_half, line_zero}
use Rattle.lines.proofs.Flip.{flip_up, flip_down}
use Rattle.range_telling.specs.Telling.{turn_lower, turn_upper, turn_value}

-- whether a number lies within the bounds
abbrev pub inside : ℕ → ℕ → ℕ → Bool
inside lower upper x = leb lower x && leb x upper

pub inside_yes : (lower upper x : ℕ) → lower ≤ x → x ≤ upper → inside lower upper x ≡ true
inside_yes lower upper x l u = rw (le-leb lower x l, le-leb x upper u)

pub inside_below : (lower upper x : ℕ) → x < lower → inside lower upper x ≡ false
inside_below lower upper x l = rw (lt-leb lower x l)

pub inside_above : (lower upper x : ℕ) → upper < x → inside lower upper x ≡ false
inside_above lower upper x u = rw (lt-leb x upper u) (and-false (leb lower x))

-- changing bit j of v changes whether v is inside
abbrev pub Turns : ℕ → ℕ → ℕ → ℕ → Type 0
Turns lower upper j v = inside lower upper v ≡ inside lower upper (flip_line j v) → ⊥

leaves : (lower upper j v : ℕ) → inside lower upper v ≡ true → inside lower upper (flip_line j v) ≡ false → Turns lower upper j v
leaves lower upper j v a b e = true≢false (sym a ∙ e ∙ b)

enters : (lower upper j v : ℕ) → inside lower upper v ≡ false → inside lower upper (flip_line j v) ≡ true → Turns lower upper j v
enters lower upper j v a b e = true≢false (sym b ∙ sym e ∙ a)

pub bit_cases : (x : ℕ) → (x % 2 ≡ 0) ⊎ (x % 2 ≡ 1)
bit_cases x = go (x % 2) (bit_lt x)
  where
    go : (d : ℕ) → d < 2 → (d ≡ 0) ⊎ (d ≡ 1)
    go zero h = inl refl
    go (suc zero) h = inr refl
    go (suc (suc d)) h = absurd (omega arith)

-- numbers that differ in bit 0 alone have the same higher bits
same_line : (x y j : ℕ) → x / 2 ≡ y / 2 → line x (suc j) ≡ line y (suc j)
same_line x y j e = line_half x j ∙ ap (λ (h : ℕ). line h j) e ∙ sym (line_half y j)

-- ---- the value at which bit j turns

module _ (lower upper j : ℕ) (ordered : lower ≤ upper) where
  turn_lower_law : 1 ≤ lower → lower % 2 ≡ 1 → (turn_lower lower upper j ≤ upper) × Turns lower upper j (turn_lower lower upper j)
  turn_lower_law l odd = go j refl (bit_cases (lower / 2 ^ j)) (dec_le (2 ^ j) (upper - lower))
    where
      at_lower : inside lower upper lower ≡ true
      at_lower = inside_yes lower upper lower (omega arith) ordered

      go : (i : ℕ) → j ≡ i → (line lower j ≡ 0) ⊎ (line lower j ≡ 1) → Dec (2 ^ j ≤ upper - lower)
          → (turn_lower lower upper j ≤ upper) × Turns lower upper j (turn_lower lower upper j)
      go i e (inr set) d =
          let down = flip_down j lower set in
          rw set (ordered, leaves lower upper j lower at_lower (inside_below lower upper (flip_line j lower) (omega (arith, pow_pos j))))
      go i e (inl clear) (no far) =
          rw (clear, lt-leb (2 ^ j) (upper - lower) (omega arith))
          (ordered, leaves lower upper j lower at_lower (rw (flip_up j lower clear) (inside_above lower upper (lower + 2 ^ j) (omega arith))))
      go zero e (inl clear) (yes near) =
          let even : lower % 2 ≡ 0 = sym (line_zero lower) ∙ ap (line lower) (sym e) ∙ clear in
          absurd (omega arith)
      go (suc i) e (inl clear) (yes near) =
          let same : line (lower - 1) j ≡ line lower j
          = rw e (same_line (lower - 1) lower i (omega arith)) in
          let up = flip_up j (lower - 1) (same ∙ clear) in
          rw (clear, le-leb (2 ^ j) (upper - lower) near) (
            omega arith,
            enters lower upper j (lower - 1) (inside_below lower upper (lower - 1) (omega arith))
                (inside_yes lower upper (flip_line j (lower - 1)) (omega (arith, pow_pos j)) (omega arith)),
          )

  turn_upper_law : upper % 2 ≡ 0 → (turn_upper lower upper j ≤ upper + 1) × Turns lower upper j (turn_upper lower upper j)
  turn_upper_law even = go j refl (bit_cases (upper / 2 ^ j)) (dec_le (2 ^ j) (upper - lower))
    where
      at_upper : inside lower upper upper ≡ true
      at_upper = inside_yes lower upper upper ordered (omega arith)

      go : (i : ℕ) → j ≡ i → (line upper j ≡ 0) ⊎ (line upper j ≡ 1) → Dec (2 ^ j ≤ upper - lower)
          → (turn_upper lower upper j ≤ upper + 1) × Turns lower upper j (turn_upper lower upper j)
      go i e (inl clear) d =
          rw clear
          (omega arith, leaves lower upper j upper at_upper (rw (flip_up j upper clear) (inside_above lower upper (upper + 2 ^ j) (omega (arith, pow_pos j)))))
      go i e (inr set) (no far) =
          let down = flip_down j upper set in
          rw (set, lt-leb (2 ^ j) (upper - lower) (omega arith))
          (omega arith, leaves lower upper j upper at_upper (inside_below lower upper (flip_line j upper) (omega arith)))
      go zero e (inr set) (yes near) =
          let odd : upper % 2 ≡ 1 = sym (line_zero upper) ∙ ap (line upper) (sym e) ∙ set in
          absurd (omega arith)
      go (suc i) e (inr set) (yes near) =
          let same : line (upper + 1) j ≡ line upper j
          = rw e (same_line (upper + 1) upper i (omega arith)) in
          let down = flip_down j (upper + 1) (same ∙ set) in
          rw (set, le-leb (2 ^ j) (upper - lower) near) (
            omega arith,
            enters lower upper j (upper + 1) (inside_above lower upper (upper + 1) (omega arith))
                (inside_yes lower upper (flip_line j (upper + 1)) (omega arith) (omega (arith, pow_pos j))),
          )

-- an even number of k bits has a successor of k bits, if k is not 0
next_within : (k u : ℕ) → 0 < k → u ≤ 2 ^ k - 1 → u % 2 ≡ 0 → u + 1 < 2 ^ k
next_within zero u hk h e = absurd (omega arith)
next_within (suc k) u hk h e = omega (arith, two-pow-succ k, pow_pos k)

pub turn_value_law : (lower upper k j : ℕ) → 1 ≤ lower → lower ≤ upper → upper ≤ 2 ^ k - 1 → j < k → (lower % 2 ≡ 1) ⊎ (upper % 2 ≡ 0)
    → (turn_value lower upper j < 2 ^ k) × Turns lower upper j (turn_value lower upper j)
unfolding turn_value
turn_value_law lower upper k j l o w hj busy = go (bit_cases lower) busy
  where
    go : (lower % 2 ≡ 0) ⊎ (lower % 2 ≡ 1) → (lower % 2 ≡ 1) ⊎ (upper % 2 ≡ 0)
        → (turn_value lower upper j < 2 ^ k) × Turns lower upper j (turn_value lower upper j)
    go (inr odd) b = rw odd (let t = turn_lower_law lower upper j o l odd in (omega (arith, t.0, pow_pos k), t.1))
    go (inl even) (inl odd) = absurd (omega arith)
    go (inl even) (inr e) =
        rw even (let t = turn_upper_law lower upper j o e in (omega (arith, t.0, next_within k upper (omega arith) w e), t.1))
