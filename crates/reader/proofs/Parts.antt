-- The parts of the reader's room: what a write into one of them leaves of the others, and that a part which holds a
-- section's records holds one more when one is kept. Assumes nothing.
use Prim.Native.Nat.{ℕ, suc, ◌+◌, ◌*◌, ◌≤◌, ◌<◌, ◌-◌}
use mathlib.Core.Path.{◌≡◌, refl, sym, ap, ap₂, ◌∙◌}
use mathlib.Core.List.{List, [], ◌∷◌, ◌++◌, append_assoc, append-nil}
use native.Mathlib.Decide.{dec_lt}
use native.Mathlib.Numerals.{one-add}
use native.Mathlib.Omega.{arith}
use lib.ListN.{length, get_or, take, drop, length-append}
use lib.Seq.{take-append-le, take-take, take_at, drop_at, drop-drop, drop-append-le, drop-append-add, get_or-take, get_or-drop, length-take-le}
use Rattle.buffer.specs.Room.{write}
use Rattle.buffer.proofs.Writing.{length_write}
use Rattle.kinds.specs.Table.{sections, most_of}
use Rattle.records.specs.Sections.{record_size, section_size}
use Rattle.sheet.specs.Parsed.{joined}
use Rattle.reader.specs.Back.{label_for}
use Rattle.reader.specs.Taking.{part_size, count_in, part_of, kept}
use Rattle.records.proofs.Records.{drop_take}
use Rattle.reader.proofs.Keeping.{record_fits}

-- ---- windows: n elements from s on

window : (s n : ℕ) (l : List ℕ) → take n (drop s l) ≡ drop s (take (s + n) l)
window s n l = let e : s + n - s ≡ n = omega arith in sym (drop_take s (s + n) l ∙ ap (λ (m : ℕ). take m (drop s l)) e)

module _ (at : ℕ) (bs room : List ℕ) (fits : at + length bs ≤ length room) where
  front : List ℕ
  front = take at room ++ bs

  front_length : length front ≡ at + length bs
  unfolding front
  front_length = length-append (take at room) bs ∙ ap (λ (n : ℕ). n + length bs) (length-take-le at room (omega arith))

  halves : write at bs room ≡ front ++ drop (at + length bs) room
  unfolding front
  halves = ap (λ (r : List ℕ). take at room ++ (bs ++ r)) (drop-drop (length bs) at room) ∙ sym (append_assoc (take at room) bs (drop (at + length bs) room))

  -- before what is written
  before : (s n : ℕ) → s + n ≤ at → take n (drop s (write at bs room)) ≡ take n (drop s room)
  before s n h =
      let same : take (s + n) (write at bs room) ≡ take (s + n) room =
      take-append-le (s + n) (take at room) _ (omega (arith, length-take-le at room (omega arith))) ∙ take-take (s + n) at room h in
      window s n (write at bs room) ∙ ap (drop s) same ∙ sym (window s n room)

  -- and behind it
  behind : (s : ℕ) → at + length bs ≤ s → drop s (write at bs room) ≡ drop s room
  behind s h =
      let m : ℕ = at + length bs in
      let e : s ≡ length front + (s - m) = omega (arith, front_length) in
      let f : m + (s - m) ≡ s = omega arith in
      ap (drop s) halves
      ∙ ap (λ (n : ℕ). drop n (front ++ drop m room)) e
      ∙ drop-append-add front (drop m room) (s - m)
      ∙ drop-drop (s - m) m room
      ∙ ap (λ (n : ℕ). drop n room) f

  -- up to its end
  inside : (s i : ℕ) → at ≡ s + i → take (i + length bs) (drop s (write at bs room)) ≡ take i (drop s room) ++ bs
  unfolding front
  inside s i e =
      let n : length front ≡ s + (i + length bs) = omega (arith, front_length) in
      window s (i + length bs) (write at bs room)
      ∙ ap (λ (l : List ℕ). drop s (take (s + (i + length bs)) l)) halves
      ∙ ap (drop s) (take_at front (drop (at + length bs) room) (s + (i + length bs)) n)
      ∙ drop-append-le s (take at room) bs (omega (arith, length-take-le at room (omega arith)))
      ∙ ap (λ (m : ℕ). drop s (take m room) ++ bs) e
      ∙ ap (λ (l : List ℕ). l ++ bs) (sym (window s i room))

-- a write into the part of section k leaves another part alone
apart : (j k at n : ℕ) (bs room : List ℕ) → (j ≡ k → ⊥) → n ≤ part_size → part_size * k ≤ at → at + length bs ≤ part_size * k + part_size
    → at + length bs ≤ length room → take n (drop (part_size * j) (write at bs room)) ≡ take n (drop (part_size * j) room)
apart j k at n bs room other short from to fits =
    elim (dec_lt j k) [
      | yes l ↦ before at bs room fits (part_size * j) n (omega arith)
      | no m ↦ let past : k + 1 ≤ j = omega (arith, other, m) in ap (take n) (behind at bs room fits (part_size * j) (omega arith))
    ]

-- ---- a part that holds the records rs

abbrev pub Holds : (k : ℕ) (rs : List (List ℕ)) (room : List ℕ) → Type 0
Holds k rs room = take (1 + length (joined rs)) (drop (part_size * k) room) ≡ length rs ∷ joined rs

-- its count
pub holds_count : (k : ℕ) (rs : List (List ℕ)) (room : List ℕ) → Holds k rs room → count_in k room ≡ length rs
holds_count k rs room h =
    let e : part_size * k + 0 ≡ part_size * k = omega arith in
    ap (λ (i : ℕ). get_or room i 0) (sym e)
    ∙ sym (get_or-drop (part_size * k) room 0 0)
    ∙ sym (get_or-take (1 + length (joined rs)) (drop (part_size * k) room) 0 0 (omega arith))
    ∙ ap (λ (l : List ℕ). get_or l 0 0) h

-- it is the section
pub holds_part : (k : ℕ) (rs : List (List ℕ)) (room : List ℕ) → Holds k rs room → length (joined rs) ≡ length rs * record_size k → part_of k room ≡ length rs ∷ joined rs
unfolding part_of
holds_part k rs room h whole =
    ap (λ (n : ℕ). take (1 + n * record_size k) (drop (part_size * k) room)) (holds_count k rs room h)
    ∙ ap (λ (n : ℕ). take (1 + n) (drop (part_size * k) room)) (sym whole)
    ∙ h

pub joined_more : (rs : List (List ℕ)) (r : List ℕ) → joined (rs ++ (r ∷ [])) ≡ joined rs ++ r
unfolding joined
joined_more [] r = append-nil r
joined_more (x ∷ rs) r = ap (λ (l : List ℕ). x ++ l) (joined_more rs r) ∙ sym (append_assoc x (joined rs) r)

-- one record more in section k
module _ (k slot : ℕ) (d room : List ℕ) (hk : k < sections) (size : length room ≡ sections * part_size) (few : count_in k room < most_of k)
    (whole : length (slot ∷ (label_for k slot ++ d)) ≡ record_size k) where
  abbrev xs : List ℕ
  xs = slot ∷ (label_for k slot ++ d)

  to : ℕ
  to = part_size * k + section_size k (count_in k room)

  end : to + length xs ≤ part_size * k + part_size
  unfolding to
  end = omega (arith, record_fits k (count_in k room) (section_size k (count_in k room)) hk few refl)

  within : to + length xs ≤ length room
  within = omega (arith, end)

  once : List ℕ
  once = write to xs room

  once_size : length once ≡ length room
  unfolding once
  once_size = length_write to xs room within

  counted : kept k slot d room ≡ write (part_size * k) ((count_in k room + 1) ∷ []) once
  unfolding kept once to
  counted = refl

  pub kept_size : length (kept k slot d room) ≡ sections * part_size
  kept_size = ap length counted ∙ length_write (part_size * k) ((count_in k room + 1) ∷ []) once (omega (arith, once_size)) ∙ once_size ∙ size

  -- the others
  pub holds_other : (j : ℕ) → (j ≡ k → ⊥) → (rs : List (List ℕ)) → 1 + length (joined rs) ≤ part_size → Holds j rs room → Holds j rs (kept k slot d room)
  unfolding once to
  holds_other j other rs short h =
      ap (λ (l : List ℕ). take (1 + length (joined rs)) (drop (part_size * j) l)) counted
      ∙ apart j k (part_size * k) _ ((count_in k room + 1) ∷ []) once other short (omega arith) (omega arith) (omega (arith, once_size))
      ∙ apart j k to _ xs room other short (omega arith) end within
      ∙ h

  -- its own
  module _ (rs : List (List ℕ)) (h : Holds k rs room) (even : length (joined rs) ≡ length rs * record_size k) where
    count_is : count_in k room ≡ length rs
    count_is = holds_count k rs room h

    behind_them : 1 + count_in k room * record_size k ≡ 1 + length (joined rs)
    behind_them = ap (λ (n : ℕ). 1 + n * record_size k) count_is ∙ ap (λ (n : ℕ). 1 + n) (sym even)

    after_one : take (1 + length (joined rs) + length xs) (drop (part_size * k) once) ≡ (length rs ∷ joined rs) ++ xs
    unfolding once to
    after_one =
        inside to xs room within (part_size * k) (1 + length (joined rs)) (ap (λ (n : ℕ). part_size * k + n) behind_them)
        ∙ ap (λ (l : List ℕ). l ++ xs) h

    pub holds_more : Holds k (rs ++ (xs ∷ [])) (kept k slot d room)
    holds_more =
        let start : ℕ = part_size * k in
        let n : 1 + length (joined (rs ++ (xs ∷ []))) ≡ suc (length (joined rs) + length xs) =
        ap (λ (l : List ℕ). 1 + length l) (joined_more rs xs) ∙ ap (λ (m : ℕ). 1 + m) (length-append (joined rs) xs) ∙ one-add (length (joined rs) + length xs) in
        let from : drop start (kept k slot d room) ≡ (count_in k room + 1) ∷ drop 1 (drop start once) =
        ap (drop start) counted ∙ drop_at (take start once) _ start (length-take-le start once (omega (arith, once_size))) in
        let all : 1 + (length (joined rs) + length xs) ≡ 1 + length (joined rs) + length xs = omega arith in
        let rest : take (length (joined rs) + length xs) (drop 1 (drop start once)) ≡ joined rs ++ xs =
        window 1 (length (joined rs) + length xs) (drop start once) ∙ ap (λ (m : ℕ). drop 1 (take m (drop start once))) all ∙ ap (drop 1) after_one in
        let count : count_in k room + 1 ≡ length (rs ++ (xs ∷ [])) = ap (λ (m : ℕ). m + 1) count_is ∙ sym (length-append rs (xs ∷ [])) in
        ap₂ (λ (m : ℕ) (l : List ℕ). take m l) n from
        ∙ ap₂ (λ (m : ℕ) (l : List ℕ). m ∷ l) count (rest ∙ sym (joined_more rs xs))
