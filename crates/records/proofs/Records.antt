-- The records of a section's part, by their places and one after the other. Assumes nothing.
use native.Mathlib.Nat.{sub-zero, le_of_lt, le_trans, mul-le-mul_right, div-mul-le_self, div-lt_iff_lt-mul, div-eq-sub-div, div-eq_of_lt}
use native.Mathlib.Numerals.{add-one}
use native.Mathlib.Decide.{dec_lt, ℕ_discrete}
use native.Mathlib.Omega.{arith}
use borrow.Author.Tests.{eq-eqb, ne_eqb}
use Prim.Native.Nat.{ℕ, zero, suc, ◌+◌, ◌-◌, ◌*◌, ◌/◌, ◌≤◌, ◌<◌}
use mathlib.Core.List.{List, [], ◌∷◌}
use mathlib.Core.Path.{◌≡◌, sym, ap}
use lib.ListN.{length, take, drop, length-take, length-drop, drop_of_length-le}
use lib.Seq.{drop-drop, length-take-le, take-nil}
use Rattle.records.specs.Sections.{record_size, slot_of}
use Rattle.records.specs.Records.{record_at, record_count, records_from, records_in, front, after}

-- what is left of the first m
pub drop_take : (a m : ℕ) (l : List ℕ) → drop a (take m l) ≡ take (m - a) (drop a l)
drop_take zero m l = ap (λ (n : ℕ). take n l) (sym (sub-zero m))
drop_take (suc a) zero l = let z : zero - suc a ≡ 0 = omega arith in rw z
drop_take (suc a) (suc m) [] = sym (take-nil (suc m - suc a))
drop_take (suc a) (suc m) (x ∷ l) = let z : suc m - suc a ≡ m - a = omega arith in rw z (drop_take a m l)

module _ (k : ℕ) (part : List ℕ) (i : ℕ) where
  pub record_past : length part / record_size k < i → record_at k part i ≡ []
  unfolding record_at
  record_past h =
      let past : length part < i * record_size k = (div-lt_iff_lt-mul {k = record_size k} (omega arith)).0 h in
      rw (drop_of_length-le part (le_of_lt past), take-nil (record_size k))

  pub record_within : i ≤ length part / record_size k → i * record_size k ≤ length part
  record_within h = le_trans (mul-le-mul_right (record_size k) h) (div-mul-le_self (length part) (record_size k))

module _ (k : ℕ) (part : List ℕ) where
  pub records_cons : record_size k ≤ length part → records_in k part ≡ take (record_size k) part ∷ records_in k (drop (record_size k) part)
  unfolding records_in record_count records_from
  records_cons h =
      let p : 0 < record_size k = omega arith in
      rw (div-eq-sub-div p h, add-one, length-drop)

  pub records_none : length part < record_size k → records_in k part ≡ []
  unfolding records_in record_count records_from
  records_none h = rw (div-eq_of_lt h)

-- ---- the cursor as an offset in a section's part

-- what is left of the part begins with a whole record, with that slot or another, or it does not
module _ (k : ℕ) (rest : List ℕ) (slot : ℕ) where
  pub front_short : length (take (record_size k) rest) < record_size k → front slot (records_in k rest) ≡ []
  unfolding front
  front_short h = rw (records_none k rest (omega (arith, length-take (record_size k) rest)))

  module _ (h : record_size k ≤ length (take (record_size k) rest)) where
    whole : record_size k ≤ length rest
    whole = omega (arith, length-take (record_size k) rest)

    pub front_here : slot_of (take (record_size k) rest) ≡ slot → front slot (records_in k rest) ≡ take (record_size k) rest
    unfolding front
    front_here e = rw (records_cons k rest whole, eq-eqb _ _ e)

    pub front_other : (slot_of (take (record_size k) rest) ≡ slot → ⊥) → front slot (records_in k rest) ≡ []
    unfolding front
    front_other e = rw (records_cons k rest whole, ne_eqb _ _ e)

  -- what is left behind the record at the cursor
  pub after_front : records_in k (drop (length (front slot (records_in k rest))) rest) ≡ after slot (records_in k rest)
  unfolding front after
  after_front = by_length (dec_lt (length rest) (record_size k))
    where
      by_length : Dec (length rest < record_size k) → records_in k (drop (length (front slot (records_in k rest))) rest) ≡ after slot (records_in k rest)
      by_length (yes h) = rw (records_none k rest h) (records_none k rest h)
      by_length (no h) =
          let w : record_size k ≤ length rest = omega arith in
          elim (ℕ_discrete (slot_of (take (record_size k) rest)) slot) [
            | yes q ↦ rw (records_cons k rest w, eq-eqb _ _ q, length-take-le (record_size k) rest w)
            | no q ↦ rw (records_cons k rest w, ne_eqb _ _ q) (records_cons k rest w)
          ]

-- the cursor behind the record that `record_with` hands out
pub cursor_next : (k at : ℕ) (part : List ℕ) (slot : ℕ) (r : List ℕ) → r ≡ front slot (records_in k (drop at part))
    → records_in k (drop (at + length r) part) ≡ after slot (records_in k (drop at part))
cursor_next k at part slot r e = rw (e, ← drop-drop _ at part) (after_front k (drop at part) slot)
