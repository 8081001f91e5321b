-- Which fault a record has, by the tests that hold of it: one law for each line of the refusal table. Assumes nothing.
use borrow.Author.Tests.{lt-ltb, le-ltb, le-leb, lt-leb, ltb-false, leb-false, not-false}
use native.Mathlib.Omega.{arith}
use Prim.Native.Nat.{ℕ, ◌≤◌, ◌<◌}
use mathlib.Core.Bool.{Bool, true, false, not}
use mathlib.Core.List.{List, map}
use mathlib.Core.Path.{◌≡◌, refl, ◌∙◌}
use lib.Dec.{ltb, leb}
use lib.ListN.{length}
use Rattle.compare.specs.Within.{all_within}
use Rattle.records.specs.Sections.{fault_if, most_of, description_fault, record_size, slot_of, label_of, description_of}
use Rattle.sheet.specs.Reading.{among, least_slot, record_fault}
use Rattle.sheet.specs.Parsed.{Faultless}

module _ (k : ℕ) (before : List (List ℕ)) (r : List ℕ) where
  pub record_short : length r < record_size k → record_fault k before r ≡ 1
  unfolding record_fault
  record_short h = simp (lt-ltb (length r) (record_size k) h)

  module _ (whole : record_size k ≤ length r) where
    pub record_slot : most_of k ≤ slot_of r → record_fault k before r ≡ 3
    unfolding record_fault
    record_slot h = simp (le-ltb (length r) (record_size k) whole, le-leb (most_of k) (slot_of r) h)

    module _ (fit : slot_of r < most_of k) where
      pub record_order : slot_of r < least_slot before → record_fault k before r ≡ 4
      unfolding record_fault
      record_order h = simp (le-ltb (length r) (record_size k) whole, lt-leb (most_of k) (slot_of r) fit, lt-ltb (slot_of r) (least_slot before) h)

      module _ (rising : least_slot before ≤ slot_of r) where
        pub record_label : all_within 0x20 0x7E (label_of r) ≡ false → record_fault k before r ≡ 5
        unfolding record_fault
        record_label e = simp (le-ltb (length r) (record_size k) whole, lt-leb (most_of k) (slot_of r) fit, le-ltb (slot_of r) (least_slot before) rising, e)

        pub record_taken : all_within 0x20 0x7E (label_of r) ≡ true → among (label_of r) (map label_of before) ≡ true → record_fault k before r ≡ 19
        unfolding record_fault
        record_taken e met = simp (le-ltb (length r) (record_size k) whole, lt-leb (most_of k) (slot_of r) fit, le-ltb (slot_of r) (least_slot before) rising, e, met)

        pub record_description : all_within 0x20 0x7E (label_of r) ≡ true → among (label_of r) (map label_of before) ≡ false
            → record_fault k before r ≡ description_fault k (description_of r)
        unfolding record_fault
        record_description e new = simp (le-ltb (length r) (record_size k) whole, lt-leb (most_of k) (slot_of r) fit, le-ltb (slot_of r) (least_slot before) rising, e, new)

-- ---- a record without fault is faultless, and the other way round

-- where there is no fault, the first test fails and the later ones find none
clear : (n : ℕ) (b : Bool) (later : ℕ) → (n ≡ 0 → ⊥) → fault_if b n later ≡ 0 → (b ≡ false) × (later ≡ 0)
clear n true later nz e = absurd (nz e)
clear n false later nz e = (refl, e)

-- r has no more bytes than a record
module _ (k : ℕ) (before : List (List ℕ)) (r : List ℕ) where
  pub faultless : length r ≤ record_size k → record_fault k before r ≡ 0
      → Faultless k (least_slot before) r × (among (label_of r) (map label_of before) ≡ false)
  unfolding record_fault
  faultless l e =
      let c1 = clear 1 (ltb (length r) (record_size k)) _ (λ z. omega arith) e in
      let c3 = clear 3 (leb (most_of k) (slot_of r)) _ (λ z. omega arith) c1.1 in
      let c4 = clear 4 (ltb (slot_of r) (least_slot before)) _ (λ z. omega arith) c3.1 in
      let c5 = clear 5 (not (all_within 0x20 0x7E (label_of r))) _ (λ z. omega arith) c4.1 in
      let c19 = clear 19 (among (label_of r) (map label_of before)) _ (λ z. omega arith) c5.1 in
      let w : record_size k ≤ length r = ltb-false (length r) (record_size k) c1.0 in (
        record {
          whole = omega arith;
          slot_fits = leb-false (most_of k) (slot_of r) c3.0;
          rising = ltb-false (slot_of r) (least_slot before) c4.0;
          label_fits = not-false (all_within 0x20 0x7E (label_of r)) c5.0;
          description_fits = c19.1;
        },
        c19.0,
      )

  pub no_fault : Faultless k (least_slot before) r → among (label_of r) (map label_of before) ≡ false → record_fault k before r ≡ 0
  no_fault f new =
      record_description k before r (omega (arith, f.whole)) f.slot_fits f.rising f.label_fits new ∙ f.description_fits

-- the floor may be any that is not above the slot
pub with_floor : {k floor : ℕ} {r : List ℕ} (low : ℕ) → low ≤ slot_of r → Faultless k floor r → Faultless k low r
with_floor low h f =
    record { whole = f.whole; slot_fits = f.slot_fits; rising = h; label_fits = f.label_fits; description_fits = f.description_fits }
