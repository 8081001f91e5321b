-- The record with a slot, and the cursor that meets the slots in rising order: they agree. Assumes nothing.
use Prim.Native.Nat.{ℕ, zero, suc, ◌+◌, ◌≤◌, ◌<◌}
use mathlib.Core.List.{List, [], ◌∷◌}
use mathlib.Core.Path.{◌≡◌, refl, sym, ◌∙◌}
use native.Mathlib.Decide.{ℕ_discrete}
use native.Mathlib.Numerals.{add-one}
use native.Mathlib.Omega.{arith}
use borrow.Author.Tests.{eq-eqb, ne_eqb}
use lib.ListN.{length, get_or}
use Rattle.records.specs.Sections.{slot_of}
use Rattle.records.specs.Records.{find, front, after}
use Rattle.sheet.specs.Parsed.{Ordered}
use Rattle.sheet.proofs.Faults.{with_floor}
use Rattle.sheet.proofs.Records.{record_faultless}

-- ---- the record with a slot

-- the record that was found stands somewhere, and has the slot
pub record Stands (slot : ℕ) (rs : List (List ℕ)) (r : List ℕ) : Type 0 where
  pub place : ℕ
  pub within : place < length rs
  pub is : get_or rs place [] ≡ r
  pub has : slot_of r ≡ slot

pub find_found : (slot : ℕ) (rs : List (List ℕ)) → (find slot rs ≡ [] → ⊥) → Stands slot rs (find slot rs)
unfolding find
find_found slot [] n = absurd (n refl)
find_found slot (r ∷ rs) n =
    elim (ℕ_discrete (slot_of r) slot) [
      | yes q ↦ let e = eq-eqb (slot_of r) slot q in rw e (record { place = 0; within = omega arith; is = refl; has = q })
      | no q ↦
          let e = ne_eqb (slot_of r) slot q in
          let later = find_found slot rs (rw e at n) in
          rw e (record { place = suc later.place; within = omega arith; is = later.is; has = later.has })
    ]

-- nothing is found where no record has the slot
pub find_none : (slot : ℕ) (rs : List (List ℕ)) → ((i : ℕ) → i < length rs → slot_of (get_or rs i []) ≡ slot → ⊥) → find slot rs ≡ []
unfolding find
find_none slot [] n = refl
find_none slot (r ∷ rs) n =
    rw (ne_eqb (slot_of r) slot (n 0 (omega arith))) (find_none slot rs (λ i h. n (suc i) (omega arith)))

-- no record has a slot below the floor
pub find_low : {k floor : ℕ} {rs : List (List ℕ)} → Ordered k floor rs → (slot : ℕ) → slot < floor → find slot rs ≡ []
find_low {rs = rs} o slot h = find_none slot rs (λ i l e. omega (arith, (record_faultless o i l).rising))

-- a record of the section is found by its slot, wherever it stands
pub find_at : {k floor : ℕ} {rs : List (List ℕ)} → Ordered k floor rs → (i : ℕ) → i < length rs → find (slot_of (get_or rs i [])) rs ≡ get_or rs i []
unfolding find
find_at Ordered.done i h = absurd (omega arith)
find_at (Ordered.next {r = r} f o) zero h = rw (eq-eqb (slot_of r) (slot_of r) refl)
find_at (Ordered.next {r = r} {rs = rs} f o) (suc i) h =
    let l : i < length rs = omega arith in
    rw (ne_eqb (slot_of r) (slot_of (get_or rs i [])) (λ e. omega (arith, (record_faultless o i l).rising))) (find_at o i l)

-- ---- the cursor that meets the slots in rising order

pub front_find : {k : ℕ} {rs : List (List ℕ)} (slot : ℕ) → Ordered k slot rs → front slot rs ≡ find slot rs
unfolding front find
front_find slot Ordered.done = refl
front_find slot (Ordered.next {r = r} f o) =
    elim (ℕ_discrete (slot_of r) slot) [
      | yes q ↦ rw (eq-eqb (slot_of r) slot q)
      | no q ↦ rw (ne_eqb (slot_of r) slot q) (sym (find_low o slot (omega (arith, f.rising))))
    ]

-- past the cursor's record, a later slot's record is still there
pub after_find : (slot later : ℕ) (rs : List (List ℕ)) → slot < later → find later (after slot rs) ≡ find later rs
unfolding after find
after_find slot later [] h = refl
after_find slot later (r ∷ rs) h =
    elim (ℕ_discrete (slot_of r) slot) [
      | yes q ↦ rw (eq-eqb (slot_of r) slot q, ne_eqb (slot_of r) later (λ p. omega arith))
      | no q ↦ rw (ne_eqb (slot_of r) slot q)
    ]

pub after_ordered : {k : ℕ} {rs : List (List ℕ)} (slot : ℕ) → Ordered k slot rs → Ordered k (slot + 1) (after slot rs)
unfolding after
after_ordered slot Ordered.done = Ordered.done
after_ordered slot (Ordered.next {r = r} f o) =
    elim (ℕ_discrete (slot_of r) slot) [
      | yes q ↦ rw (eq-eqb (slot_of r) slot q) (rw q at o)
      | no q ↦ rw (ne_eqb (slot_of r) slot q) (Ordered.next (with_floor (slot + 1) (omega (arith, f.rising)) f) o)
    ]

-- the records from the cursor on, where slot n is due and every slot before was met
unfoldable pub cursor : ℕ → List (List ℕ) → List (List ℕ)
cursor zero rs = rs
cursor (suc n) rs = after n (cursor n rs)

cursor_ordered : {k : ℕ} {rs : List (List ℕ)} → Ordered k 0 rs → (n : ℕ) → Ordered k n (cursor n rs)
unfolding cursor
cursor_ordered o zero = o
cursor_ordered o (suc n) = rw (← add-one n) (after_ordered n (cursor_ordered o n))

cursor_later : (n slot : ℕ) (rs : List (List ℕ)) → n ≤ slot → find slot (cursor n rs) ≡ find slot rs
unfolding cursor
cursor_later zero slot rs h = refl
cursor_later (suc n) slot rs h = after_find n slot (cursor n rs) (omega arith) ∙ cursor_later n slot rs (omega arith)

-- the walk meets at each slot the record that has it
pub cursor_find : {k : ℕ} {rs : List (List ℕ)} → Ordered k 0 rs → (slot : ℕ) → front slot (cursor slot rs) ≡ find slot rs
cursor_find {rs = rs} o slot = front_find slot (cursor_ordered o slot) ∙ cursor_later slot slot rs (omega arith)
