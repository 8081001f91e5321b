-- A cursor into a section's part, at which the slots are met in rising order: the record there is the one with the slot,
-- wherever it stands. Assumes nothing.
use Prim.Native.Nat.{ℕ, ◌+◌, ◌≤◌, ◌<◌}
use mathlib.Core.Path.{◌≡◌, refl, ap, ◌∙◌}
use mathlib.Core.List.{List}
use native.Mathlib.Omega.{arith}
use native.Mathlib.Decide.{dec_lt, ℕ_discrete}
use lib.ListN.{length, take, drop, length-drop, length-take}
use Rattle.records.specs.Sections.{record_size, slot_of}
use Rattle.records.specs.Records.{records_in, find, front, after}
use Rattle.records.proofs.Records.{cursor_next, front_short, front_here, front_other}
use Rattle.sheet.specs.Parsed.{Ordered}
use Rattle.sheet.proofs.Found.{front_find, after_find, after_ordered}

pub record Cursor (k slot at : ℕ) (part : List ℕ) : Type 0 where
  pub within : at ≤ length part
  pub ordered : Ordered k slot (records_in k (drop at part))
  pub found : (t : ℕ) → slot ≤ t → find t (records_in k (drop at part)) ≡ find t (records_in k part)

pub cursor_start : (k : ℕ) (part : List ℕ) → Ordered k 0 (records_in k part) → Cursor k 0 0 part
cursor_start k part o = record { within = omega arith; ordered = o; found = λ t h. refl }

-- the record at the cursor is within the part
pub front_fits : (k slot : ℕ) (rest : List ℕ) → length (front slot (records_in k rest)) ≤ length rest
front_fits k slot rest = go (dec_lt (length (take (record_size k) rest)) (record_size k))
  where
    go : Dec (length (take (record_size k) rest) < record_size k) → length (front slot (records_in k rest)) ≤ length rest
    go (yes h) = rw (front_short k rest slot h) (omega arith)
    go (no h) =
        let w : record_size k ≤ length (take (record_size k) rest) = omega arith in
        elim (ℕ_discrete (slot_of (take (record_size k) rest)) slot) [
          | yes q ↦ rw (front_here k rest slot w q) (omega (arith, length-take (record_size k) rest))
          | no q ↦ rw (front_other k rest slot w q) (omega arith)
        ]

module _ (k slot at : ℕ) (part r : List ℕ) (c : Cursor k slot at part) (e : r ≡ front slot (records_in k (drop at part))) where
  pub cursor_finds : r ≡ find slot (records_in k part)
  cursor_finds = e ∙ front_find slot c.ordered ∙ c.found slot (omega arith)

  pub cursor_fits : at + length r ≤ length part
  cursor_fits =
      let h = c.within in
      omega (arith, ap length e, front_fits k slot (drop at part), length-drop at part)

  pub cursor_turn : Cursor k (slot + 1) (at + length r) part
  cursor_turn =
      let n : records_in k (drop (at + length r) part) ≡ after slot (records_in k (drop at part)) = cursor_next k at part slot r e in
      record {
        within = cursor_fits;
        ordered = rw n (after_ordered slot c.ordered);
        found = λ t h. rw n (after_find slot t (records_in k (drop at part)) (omega arith) ∙ c.found t (omega arith));
      }
