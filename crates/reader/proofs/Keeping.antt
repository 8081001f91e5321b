-- The reader's room, as lists: a record more in one section's part leaves the other parts alone, and each part is the
-- section as the sheet has it. Assumes nothing.
use Prim.Native.Nat.{ℕ, suc, ◌+◌, ◌*◌, ◌≤◌, ◌<◌, ◌-◌}
use mathlib.Core.Path.{◌≡◌, refl, ap, ◌∙◌}
use mathlib.Core.List.{List, [], ◌∷◌, ◌++◌}
use native.Mathlib.Decide.{dec_lt}
use native.Mathlib.Nat.{le_refl, mul-le-mul}
use native.Mathlib.Numerals.{add-one}
use native.Mathlib.Omega.{arith}
use borrow.Rule.Slice.PartMut.{mid_of, put_mid}
use lib.Dec.{leb, leb→le}
use lib.ListN.{length, set, drop, length-drop}
use lib.Seq.{set_split, drop-drop, length-take-le}
use Rattle.lines.proofs.Computed.{every_below_law}
use Rattle.buffer.specs.declared.Outcome.TheVariants.{Done}
use Rattle.buffer.specs.Room.{fill, write}
use Rattle.buffer.proofs.Writing.{wrote, lent, length_write}
use Rattle.kinds.specs.Table.{sections, kind_of, most_of, description_size, description_read}
use Rattle.kinds.proofs.Ways as ways
use Rattle.records.specs.Sections.{record_size, section_size}
use Rattle.records.proofs.Bounds.{times}
use Rattle.reader.specs.Back.{label_for}
use Rattle.reader.specs.Taking.{part_size, count_in, part_of, parts_from, kept}

-- ---- a description that is read is whole, or nothing

pub description_short : (k : ℕ) → k < sections → (ws : List ℕ) → length (description_read k ws) ≤ description_size k
description_short k h ws =
    elim (dec_lt 0 (length (description_read k ws))) [
      | yes p ↦ omega (arith, (ways.exactly k h ws p).whole)
      | no n ↦ omega arith
    ]

-- ---- each section has room for all its records

pub section_fits : (k : ℕ) → k < sections → 1 + most_of k * record_size k ≤ part_size
unfolding most_of description_size kind_of
section_fits k h = leb→le _ _ (every_below_law sections (λ k. leb (1 + most_of k * record_size k) part_size) tt k h)

-- and for one more where it has not all
pub record_fits : (k count size : ℕ) → k < sections → count < most_of k → size ≡ section_size k count → size + record_size k ≤ part_size
record_fits k count size hk h e =
    omega (
      arith,
      e,
      mul-le-mul {n₁ = suc count} {m₁ = record_size k} {n₂ = most_of k} {m₂ = record_size k} h (le_refl (record_size k)),
      times count (record_size k),
      section_fits k hk,
    )

-- how long the rest of the room is
pub rest_length : (at : ℕ) (room : List ℕ) → length (mid_of at (length room - at) room) ≡ length room - at
rest_length at room = length-take-le (length room - at) (drop at room) (omega (arith, length-drop at room))

-- ---- a record more, as the code writes it

set_write : (at b : ℕ) (out : List ℕ) → at < length out → set out at b ≡ write at (b ∷ []) out
set_write at b out h = set_split out at b h ∙ rw (← add-one at, drop-drop 1 at out)

pub kept_made : (k slot size : ℕ) (d room out' : List ℕ) → size ≡ section_size k (count_in k room)
    → part_size * k + size + length (slot ∷ (label_for k slot ++ d)) ≤ length room
    → out' ≡ fill (slot ∷ (label_for k slot ++ d)) (mid_of (part_size * k + size) (length room - (part_size * k + size)) room)
    → set (put_mid (part_size * k + size) (length room - (part_size * k + size)) room out') (part_size * k) (count_in k room + 1) ≡ kept k slot d room
unfolding kept
kept_made k slot size d room out' e h f =
    let xs = slot ∷ (label_for k slot ++ d) in
    let to = part_size * k + size in
    let w : put_mid to (length room - to) room out' ≡ write to xs room =
    lent to xs room (Done (length xs)) out' h (wrote xs (mid_of to (length room - to) room) out' (length xs) (omega (arith, rest_length to room)) refl f) in
    ap (λ (r : List ℕ). set r (part_size * k) (count_in k room + 1)) w
    ∙ set_write (part_size * k) (count_in k room + 1) (write to xs room) (omega (arith, length_write to xs room h))
    ∙ ap (λ (n : ℕ). write (part_size * k) ((count_in k room + 1) ∷ []) (write (part_size * k + n) xs room)) e

-- ---- the sections from section k on: the next one, and those behind it

pub parts_from_law : (room : List ℕ) (k : ℕ) → k < sections
    → parts_from (sections - k) k room ≡ part_of k room ++ parts_from (sections - (k + 1)) (k + 1) room
unfolding parts_from
parts_from_law room k h =
    let n : sections - k ≡ suc (sections - (k + 1)) = omega arith in ap (λ (m : ℕ). parts_from m k room) n

pub parts_none : (room : List ℕ) (k : ℕ) → sections ≤ k → parts_from (sections - k) k room ≡ []
unfolding parts_from
parts_none room k h = let n : sections - k ≡ 0 = omega arith in rw n
