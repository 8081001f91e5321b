-- The walk over a section's slots, and over the sections: what is still to be written makes the whole table. Assumes
-- nothing.
use Prim.Native.Nat.{ℕ, suc, ◌+◌, ◌-◌, ◌≤◌, ◌<◌}
use mathlib.Core.Path.{◌≡◌, refl, sym, ap}
use mathlib.Core.List.{List, [], ◌++◌}
use native.Mathlib.Omega.{arith}
use native.Mathlib.Nat.{sub-zero}
use borrow.Rule.Slice.PartMut.{mid_of, put_mid}
use lib.ListN.{length, get_or, drop}
use Rattle.buffer.specs.Room.{bytes, Delivered, Wrote}
use Rattle.buffer.specs.declared.Outcome.{Outcome}
use Rattle.buffer.proofs.Left.{Stepping, stepping_start, stepping_room, stepping_turn, stepping_end, wrote_lent}
use Rattle.kinds.specs.Table.{sections, most_of, entry_size}
use Rattle.records.specs.Records.{records_in, front}
use Rattle.sheet.specs.Parsed.{parse}
use Rattle.sheet.proofs.Cursors.{Cursor, cursor_finds, cursor_turn}
use Rattle.programme.proofs.Rows.{entry_length}
use Rattle.programme.specs.Table.{entry_for, entries_from, table_from, table_of}

-- ---- the slots of a section

-- the entries of all slots, and of those from `slot` on
abbrev pub section_entries : (k : ℕ) (part : List ℕ) → List ℕ
section_entries k part = entries_from (most_of k) 0 k (records_in k part)

abbrev pub entries_on : (k : ℕ) (part : List ℕ) (slot : ℕ) → List ℕ
entries_on k part slot = entries_from (most_of k - slot) slot k (records_in k part)

all_entries : (k : ℕ) (part : List ℕ) → entries_on k part 0 ≡ section_entries k part
all_entries k part = rw (sub-zero (most_of k))

no_entries : (k : ℕ) (part : List ℕ) → entries_on k part (most_of k) ≡ []
unfolding entries_from
no_entries k part = let e : most_of k - most_of k ≡ 0 = omega arith in rw e

pub record Filling (k from : ℕ) (part out₀ out : List ℕ) (at i slot : ℕ) : Type 0 where
  pub cursor : Cursor k slot i part
  pub steps : Stepping from (entries_on k part) (most_of k) out₀ out at slot

module _ (k from : ℕ) (part out₀ out : List ℕ) (at i slot : ℕ) (r : List ℕ) (f : Filling k from part out₀ out at i slot) (h : slot < most_of k)
    (e : r ≡ front slot (records_in k (drop i part))) where
  entries_step : entries_on k part slot ≡ entry_for k r ++ entries_on k part (slot + 1)
  unfolding entries_from
  entries_step =
      let n : most_of k - slot ≡ suc (most_of k - (slot + 1)) = omega arith in
      rw (n, cursor_finds k slot i part r f.cursor e)

  room : at + length (entry_for k r) ≤ length out
  room = stepping_room from (entries_on k part) (most_of k) out₀ out at slot f.steps (entry_for k r) entries_step

  pub filling_room : at + entry_size k ≤ length out
  filling_room = rw (← entry_length k r) room

  -- the rest of the room was lent to the writer of the slot's entry
  pub filling_turn : (o : Outcome) (lent : List ℕ) → Delivered (bytes (entry_for k r)) (mid_of at (length out - at) out) o lent
      → Filling k from part out₀ (put_mid at (length out - at) out lent) (at + entry_size k) (i + length r) (slot + 1)
  filling_turn o lent d =
      record {
        cursor = cursor_turn k slot i part r f.cursor e;
        steps =
            stepping_turn from (entries_on k part) (most_of k) out₀ out at slot f.steps (entry_for k r) entries_step h _ _
            (wrote_lent at (entry_for k r) out o lent _ room (ap (λ (n : ℕ). at + n) (sym (entry_length k r))) d);
      }

pub filling_end : (k from : ℕ) (part out₀ out : List ℕ) (at i slot : ℕ) → Filling k from part out₀ out at i slot → most_of k ≤ slot
    → Wrote from (section_entries k part) out₀ out at
filling_end k from part out₀ out at i slot f h =
    rw (all_entries k part) at
    (stepping_end from (entries_on k part) (most_of k) out₀ out at slot f.steps (no_entries k part) h)

-- ---- the sections

-- the entries of the sections from section k on
abbrev pub table_on : (s : List ℕ) (k : ℕ) → List ℕ
table_on s k = table_from (sections - k) k (parse s)

-- they are of so many steps, one for each section
abbrev pub Going : (s out₀ out : List ℕ) (at k : ℕ) → Type 0
Going s out₀ out at k = Stepping 0 (table_on s) sections out₀ out at k

whole_table : (s : List ℕ) → table_on s 0 ≡ table_of (parse s)
unfolding table_of
whole_table s = refl

pub going_start : (s out : List ℕ) → length (table_of (parse s)) ≤ length out → Going s out out 0 0
going_start s out h = stepping_start 0 (table_on s) sections out (rw (whole_table s) (omega arith))

module _ (s out₀ out : List ℕ) (at k : ℕ) (part : List ℕ) (g : Going s out₀ out at k) (h : k < sections)
    (e : records_in k part ≡ get_or (parse s) k []) where
  table_step : table_on s k ≡ section_entries k part ++ table_on s (k + 1)
  unfolding table_from
  table_step =
      let n : sections - k ≡ suc (sections - (k + 1)) = omega arith in
      rw (n, e)

  pub going_room : at + length (section_entries k part) ≤ length out
  going_room = stepping_room 0 (table_on s) sections out₀ out at k g (section_entries k part) table_step

  pub going_turn : (out' : List ℕ) (at' : ℕ) → Wrote at (section_entries k part) out out' at' → Going s out₀ out' at' (k + 1)
  going_turn = stepping_turn 0 (table_on s) sections out₀ out at k g (section_entries k part) table_step h

pub going_end : (s out₀ out : List ℕ) (at k : ℕ) → Going s out₀ out at k → sections ≤ k → Wrote 0 (table_of (parse s)) out₀ out at
unfolding table_from
going_end s out₀ out at k g h = rw (whole_table s) at (stepping_end 0 (table_on s) sections out₀ out at k g refl h)
