-- The records of the sections. What one section has and another has not is the table of kinds; every size and offset
-- follows from it.
use Rattle.std.specs.Prelude.{ℕ, ◌+◌, ◌*◌, ◌/◌, ◌%◌, Bool, cond, List, [], ◌∷◌, get_or, take, drop, replicate}
use Rattle.buffer.specs.Room.{fill}
use Rattle.records.specs.declared.Sum.{Sum}
pub use Rattle.peek.specs.Fields.{field_of}
unfoldable pub use Rattle.peek.specs.Fields.{field_bytes}
pub use Rattle.kinds.specs.Table.{sections}
unfoldable pub use Rattle.kinds.specs.Table.{kind_of, most_of, description_size, description_fault}

-- a label's bytes [S2]
abbrev pub label_size : ℕ
label_size = 8

-- this number where the test holds, otherwise what the later tests give; 0 is no fault [O1, A5]
abbrev pub fault_if : Bool → ℕ → ℕ → ℕ
fault_if test number later = cond test number later

-- a record's bytes, slot, label and description: 17, 21, 21, 20 and 22 [S1, S2]
abbrev pub record_size : ℕ → ℕ
record_size k = 1 + label_size + description_size k

-- a section's bytes, its count and so many records [S1, S8]
abbrev pub section_size : ℕ → ℕ → ℕ
section_size k count = 1 + count * record_size k

-- a record's slot, its first byte [S2]
abbrev pub slot_of : List ℕ → ℕ
slot_of r = get_or r 0 0

-- a slot in two decimal digits: '0' is 48 [N3, C7]
abbrev pub slot_digits : ℕ → List ℕ
slot_digits slot = (48 + slot / 10) ∷ (48 + slot % 10) ∷ []

-- a record's label, the bytes behind the slot [S2]
abbrev pub label_of : List ℕ → List ℕ
label_of r = take label_size (drop 1 r)

-- a record's description, all behind the label (*description* is the buyer's term) [G1, S2]
abbrev pub description_of : List ℕ → List ℕ
description_of r = drop (1 + label_size) r

-- a sum's record as a struct: slot, label and operations; 0 for bytes that the record lacks [S2, S6, B4, L5]
abbrev pub sum_of : List ℕ → Sum
sum_of r =
    record {
      slot = slot_of r;
      label = fill (label_of r) (replicate label_size 0);
      ops = fill (take 11 (description_of r)) (replicate 11 0);
    }
