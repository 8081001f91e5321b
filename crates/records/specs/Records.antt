-- The records of a section's part: the bytes that hold them, without the section's count.
use Rattle.std.specs.Prelude.{ℕ, zero, suc, ◌*◌, ◌/◌, cond, List, [], ◌∷◌, eqb, length, take, drop}
use Rattle.records.specs.Sections.{record_size, slot_of}

-- how many records a section's part holds [S1, S9]
unfoldable pub record_count : ℕ → List ℕ → ℕ
record_count k part = length part / record_size k

-- record i of a section's part; nothing past its end [S1, B4]
unfoldable pub record_at : ℕ → List ℕ → ℕ → List ℕ
record_at k part i = take (record_size k) (drop (i * record_size k) part)

-- the first n records of section k, as far as the bytes go [S1, S12, B4]
unfoldable pub records_from : ℕ → ℕ → List ℕ → List (List ℕ)
records_from k zero rest = []
records_from k (suc n) rest = take (record_size k) rest ∷ records_from k n (drop (record_size k) rest)

-- all the records of a section's part [S1, S9]
unfoldable pub records_in : ℕ → List ℕ → List (List ℕ)
records_in k part = records_from k (record_count k part) part

-- the record with that slot, at whatever place it stands; no bytes if there is none [G9, B7]
unfoldable pub find : ℕ → List (List ℕ) → List ℕ
find slot [] = []
find slot (r ∷ rs) = cond (eqb (slot_of r) slot) r (find slot rs)

-- computed, by a cursor over rising slots: the record if it has the slot; theorem walk_finds of sheet [B6, G9, N2]
unfoldable pub front : ℕ → List (List ℕ) → List ℕ
front slot [] = []
front slot (r ∷ rs) = cond (eqb (slot_of r) slot) r []

-- computed: the records from the cursor on, past the one with that slot; theorem walk_finds of sheet [B6, G9, N2]
unfoldable pub after : ℕ → List (List ℕ) → List (List ℕ)
after slot [] = []
after slot (r ∷ rs) = cond (eqb (slot_of r) slot) rs (r ∷ rs)
