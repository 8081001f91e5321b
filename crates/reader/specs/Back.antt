-- The sheet that a stream sets up.
use Rattle.std.specs.Prelude.{ℕ, zero, suc, ◌+◌, ◌-◌, cond, List, [], ◌∷◌, ◌++◌, eqb, replicate}
use Rattle.buffer.specs.Room.{Reply, unless}
use Rattle.command.specs.Reading.{number}
use Rattle.records.specs.Sections.{sections, label_size, slot_digits}
use Rattle.sheet.specs.Parsed.{render}
use Rattle.kinds.specs.Table.{letter_of, section_at, slot_at}
use Rattle.reader.specs.Judging.{description_in, rests, stream_verdict}

-- the label of a record that is read: the section's letter, the slot's two digits, and spaces [C7]
abbrev pub label_for : (k slot : ℕ) → List ℕ
label_for k slot = letter_of k ∷ (slot_digits slot ++ replicate (label_size - 3) 0x20)

-- the record of the item at the start of s: slot, label, description [C7]
unfoldable pub record_in : (s : List ℕ) → List ℕ
record_in s =
    slot_at (section_at (number s)) (number s)
    ∷ (label_for (section_at (number s)) (slot_at (section_at (number s)) (number s)) ++ description_in s)

-- the records of section k, of the items at the starts of ss, in the stream's order [C7]
unfoldable pub records_of : (k : ℕ) (ss : List (List ℕ)) → List (List ℕ)
records_of k [] = []
records_of k (s ∷ ss) = cond (eqb (section_at (number s)) k) (record_in s ∷ records_of k ss) (records_of k ss)

-- the same of n sections from section k on [C7]
unfoldable pub sections_of : (n k : ℕ) (ss : List (List ℕ)) → List (List (List ℕ))
sections_of zero k ss = []
sections_of (suc n) k ss = records_of k ss ∷ sections_of n (k + 1) ss

-- the sheet of a stream, taken apart into its sections; that of no bytes has no record [C7, C8]
unfoldable pub sheet_in : (s : List ℕ) → List (List (List ℕ))
sheet_in s = sections_of sections 0 (rests s)

-- a stream's refusal, else its sheet; whether there is room is asked last [C7, A2, O7]
abbrev pub read_back : (stream : List ℕ) → Reply
read_back s = unless (stream_verdict s) (render (sheet_in s))
