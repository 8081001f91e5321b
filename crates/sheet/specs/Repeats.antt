-- What the walk over a section's labels answers, before its records are judged one by one.
use Rattle.std.specs.Prelude.{ℕ, ◌+◌, ◌*◌, ◌≤◌, ◌<◌, Bool, List, map, ◌≡◌, eqb, length, take, drop}
use Rattle.records.specs.Sections.{record_size, label_of}
use Rattle.records.specs.Records.{records_from}
use Rattle.sheet.specs.Reading.{among}

-- whether the label of record i of section k, whose records start at `start`, is that of an earlier one [F19]
abbrev pub met_before : (k start : ℕ) (s : List ℕ) (i : ℕ) → Bool
met_before k start s i =
    among (label_of (take (record_size k) (drop (start + i * record_size k) s))) (map label_of (records_from k i (drop start s)))

-- r is the number of the first of `count` records of which that holds, or past them all; of records that are not
-- whole nothing is said [F19]
abbrev pub FirstMet : (k start count : ℕ) (s : List ℕ) (r : ℕ) → Type 0
FirstMet k start count s r =
    (i : ℕ) → i ≤ r → i < count → start + (i + 1) * record_size k ≤ length s → met_before k start s i ≡ eqb i r
