-- What reading a sheet gives: the first fault from left to right. `rest` is what is still to be read, and `at` its
-- offset in the sheet.
use Rattle.std.specs.Prelude.{ℕ, zero, suc, ◌+◌, Bool, false, not, ◌||◌, List, [], ◌∷◌, map, ltb, leb, length, get_or, take, drop}
use Rattle.compare.specs.Same.{same}
use Rattle.compare.specs.Within.{all_within}
use Rattle.buffer.specs.Verdict.{and_then, refuse_if, refuse_fault}
use Rattle.buffer.specs.declared.Verdict.{Verdict}
use Rattle.buffer.specs.declared.Verdict.TheVariants.{Accepted}
use Rattle.records.specs.Sections.{fault_if, sections, most_of, record_size, section_size, description_fault, slot_of, label_of, description_of}

-- whether a label is one of these, all its bytes compared [S4]
unfoldable pub among : (label : List ℕ) (labels : List (List ℕ)) → Bool
among label [] = false
among label (l ∷ ls) = same label l || among label ls

-- the least slot that may come behind these records: one above the latest, which stands first [S3]
abbrev pub least_slot : (before : List (List ℕ)) → ℕ
least_slot [] = 0
least_slot (r ∷ before) = slot_of r + 1

-- a record's first refusal number in the order of O1, 0 if it has none; `before` are the earlier records of its
-- section, the latest first [O1, O3, F1, F3, F4, F5, F19]
unfoldable pub record_fault : (k : ℕ) (before : List (List ℕ)) (r : List ℕ) → ℕ
record_fault k before r =
    fault_if (ltb (length r) (record_size k)) 1
    (fault_if (leb (most_of k) (slot_of r)) 3
    (fault_if (ltb (slot_of r) (least_slot before)) 4
    (fault_if (not (all_within 0x20 0x7E (label_of r))) 5
    (fault_if (among (label_of r) (map label_of before)) 19
    (description_fault k (description_of r))))))

-- the bytes of the next record of section k, fewer where the sheet ends [S1, B4]
abbrev pub next_record : ℕ → List ℕ → List ℕ
next_record k rest = take (record_size k) rest

-- n records of section k behind those `before`; a fault's place is its record [O1, F1, F4, F19]
unfoldable pub records_verdict : (k n : ℕ) (before : List (List ℕ)) (at : ℕ) (rest : List ℕ) → Verdict
records_verdict k zero before at rest = Accepted
records_verdict k (suc n) before at rest =
    and_then (refuse_fault (record_fault k before (next_record k rest)) at)
    (records_verdict k n (next_record k rest ∷ before) (at + record_size k) (drop (record_size k) rest))

-- the count of section k is missing, or above the section's most; the place is the count [O2, F1, F2]
unfoldable pub count_verdict : ℕ → ℕ → List ℕ → Verdict
count_verdict k at rest = and_then (refuse_if (ltb (length rest) 1) 1 at) (refuse_if (ltb (most_of k) (get_or rest 0 0)) 2 at)

-- a section's count, and then its records [O2]
unfoldable pub section_verdict : ℕ → ℕ → List ℕ → Verdict
section_verdict k at rest = and_then (count_verdict k at rest) (records_verdict k (get_or rest 0 0) [] (at + 1) (drop 1 rest))

-- n sections from section k on; 11 where bytes are left behind them, at the first of these [O1, O3, F11]
unfoldable pub sections_verdict : ℕ → ℕ → ℕ → List ℕ → Verdict
sections_verdict zero k at rest = refuse_if (ltb 0 (length rest)) 11 at
sections_verdict (suc n) k at rest =
    and_then (section_verdict k at rest)
    (sections_verdict n (k + 1) (at + section_size k (get_or rest 0 0)) (drop (section_size k (get_or rest 0 0)) rest))

-- the verdict on a sheet: accepted, or its first fault by number and place [O1, D1.2]
unfoldable pub verdict : List ℕ → Verdict
verdict s = sections_verdict sections 0 0 s
