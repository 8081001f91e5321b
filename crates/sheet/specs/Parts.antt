-- The parts of a sheet: where its sections are.
use Rattle.std.specs.Prelude.{ℕ, zero, suc, ◌+◌, ◌*◌, cond, ◌&&◌, List, [], ◌∷◌, ltb, eqb, length, get_or, take, drop}
use Rattle.buffer.specs.Verdict.{is_accepted, verdict_number, verdict_place}
use Rattle.records.specs.Sections.{sections, record_size, section_size}
use Rattle.sheet.specs.Reading.{verdict}
use Rattle.sheet.specs.declared.Span.{Span}
use Rattle.sheet.specs.declared.Judged.{Judged}

-- the offset of section k's count: it is behind the counts and records before it [S1, S12]
unfoldable pub offset_of : List ℕ → ℕ → ℕ
offset_of s zero = 0
offset_of s (suc k) = offset_of s k + section_size k (get_or s (offset_of s k) 0)

-- the count of section k [S1, S12]
unfoldable pub count_of : List ℕ → ℕ → ℕ
count_of s k = get_or s (offset_of s k) 0

-- the records of section k, without the count, of bytes that are not judged again [S12]
unfoldable pub section_unchecked : List ℕ → ℕ → List ℕ
section_unchecked s k = cond (ltb k sections) (take (count_of s k * record_size k) (drop (offset_of s k + 1) s)) []

-- the part of section k; empty if the sheet is refused or has no such section [S9, S10]
unfoldable pub section_of : List ℕ → ℕ → List ℕ
section_of s k = cond (is_accepted (verdict s)) (section_unchecked s k) []

-- where that part begins in the lent bytes: right behind the section's count; 0 if there is none [S9, S10]
unfoldable pub section_start : List ℕ → ℕ → ℕ
section_start s k = cond (ltb k sections && is_accepted (verdict s)) (offset_of s k + 1) 0

-- the same for a caller to whom the part is given in numbers: an empty part begins at 0 [A6]
unfoldable pub part_start : List ℕ → ℕ → ℕ
part_start s k = cond (eqb (length (section_of s k)) 0) 0 (section_start s k)

-- that part in numbers, with the number that checking the sheet gives [A6, S10]
unfoldable pub span_of : List ℕ → ℕ → Span
span_of s k = record { refusal = verdict_number (verdict s); start = part_start s k; size = length (section_of s k) }

-- what n sections from section k on give, one behind the other [S14]
abbrev pub each_from : (n k : ℕ) → (ℕ → ℕ) → List ℕ
each_from zero k f = []
each_from (suc n) k f = f k ∷ each_from n (k + 1) f

-- the verdict on a sheet, and where each section's part begins and how long it is; all 0 where it is refused [S14]
unfoldable pub judged_of : List ℕ → Judged
judged_of s =
    record {
      refusal = verdict_number (verdict s);
      place = verdict_place (verdict s);
      starts = each_from sections 0 (section_start s);
      sizes = each_from sections 0 (λ k. length (section_of s k));
    }
