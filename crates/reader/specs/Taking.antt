-- What the reader's own calls answer and leave, item by item.
use Rattle.std.specs.Prelude.{ℕ, zero, suc, ◌+◌, ◌*◌, ◌≡◌, List, [], ◌∷◌, ◌++◌, length, get_or, take, drop}
use Rattle.buffer.specs.declared.Verdict.{Verdict}
use Rattle.buffer.specs.declared.Verdict.TheVariants.{Accepted}
use Rattle.buffer.specs.Room.{write}
use Rattle.kinds.specs.Table.{sum_kind}
use Rattle.records.specs.Sections.{sections, label_size, section_size}
use Rattle.sheet.specs.Parsed.{render}
use Rattle.reader.specs.Judging.{stream_verdict}
use Rattle.reader.specs.Back.{label_for, sheet_in}

-- commands judged and read in one pass: the answer is the verdict, and accepted words stand at the start of `into` [C9]
pub record Taken (verdict : Verdict) (words : List ℕ) (r : Verdict) (into : List ℕ) : Type 0 where
  pub answer : r ≡ verdict
  pub held : verdict ≡ Accepted → take (length words) into ≡ words

-- ---- the reader's room: as many bytes for each section

-- the bytes of the reader's room for each section: those of the sums at their most; no section has more [C9]
abbrev pub part_size : ℕ
part_size = 1 + sum_kind.most * (1 + label_size + sum_kind.size)

-- how many records of section k the room holds [C9]
abbrev pub count_in : (k : ℕ) (room : List ℕ) → ℕ
count_in k room = get_or room (part_size * k) 0

-- section k as the room holds it: the count, and so many records behind it [C9]
unfoldable pub part_of : (k : ℕ) (room : List ℕ) → List ℕ
part_of k room = take (section_size k (count_in k room)) (drop (part_size * k) room)

-- the same of n sections from section k on, one behind the other [C9, S1]
unfoldable pub parts_from : (n k : ℕ) (room : List ℕ) → List ℕ
parts_from zero k room = []
parts_from (suc n) k room = part_of k room ++ parts_from n (k + 1) room

-- a record with the description d more in section k: written behind the others, then counted [C9, C7]
unfoldable pub kept : (k slot : ℕ) (d room : List ℕ) → List ℕ
kept k slot d room =
    write (part_size * k) ((count_in k room + 1) ∷ [])
    (write (part_size * k + section_size k (count_in k room)) (slot ∷ (label_for k slot ++ d)) room)

-- the room before the walk: no section has a record [C9]
pub record Empty (room : List ℕ) : Type 0 where
  pub size : length room ≡ sections * part_size
  pub none : (k : ℕ) → count_in k room ≡ 0

-- a stream was walked: the answer is its verdict, and if it is accepted the room holds its sheet [C9, O5]
pub record Walked (stream : List ℕ) (r : Verdict) (room : List ℕ) : Type 0 where
  pub answer : r ≡ stream_verdict stream
  pub sheet : stream_verdict stream ≡ Accepted → parts_from sections 0 room ≡ render (sheet_in stream)
