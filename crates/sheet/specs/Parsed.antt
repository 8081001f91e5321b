-- A sheet taken apart: for each section the list of its records, and each record its bytes; and what makes such a list
-- a sheet.
use Rattle.std.specs.Prelude.{ℕ, zero, suc, ◌+◌, ◌≤◌, ◌<◌, true, List, [], ◌∷◌, ◌++◌, ◌≡◌, length, get_or, drop}
use Rattle.peek.specs.Bytes.{Bytes}
use Rattle.compare.specs.Within.{all_within}
use Rattle.buffer.specs.declared.Verdict.TheVariants.{Accepted}
use Rattle.records.specs.Sections.{sections, most_of, record_size, section_size, description_fault, slot_of, label_of, description_of}
use Rattle.sheet.specs.Reading.{verdict}
use Rattle.records.specs.Records.{record_at, record_count, records_from, find}
use Rattle.sheet.specs.Parts.{section_of}

-- records one behind the other [S1]
unfoldable pub joined : List (List ℕ) → List ℕ
joined [] = []
joined (r ∷ rs) = r ++ joined rs

-- sections in order, each a count and its records, with nothing between and nothing behind [S1, S7, S11]
unfoldable pub render : List (List (List ℕ)) → List ℕ
render [] = []
render (rs ∷ ss) = length rs ∷ (joined rs ++ render ss)

-- a record of section k without fault, its slot at least `floor` [S3, S4, G2]
pub record Faultless (k floor : ℕ) (r : List ℕ) : Type 0 where
  pub whole : length r ≡ record_size k
  pub slot_fits : slot_of r < most_of k
  pub rising : floor ≤ slot_of r
  pub label_fits : all_within 0x20 0x7E (label_of r) ≡ true
  pub description_fits : description_fault k (description_of r) ≡ 0

-- such records of section k, each slot above the one before, from `floor` on [S3]
pub data Ordered (k : ℕ) : ℕ → List (List ℕ) → Type 0 where
  done : {floor : ℕ} → Ordered k floor []
  next : {floor : ℕ} {r : List ℕ} {rs : List (List ℕ)} → Faultless k floor r → Ordered k (slot_of r + 1) rs → Ordered k floor (r ∷ rs)

-- no two of these records have the same label [S4]
abbrev pub LabelsDiffer : List (List ℕ) → Type 0
LabelsDiffer rs = (i j : ℕ) → i < j → j < length rs → label_of (get_or rs i []) ≡ label_of (get_or rs j []) → ⊥

-- sections from section k on, each of such records, no two with one label [S1, S4]
pub data Sections : ℕ → List (List (List ℕ)) → Type 0 where
  done : {k : ℕ} → Sections k []
  next : {k : ℕ} {rs : List (List ℕ)} {ss : List (List (List ℕ))} → Ordered k 0 rs → LabelsDiffer rs → Sections (k + 1) ss → Sections k (rs ∷ ss)

-- all the sections of a sheet, each of such records [S1, S7]
pub record WellFormed (p : List (List (List ℕ))) : Type 0 where
  pub all : length p ≡ sections
  pub good : Sections 0 p

-- bytes that are such sections, rendered: each a count and that many records, and nothing behind [S1, S7]
pub record Arranged (s : List ℕ) : Type 0 where
  pub parts : List (List (List ℕ))
  pub formed : WellFormed parts
  pub is : render parts ≡ s

-- the most bytes that n sections from section k on have: each its most records [S8]
unfoldable pub longest_from : (n k : ℕ) → ℕ
longest_from zero k = 0
longest_from (suc n) k = section_size k (most_of k) + longest_from n (k + 1)

-- the most bytes that an accepted sheet has; theorem at_most, and the number in demands/proofs/Sizes [S8]
abbrev pub longest_sheet : ℕ
longest_sheet = longest_from sections 0

-- the first n sections from section k on, as the counts there say [S12]
unfoldable pub sections_from : ℕ → ℕ → List ℕ → List (List (List ℕ))
sections_from zero k rest = []
sections_from (suc n) k rest =
    records_from k (get_or rest 0 0) (drop 1 rest) ∷ sections_from n (k + 1) (drop (section_size k (get_or rest 0 0)) rest)

-- the sections of a sheet and their records [S11, S12]
unfoldable pub parse : List ℕ → List (List (List ℕ))
parse s = sections_from sections 0 s

-- the record of a sheet that has this slot in section k, at whatever place; no bytes if none has [G9, B7]
abbrev pub record_with : (k slot : ℕ) (sheet : List ℕ) → List ℕ
record_with k slot sheet = find slot (get_or (parse sheet) k [])

-- an accepted sheet has d in a record of section k (*accepted* is the buyer's term) [G2]
pub record AcceptedDescription (k : ℕ) (d : List ℕ) : Type 0 where
  pub sheet : List ℕ
  pub place : ℕ
  pub bytes : Bytes sheet
  pub accepted : verdict sheet ≡ Accepted
  pub within : place < record_count k (section_of sheet k)
  pub has : description_of (record_at k (section_of sheet k) place) ≡ d
