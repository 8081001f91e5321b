-- The records of an accepted sheet, one by one: where they lie, and what holds of each. Assumes nothing.
use native.Mathlib.Nat.{zero-mul, suc-mul, add_comm, add-zero, mul-div_cancel}
use native.Mathlib.Numerals.{add-one}
use native.Mathlib.Omega.{arith}
use Prim.Native.Nat.{ℕ, zero, suc, ◌+◌, ◌-◌, ◌*◌, ◌≤◌, ◌<◌}
use mathlib.Core.List.{List, [], ◌++◌, append-nil}
use mathlib.Core.Path.{◌≡◌, refl, ◌∙◌}
use lib.ListN.{length, get_or, drop}
use lib.Seq.{take_at, drop_at, drop-drop, get_or-drop}
use Rattle.buffer.specs.declared.Verdict.TheVariants.{Accepted}
use Rattle.records.specs.Sections.{sections, record_size, section_size, slot_of}
use Rattle.sheet.specs.Reading.{verdict}
use Rattle.records.specs.Records.{record_at, record_count, records_from, records_in}
use Rattle.sheet.specs.Parts.{offset_of, count_of, section_of}
use Rattle.sheet.specs.Parsed.{joined, Faultless, Ordered, LabelsDiffer, sections_from, parse}
use Rattle.sheet.proofs.Faults.{with_floor}
use Rattle.sheet.proofs.Labels.{Fresh, fresh_differ, records_length}
use Rattle.sheet.proofs.Parsed.{joined_length, ordered_read, accepted_ordered, records_joined}
use Rattle.sheet.proofs.Reading.{head_drop, accepted_section, unchecked, unchecked_known, records_accepted}

-- ---- the section of a sheet is its parsed records, joined

first_left_out : (n k : ℕ) (rest : List ℕ) → drop 1 (sections_from (suc n) k rest) ≡ sections_from n (k + 1) (drop (section_size k (get_or rest 0 0)) rest)
unfolding sections_from
first_left_out n k rest = refl

first_section : (n k : ℕ) (rest : List ℕ) → get_or (sections_from (suc n) k rest) 0 [] ≡ records_from k (get_or rest 0 0) (drop 1 rest)
unfolding sections_from
first_section n k rest = refl

-- leaving out the first k sections
later_sections : (s : List ℕ) (k : ℕ) → k ≤ sections → drop k (parse s) ≡ sections_from (sections - k) k (drop (offset_of s k) s)
unfolding parse offset_of
later_sections s zero h = refl
later_sections s (suc k) h =
    let at = offset_of s k in
    let n : sections - k ≡ suc (sections - suc k) = omega arith in
    let one : drop (suc k) (parse s) ≡ drop 1 (drop k (parse s)) = rw (drop-drop 1 k (parse s), add-one k) in
    let two : drop 1 (drop k (parse s)) ≡ sections_from (sections - suc k) (k + 1) (drop (section_size k (get_or (drop at s) 0 0)) (drop at s)) =
    rw (later_sections s k (omega arith), n) (first_left_out (sections - suc k) k (drop at s)) in
    one ∙ rw (head_drop s at, drop-drop (section_size k (get_or s at 0)) at s, add-one k) at two

-- section k of a parsed sheet
pub section_parsed : (s : List ℕ) (k : ℕ) → k < sections → get_or (parse s) k [] ≡ records_from k (count_of s k) (drop (offset_of s k + 1) s)
unfolding count_of
section_parsed s k h =
    let at = offset_of s k in
    let n : sections - k ≡ suc (sections - suc k) = omega arith in
    let head : get_or (parse s) k [] ≡ get_or (drop k (parse s)) 0 [] = rw (get_or-drop k (parse s) 0 [], add-zero k) in
    let two : get_or (drop k (parse s)) 0 [] ≡ records_from k (get_or (drop at s) 0 0) (drop 1 (drop at s)) =
    rw (later_sections s k (omega arith), n) (first_section (sections - suc k) k (drop at s)) in
    head ∙ rw (head_drop s at, drop-drop 1 at s) at two

module _ (s : List ℕ) (k : ℕ) (h : k < sections) (ok : verdict s ≡ Accepted) where
  section_read : Ordered k 0 (get_or (parse s) k []) × Fresh [] (get_or (parse s) k [])
  unfolding count_of
  section_read =
      let at = offset_of s k in
      let records = rw (head_drop s at, drop-drop 1 at s) at (records_accepted k at (drop at s) (accepted_section s k h ok)) in
      rw (section_parsed s k h) (accepted_ordered k (count_of s k) [] (at + 1) (drop (at + 1) s) records)

  pub section_ordered : Ordered k 0 (get_or (parse s) k [])
  section_ordered = section_read.0

  pub section_differ : LabelsDiffer (get_or (parse s) k [])
  section_differ = fresh_differ section_read.1

  pub section_joined : section_of s k ≡ joined (get_or (parse s) k [])
  section_joined =
      let n = count_of s k in
      let rest = drop (offset_of s k + 1) s in
      let part = records_from k n rest in
      let long : length (joined part) ≡ n * record_size k = rw (← section_parsed s k h, joined_length section_ordered, section_parsed s k h, records_length k n rest) in
      unchecked s k ok
      ∙ unchecked_known s k h
      ∙ rw (section_parsed s k h) (rw (records_joined k n rest) at (take_at (joined part) (drop (n * record_size k) rest) (n * record_size k) long))

-- ---- records of a section

pub record_of_law : {k floor : ℕ} {rs : List (List ℕ)} → Ordered k floor rs → (i : ℕ) → i < length rs → record_at k (joined rs) i ≡ get_or rs i []
unfolding joined record_at
record_of_law Ordered.done i h = absurd (omega arith)
record_of_law {k} (Ordered.next {r = r} {rs = rs} f o) zero h = rw (zero-mul (record_size k)) (take_at r (joined rs) (record_size k) f.whole)
record_of_law {k} (Ordered.next {r = r} {rs = rs} f o) (suc i) h =
    rw (
      suc-mul i (record_size k),
      add_comm (i * record_size k) (record_size k),
      ← drop-drop (i * record_size k) (record_size k) (r ++ joined rs),
      drop_at r (joined rs) (record_size k) f.whole,
    ) (record_of_law o i (omega arith))

pub count_of_law : {k floor : ℕ} {rs : List (List ℕ)} → Ordered k floor rs → record_count k (joined rs) ≡ length rs
unfolding record_count
count_of_law {k} {rs = rs} o = rw (joined_length o) (mul-div_cancel (length rs) {n = record_size k} (omega arith))

-- the records of a part are those that were joined
pub records_of_law : {k floor : ℕ} {rs : List (List ℕ)} → Ordered k floor rs → records_in k (joined rs) ≡ rs
unfolding records_in
records_of_law {k} {rs = rs} o = rw (count_of_law o) (rw (append-nil (joined rs)) at (ordered_read o []))

-- each record is without fault, and its slot is above those before it
pub record_faultless : {k floor : ℕ} {rs : List (List ℕ)} → Ordered k floor rs → (i : ℕ) → i < length rs → Faultless k floor (get_or rs i [])
record_faultless Ordered.done i h = absurd (omega arith)
record_faultless (Ordered.next f o) zero h = f
record_faultless {floor = floor} (Ordered.next f o) (suc i) h =
    let g = record_faultless o i (omega arith) in with_floor floor (omega arith) g

pub slots_rise : {k floor : ℕ} {rs : List (List ℕ)} → Ordered k floor rs → (i j : ℕ) → i < j → j < length rs
    → slot_of (get_or rs i []) < slot_of (get_or rs j [])
slots_rise Ordered.done i j l h = absurd (omega arith)
slots_rise (Ordered.next f o) zero zero l h = absurd (omega arith)
slots_rise (Ordered.next f o) zero (suc j) l h = omega (arith, (record_faultless o j (omega arith)).rising)
slots_rise (Ordered.next f o) (suc i) zero l h = absurd (omega arith)
slots_rise (Ordered.next f o) (suc i) (suc j) l h = slots_rise o i j (omega arith) (omega arith)
