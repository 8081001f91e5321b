-- Laws of the stream: its length, how loops over records and over sections go through it, and what the records of an accepted
-- sheet are. Assumes nothing.
use Prim.Native.Nat.{ℕ, zero-le, ◌+◌, ◌*◌, ◌≤◌, ◌<◌}
use mathlib.Core.Path.{◌≡◌, sym, ap, ap₂, ◌∙◌}
use mathlib.Core.List.{List, [], ◌∷◌, ◌++◌}
use native.Mathlib.Nat.{zero-mul, suc-mul, add_comm, mul-le-mul}
use native.Mathlib.Numerals.{add-one}
use native.Mathlib.Omega.{arith}
use lib.ListN.{length, get_or, drop, length-append, drop_of_length-le}
use lib.Seq.{drop-cons, take_at, drop_at}
use Rattle.buffer.specs.declared.Verdict.TheVariants.{Accepted}
use Rattle.records.specs.Sections.{sections, most_of, record_size}
use Rattle.sheet.specs.Reading.{verdict}
use Rattle.records.specs.Records.{record_count, records_in}
use Rattle.records.proofs.Records.{records_cons, records_none}
use Rattle.sheet.specs.Parts.{section_of}
use Rattle.sheet.specs.Parsed.{Faultless, Ordered, parse}
use Rattle.sheet.proofs.Faults.{with_floor}
use Rattle.kinds.proofs.Rows.{most_byte}
use Rattle.sheet.proofs.Parsed.{ordered_count}
use Rattle.sheet.proofs.Records.{section_ordered, records_of_law}
use Rattle.sheet.proofs.Theorems.{section_is, section_count}
use Rattle.compiler.specs.Items.{item_size}
use Rattle.compiler.specs.Chains.{loaded_in, commands_of}
use Rattle.compiler.proofs.Joined.{item, items, items_joined, sent}
use Rattle.compiler.proofs.ItemLaws.{item_length, item_bound}

-- ---- the items of records

-- records that rise from some slot on rise from 0 on
lowered : {k floor : ℕ} {rs : List (List ℕ)} → Ordered k floor rs → Ordered k 0 rs
lowered Ordered.done = Ordered.done
lowered (Ordered.next f o) = Ordered.next (with_floor 0 zero-le f) o

ordered_parts : {k : ℕ} {r : List ℕ} {rs : List (List ℕ)} → Ordered k 0 (r ∷ rs) → Faultless k 0 r × Ordered k 0 rs
ordered_parts (Ordered.next f o) = (f, lowered o)

pub items_length : (k : ℕ) (rs : List (List ℕ)) → length (items k rs) ≡ length rs * item_size k
unfolding items
items_length k [] = sym (zero-mul (item_size k))
items_length k (r ∷ rs) =
    length-append (item k r) (items k rs)
    ∙ ap₂ ◌+◌ (item_length k r) (items_length k rs)
    ∙ add_comm (item_size k) (length rs * item_size k)
    ∙ sym (suc-mul (length rs) (item_size k))

-- the first record of a part, and those behind it
module _ (k : ℕ) (part r rest : List ℕ) (e : part ≡ r ++ rest) (l : length r ≡ record_size k) where
  first_record : records_in k part ≡ r ∷ records_in k rest
  first_record =
      rw (e, records_cons k (r ++ rest) (omega (arith, length-append r rest)), take_at r rest (record_size k) l, drop_at r rest (record_size k) l)

  pub first_item : items k (records_in k part) ≡ item k r ++ items k (records_in k rest)
  unfolding items
  first_item = rw first_record

  pub first_ordered : Ordered k 0 (records_in k part) → Faultless k 0 r × Ordered k 0 (records_in k rest)
  first_ordered o = ordered_parts (rw first_record at o)

pub no_item : (k : ℕ) (part : List ℕ) → length part < record_size k → items k (records_in k part) ≡ []
unfolding items
no_item k part h = ap (items k) (records_none k part h)

-- ---- the items of sections

pub sent_from_law : (order : List ℕ) (p : List (List (List ℕ))) (i k : ℕ) → i < length order → get_or order i 0 ≡ k
    → sent (drop i order) p ≡ items k (get_or p k []) ++ sent (drop (i + 1) order) p
unfolding sent
sent_from_law order p i k h e = rw (add-one, drop-cons order i 0, e)

pub sent_end : (order : List ℕ) (p : List (List (List ℕ))) (i : ℕ) → length order ≤ i → sent (drop i order) p ≡ []
unfolding sent
sent_end order p i h = rw (drop_of_length-le order {i = i} h)

-- ---- the records of an accepted sheet, as they are found in a section's part

module _ (s : List ℕ) (ok : verdict s ≡ Accepted) (k : ℕ) (h : k < sections) where
  pub part_count : record_count k (section_of s k) ≡ length (get_or (parse s) k [])
  part_count = section_count s k h ok

  pub part_records : records_in k (section_of s k) ≡ get_or (parse s) k []
  part_records = ap (records_in k) (section_is s k h ok) ∙ records_of_law (section_ordered s k h ok)

  pub part_most : length (get_or (parse s) k []) ≤ most_of k
  part_most = omega (arith, ordered_count (section_ordered s k h ok) (omega arith))

  pub part_bound : length (get_or (parse s) k []) * item_size k ≤ 262144
  part_bound =
      let few : length (get_or (parse s) k []) ≤ 255 = omega (arith, part_most, most_byte k) in
      omega (arith, mul-le-mul {n₁ = length (get_or (parse s) k [])} {m₁ = item_size k} {n₂ = 255} {m₂ = 1024} few (item_bound k))

  -- of that part itself
  module _ (part : List ℕ) (e : part ≡ section_of s k) where
    pub part_ordered : Ordered k 0 (records_in k part)
    part_ordered = rw (e, part_records) (section_ordered s k h ok)

    pub part_items : commands_of (loaded_in k (records_in k part)) ≡ items k (get_or (parse s) k [])
    part_items = rw (e, part_records) (sym (items_joined k (get_or (parse s) k [])))
