-- The part of a section, cut out of an accepted sheet by where its sections lie: its records. Assumes nothing.
use Prim.Native.Nat.{ℕ, ◌<◌}
use mathlib.Core.Path.{◌≡◌, ap, ◌∙◌}
use mathlib.Core.List.{List, []}
use lib.ListN.{get_or, take, drop}
use Rattle.buffer.specs.declared.Verdict.TheVariants.{Accepted}
use Rattle.records.specs.Sections.{sections}
use Rattle.records.specs.Records.{records_in}
use Rattle.sheet.specs.Reading.{verdict}
use Rattle.sheet.specs.Parts.{judged_of}
use Rattle.sheet.specs.Parsed.{Ordered, parse}
use Rattle.sheet.specs.declared.Judged.{Judged}
use Rattle.sheet.proofs.Laid.{part_at}
use Rattle.sheet.proofs.Records.{section_ordered, section_joined, records_of_law}

-- the part of section k, as it is cut out by where the sections lie
pub record Cut (s : List ℕ) (judged : Judged) (k : ℕ) (part : List ℕ) : Type 0 where
  pub accepted : verdict s ≡ Accepted
  pub laid : judged ≡ judged_of s
  pub is : part ≡ take (get_or judged.sizes k 0) (drop (get_or judged.starts k 0) s)

-- its records are those of the sheet's section
module _ (s : List ℕ) (judged : Judged) (k : ℕ) (part : List ℕ) (h : k < sections) (c : Cut s judged k part) where
  pub part_records : records_in k part ≡ get_or (parse s) k []
  part_records =
      let e : part ≡ take (get_or (judged_of s).sizes k 0) (drop (get_or (judged_of s).starts k 0) s) = rw c.laid at c.is in
      ap (records_in k) (e ∙ part_at s k h c.accepted ∙ section_joined s k h c.accepted) ∙ records_of_law (section_ordered s k h c.accepted)

  pub part_ordered : Ordered k 0 (records_in k part)
  part_ordered = rw part_records (section_ordered s k h c.accepted)
