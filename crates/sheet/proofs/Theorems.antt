-- What is promised of the set-up sheet, each under the rule that asks for it. Assumes nothing.
use Prim.Native.Nat.{ℕ, ◌+◌, ◌≤◌, ◌<◌}
use mathlib.Core.Bool.{true}
use mathlib.Core.List.{List, []}
use mathlib.Core.Logic.{◌↔◌}
use mathlib.Core.Path.{◌≡◌, refl, sym, ap, ◌∙◌}
use native.Mathlib.Omega.{arith}
use lib.ListN.{length, get_or, take, replicate}
use Rattle.peek.specs.Bytes.{Bytes}
use Rattle.buffer.specs.declared.Verdict.TheVariants.{Accepted, Refused}
use Rattle.compare.proofs.Within.{within_at}
use Rattle.compare.specs.Within.{all_within}
use Rattle.records.specs.Sections.{sections, kind_of, most_of, description_size, record_size, description_fault, slot_of, label_of, description_of}
use Rattle.sheet.specs.Reading.{least_slot, record_fault, records_verdict, count_verdict, section_verdict, sections_verdict, verdict}
use Rattle.records.specs.Records.{record_at, record_count, find, front}
use Rattle.sheet.specs.Parts.{section_unchecked, section_of}
use Rattle.sheet.specs.Parsed.{joined, render, Faultless, LabelsDiffer, WellFormed, Arranged, longest_sheet, parse, AcceptedDescription}
use Rattle.kinds.specs.Table as kinds
use Rattle.sheet.proofs.Descriptions.{accepted_description}
use Rattle.sheet.proofs.Examples.{full, full_length, full_accepted}
use Rattle.sheet.proofs.Faults.{record_taken, record_description}
use Rattle.sheet.proofs.Labels.{Unlike, among_some, among_none}
use Rattle.sheet.proofs.Found.{Stands, find_found, find_none, find_at, cursor, cursor_find}
use Rattle.sheet.proofs.Longest.{longest, enough_read}
use Rattle.sheet.proofs.Parsed.{render_accepted, parse_render, accepted_well_formed, accepted_rendered}
use Rattle.sheet.proofs.Places.{place_within}
use Rattle.sheet.proofs.Reading.{unchecked, section_unknown, section_refused}
use Rattle.sheet.proofs.Records.{section_ordered, section_differ, section_joined, record_of_law, count_of_law, record_faultless, slots_rise}

-- ---- what a sheet is

-- accepted sheets are exactly these: slots rise and labels are pairwise different [S1, S3, S4, S7]
pub accepted_iff_arranged : (s : List ℕ) → (verdict s ≡ Accepted) ↔ Arranged s
accepted_iff_arranged s = (
  λ ok. record { parts = parse s; formed = accepted_well_formed s ok; is = accepted_rendered s ok },
  λ a. ap verdict (sym a.is) ∙ render_accepted a.parts a.formed,
)

-- the same as two inverse maps, between accepted sheets and well-formed sections [S11]
pub accepted_wellformed : (s : List ℕ) → verdict s ≡ Accepted → WellFormed (parse s)
accepted_wellformed = accepted_well_formed

pub render_parse : (s : List ℕ) → verdict s ≡ Accepted → render (parse s) ≡ s
render_parse = accepted_rendered

pub wellformed_accepted : (p : List (List (List ℕ))) → WellFormed p → verdict (render p) ≡ Accepted
wellformed_accepted = render_accepted

pub parse_rendered : (p : List (List (List ℕ))) → WellFormed p → parse (render p) ≡ p
parse_rendered = parse_render

-- no sheet is longer than the longest, and one is as long [S8]
pub at_most : (s : List ℕ) → verdict s ≡ Accepted → length s ≤ longest_sheet
at_most s ok = longest s ok

pub one_has : (verdict full ≡ Accepted) × (length full ≡ longest_sheet)
one_has = (full_accepted, full_length)

-- a zero for each section is a sheet [S8]
pub all_zeros : verdict (replicate sections 0) ≡ Accepted
unfolding verdict sections_verdict section_verdict count_verdict records_verdict most_of description_size kind_of
all_zeros = refl

-- so a program that reads one byte more of a file judges the whole file [A9]
pub enough : (s : List ℕ) → verdict (take (longest_sheet + 1) s) ≡ verdict s
enough s = enough_read (longest_sheet + 1) s (omega arith)

-- the place of a sheet's refusal is an offset, at most the sheet's length [F1, F11]
pub refused_within : (s : List ℕ) (number place : ℕ) → verdict s ≡ Refused number place → place ≤ length s
refused_within = place_within

-- ---- the sections and records of an accepted sheet

module _ (s : List ℕ) (k : ℕ) (h : k < sections) (ok : verdict s ≡ Accepted) where
  -- the part of a section is its records, one behind the other, without the count [S9]
  pub section_is : section_of s k ≡ joined (get_or (parse s) k [])
  section_is = section_joined s k h ok

  pub section_count : record_count k (section_of s k) ≡ length (get_or (parse s) k [])
  section_count = ap (record_count k) section_is ∙ count_of_law (section_ordered s k h ok)

  pub section_record : (i : ℕ) → i < length (get_or (parse s) k []) → record_at k (section_of s k) i ≡ get_or (get_or (parse s) k []) i []
  section_record i l = ap (λ (part : List ℕ). record_at k part i) section_is ∙ record_of_law (section_ordered s k h ok) i l

  -- each record is without fault: slot, label and description [S3, S4]
  pub record_is_faultless : (i : ℕ) → i < length (get_or (parse s) k []) → Faultless k 0 (get_or (get_or (parse s) k []) i [])
  record_is_faultless = record_faultless (section_ordered s k h ok)

  -- and the slots of a section rise [S3]
  pub slots_are_rising : (i j : ℕ) → i < j → j < length (get_or (parse s) k []) → slot_of (get_or (get_or (parse s) k []) i []) < slot_of (get_or (get_or (parse s) k []) j [])
  slots_are_rising = slots_rise (section_ordered s k h ok)

  -- no two labels of a section are the same [S4, F19]
  pub labels_are_different : LabelsDiffer (get_or (parse s) k [])
  labels_are_different = section_differ s k h ok

  -- each record is found by its slot, at whatever place it stands, [G9]
  pub record_found : (i : ℕ) → i < length (get_or (parse s) k []) → find (slot_of (get_or (get_or (parse s) k []) i [])) (get_or (parse s) k []) ≡ get_or (get_or (parse s) k []) i []
  record_found = find_at (section_ordered s k h ok)

  -- and a cursor that meets the slots in rising order meets the same records [G9, N2]
  pub walk_finds : (slot : ℕ) → front slot (cursor slot (get_or (parse s) k [])) ≡ find slot (get_or (parse s) k [])
  walk_finds = cursor_find (section_ordered s k h ok)

-- what is found has the slot and stands there, and nothing is found where no record has the slot
pub found_stands : (slot : ℕ) (rs : List (List ℕ)) → (find slot rs ≡ [] → ⊥) → Stands slot rs (find slot rs)
found_stands = find_found

pub found_nothing : (slot : ℕ) (rs : List (List ℕ)) → ((i : ℕ) → i < length rs → slot_of (get_or rs i []) ≡ slot → ⊥) → find slot rs ≡ []
found_nothing = find_none

-- a record of which 1, 3, 4 and 5 do not hold: 19 where an earlier one of its section has its label, whichever that is;
-- where none has, its description is judged [F19, O1]
module _ (k : ℕ) (before : List (List ℕ)) (r : List ℕ) (whole : record_size k ≤ length r) (fits : slot_of r < most_of k)
    (rising : least_slot before ≤ slot_of r) (plain : all_within 0x20 0x7E (label_of r) ≡ true) where
  pub label_met_before : (i : ℕ) → i < length before → label_of (get_or before i []) ≡ label_of r → record_fault k before r ≡ 19
  label_met_before i h e = record_taken k before r whole fits rising plain (among_some (label_of r) before i h e)

  pub label_is_new : Unlike (label_of r) before → record_fault k before r ≡ description_fault k (description_of r)
  label_is_new u = record_description k before r whole fits rising plain (among_none (label_of r) before u)

-- each label byte is from 0x20 to 0x7E [S4]
pub label_byte : (k floor : ℕ) (r : List ℕ) → Faultless k floor r → (i : ℕ) → i < length (label_of r) → (0x20 ≤ get_or (label_of r) i 0) × (get_or (label_of r) i 0 ≤ 0x7E)
label_byte k floor r f i l = within_at 0x20 0x7E (label_of r) i f.label_fits l

-- the part is empty when the sheet is refused, and when no sheet has the section [S10, D1.4]
pub refused_empty : (s : List ℕ) (k number place : ℕ) → verdict s ≡ Refused number place → section_of s k ≡ []
refused_empty s k number place e = section_refused s k number place e

pub unknown_empty : (s : List ℕ) (k : ℕ) → sections ≤ k → section_of s k ≡ []
unknown_empty s k h = section_unknown s k h

-- after one check, `section_unchecked` hands out the same parts as `section` [S12]
pub unchecked_is_section : (s : List ℕ) (k : ℕ) → verdict s ≡ Accepted → section_unchecked s k ≡ section_of s k
unchecked_is_section s k ok = sym (unchecked s k ok)

-- ---- descriptions

-- an accepted sheet holds a description exactly if it has its section's size and is accepted by meaning [G2]
pub description_iff : (k : ℕ) (d : List ℕ) → k < sections → Bytes d
    → AcceptedDescription k d ↔ ((length d ≡ description_size k) × kinds.Accepted k d)
description_iff = accepted_description
