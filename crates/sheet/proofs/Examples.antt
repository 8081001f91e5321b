-- Sheets worked out: each refusal 1 to 11, 18 and 19 with its place, and which of two faults wins. One table, computed. Assumes nothing.
use Prim.Native.Nat.{ℕ, zero, suc, ◌+◌, ◌-◌, ◌*◌, ◌<◌}
use mathlib.Core.Bool.{Bool, true, false, cond, ◌&&◌}
use mathlib.Core.List.{List, [], ◌∷◌, ◌++◌}
use mathlib.Core.Path.{◌≡◌, refl, sym}
use lib.Count.{ones, ones_in}
use lib.Dec.{T, eqb, eqb→eq, lit<}
use lib.ListN.{length, get_or, replicate}
use Rattle.peek.specs.Bytes.{u32_at}
use Rattle.compare.specs.Same as same_lists
use Rattle.compare.specs.Within.{all_within}
use Rattle.buffer.specs.declared.Verdict.{Verdict}
use Rattle.buffer.specs.declared.Verdict.TheVariants.{Accepted, Refused}
use Rattle.lines.specs.Line.{over_lines}
use Rattle.lines.proofs.Computed.{every_below_law}
use Rattle.lines.proofs.Ones.{ones_in_law}
use Rattle.kinds.specs.Table.{TERMS, RANGES, EDGES, SUMS, STATES}
use Rattle.range.specs.Rule.{range_fault}
use Rattle.records.specs.Sections.{sections, field_bytes, kind_of, most_of, description_size, description_fault, label_size, record_size}
use Rattle.sheet.specs.Reading.{among, record_fault, records_verdict, count_verdict, section_verdict, sections_verdict, verdict}
use Rattle.records.specs.Records.{records_from}
use Rattle.sheet.specs.Parsed.{joined, render, longest_from, longest_sheet, sections_from, parse}
use Rattle.sheet.proofs.Descriptions.{sheet_with, record_with, only_section, sheet_with_law}
use Rattle.peek.proofs.FieldLaws.{fields_length}
use Rattle.edge.specs.Description as edge_kind
use Rattle.term.specs.Description as term_kind
use Rattle.range.specs.Description as range_kind
use Rattle.sum.specs.Description as sum_kind
use Rattle.state.specs.Description as state_kind

-- a record with this slot, this label byte throughout and this description
pub labelled : ℕ → ℕ → List ℕ → List ℕ
labelled slot label d = slot ∷ (replicate label_size label ++ d)

pub blank : ℕ → List ℕ → List ℕ
blank slot d = labelled slot 0x20 d

-- the descriptions of a term, a sum, a range or an edge, and a state with this last flag
pub term : List ℕ
term = field_bytes (5 ∷ 15 ∷ [])

pub sum : List ℕ
sum = replicate 11 9

pub three : ℕ → ℕ → ℕ → List ℕ
three a b c = field_bytes (a ∷ b ∷ c ∷ [])

pub state : (number branch flag : ℕ) → List ℕ
state number branch flag = field_bytes (number ∷ []) ++ (branch ∷ (replicate 7 1 ++ (flag ∷ [])))

-- a sheet of these sections, where those behind them are empty
pub sheet : (terms ranges edges sums states : List (List ℕ)) → List ℕ
sheet terms ranges edges sums states = render ((terms ∷ ranges ∷ edges ∷ sums ∷ states ∷ []) ++ replicate (sections - 5) [])

-- where record i of section k begins, if the sections before it are empty
pub placed : (k i : ℕ) → ℕ
placed k i = k + 1 + i * record_size k

-- n records with slots from i on, each with a label byte of its own
pub slots : ℕ → ℕ → List ℕ → List (List ℕ)
slots zero i d = []
slots (suc n) i d = labelled i (0x20 + i) d ∷ slots n (suc i) d

-- a term with spaces and this last byte in its label
pub ending : (slot last : ℕ) → List ℕ
ending slot last = slot ∷ (replicate (label_size - 1) 0x20 ++ (last ∷ term))

-- a description of section k that is accepted: zeros, but for a range
pub sound : ℕ → List ℕ
sound k = cond (eqb k RANGES) (three 1 1 1) (replicate (description_size k) 0)

-- every slot of n sections from section k on is taken
pub full_from : (n k : ℕ) → List (List (List ℕ))
full_from zero k = []
full_from (suc n) k = slots (most_of k) 0 (sound k) ∷ full_from n (k + 1)

-- every slot of every section is taken
pub full : List ℕ
full = render (full_from sections 0)

-- what an example says: this sheet gets this verdict
pub record Example : Type 0 where
  pub bytes : List ℕ
  pub expected : Verdict

pub gives : List ℕ → Verdict → Example
gives s v = record { bytes = s; expected = v }

pub same : Verdict → Verdict → Bool
same Accepted Accepted = true
same Accepted (Refused number place) = false
same (Refused number place) Accepted = false
same (Refused number place) (Refused n p) = eqb number n && eqb place p

pub all_hold : List Example → Bool
all_hold [] = true
all_hold (e ∷ es) = same (verdict e.bytes) e.expected && all_hold es

pub table : List Example
table =
    gives (replicate sections 0) Accepted
    ∷ gives full Accepted
    -- 1: a count is missing; a record is missing, or cut, even where its slot is bad; a fault before the cut wins
    ∷ gives [] (Refused 1 0)
    -- an old sheet has a count less
    ∷ gives (replicate (sections - 1) 0) (Refused 1 (sections - 1))
    ∷ gives (0 ∷ 0 ∷ 0 ∷ []) (Refused 1 3)
    ∷ gives (1 ∷ []) (Refused 1 1)
    ∷ gives (1 ∷ 10 ∷ replicate (record_size TERMS - 2) 0x20) (Refused 1 1)
    ∷ gives (2 ∷ blank 10 term) (Refused 3 1)
    -- 2: before the records
    ∷ gives (11 ∷ []) (Refused 2 0)
    ∷ gives (0 ∷ 3 ∷ blank 2 (three 0 0 0)) (Refused 2 1)
    -- 3: slot 10 does not wrap; before 4 and 5
    ∷ gives (sheet (blank 10 term ∷ []) [] [] [] []) (Refused 3 1)
    ∷ gives (sheet (blank 9 term ∷ labelled 10 0x7F term ∷ []) [] [] [] []) (Refused 3 (placed TERMS 1))
    -- 4: the same slot twice; before 5
    ∷ gives (sheet (blank 4 term ∷ blank 4 term ∷ []) [] [] [] []) (Refused 4 (placed TERMS 1))
    ∷ gives (sheet (blank 4 term ∷ labelled 3 0x1F term ∷ []) [] [] [] []) (Refused 4 (placed TERMS 1))
    -- 5: before 6
    ∷ gives (sheet (labelled 0 0x7F term ∷ []) [] [] [] []) (Refused 5 1)
    ∷ gives (sheet (labelled 0 0x1F term ∷ []) [] [] [] []) (Refused 5 1)
    ∷ gives (sheet (labelled 0 0x7E term ∷ []) [] [] [] []) Accepted
    ∷ gives (sheet [] (labelled 0 0x7F (three 0 1 1) ∷ []) [] [] []) (Refused 5 2)
    -- 6, P: lower 0; before 7 and 8; the second of two ranges
    ∷ gives (sheet_with 1 (three 0 1 1)) (Refused 6 2)
    ∷ gives (sheet_with 1 (three 0 0 0)) (Refused 6 2)
    ∷ gives (sheet [] (blank 0 (three 1 1 1) ∷ labelled 1 0x41 (three 0 1 1) ∷ []) [] [] []) (Refused 6 (placed RANGES 1))
    -- 7: before 8
    ∷ gives (sheet_with 1 (three 3 2 1)) (Refused 7 2)
    -- 8, P: mask 1, 1..1 accepted, 1..2 refused; mask 0 never passes
    ∷ gives (sheet_with 1 (three 1 1 1)) Accepted
    ∷ gives (sheet_with 1 (three 1 2 1)) (Refused 8 2)
    ∷ gives (sheet_with 1 (three 1 1 0)) (Refused 8 2)
    -- 9: all three on one line, the lowest, the third, the highest; any two on a line, or all three on different lines,
    -- are none
    ∷ gives (sheet_with 2 (three 1 1 1)) (Refused 9 3)
    ∷ gives (sheet_with 2 (three 5 6 4)) (Refused 9 3)
    ∷ gives (sheet_with 2 (three 0x80000000 0x80000000 0x80000000)) (Refused 9 3)
    ∷ gives (sheet_with 2 (three 1 0 1)) Accepted
    ∷ gives (sheet_with 2 (three 0 6 4)) Accepted
    ∷ gives (sheet_with 2 (three 3 5 6)) Accepted
    ∷ gives (sheet_with 2 (three 1 2 4)) Accepted
    -- 10: the last operation, and bytes left over after it
    ∷ gives (sheet_with 3 (replicate 10 9 ++ (10 ∷ []))) (Refused 10 4)
    ∷ gives (sheet_with 3 (replicate 10 9 ++ (10 ∷ [])) ++ (0 ∷ [])) (Refused 10 4)
    -- 18: each of a state's fields at its most, and one above it; after 5 of its own record and 10 of a section before
    ∷ gives (sheet_with 4 (state 0xFFFFF 15 1)) Accepted
    ∷ gives (sheet_with 4 (state 0x100000 15 1)) (Refused 18 5)
    ∷ gives (sheet_with 4 (state 0xFFFFF 16 1)) (Refused 18 5)
    ∷ gives (sheet_with 4 (state 0xFFFFF 15 2)) (Refused 18 5)
    ∷ gives (sheet [] [] [] [] (labelled 0 0x7F (state 0 16 0) ∷ [])) (Refused 5 5)
    ∷ gives (sheet [] [] [] [] (blank 15 (state 0 0 0) ∷ blank 16 (state 0 16 0) ∷ [])) (Refused 3 (placed STATES 1))
    ∷ gives (sheet [] [] [] (blank 0 (replicate 11 10) ∷ []) (blank 0 (state 0 16 0) ∷ [])) (Refused 10 4)
    -- 19: the label of the record before, and of one before that; two blank ones; every byte counts
    ∷ gives (sheet (labelled 0 0x41 term ∷ labelled 1 0x41 term ∷ []) [] [] [] []) (Refused 19 (placed TERMS 1))
    ∷ gives (sheet (labelled 0 0x41 term ∷ labelled 1 0x42 term ∷ labelled 2 0x41 term ∷ []) [] [] [] []) (Refused 19 (placed TERMS 2))
    ∷ gives (sheet (blank 0 term ∷ blank 9 term ∷ []) [] [] [] []) (Refused 19 (placed TERMS 1))
    ∷ gives (sheet (blank 0 term ∷ ending 1 0x2E ∷ []) [] [] [] []) Accepted
    ∷ gives (sheet (ending 0 0x2E ∷ ending 1 0x2E ∷ []) [] [] [] []) (Refused 19 (placed TERMS 1))
    -- the last of a full section as the first; in another section the same label is none
    ∷ gives (sheet [] [] [] (slots 47 0 sum ++ (blank 47 sum ∷ [])) []) (Refused 19 (placed SUMS 47))
    ∷ gives (sheet (blank 0 term ∷ []) (blank 0 (three 1 1 1) ∷ []) [] (blank 0 sum ∷ []) (blank 0 (state 0 0 0) ∷ [])) Accepted
    -- behind 3, 4 and 5 of its own record, before 6, 9, 10 and 18
    ∷ gives (sheet (blank 0 term ∷ blank 10 term ∷ []) [] [] [] []) (Refused 3 (placed TERMS 1))
    ∷ gives (sheet (labelled 0 0x7F term ∷ labelled 1 0x7F term ∷ []) [] [] [] []) (Refused 5 1)
    ∷ gives (sheet [] (blank 0 (three 1 1 1) ∷ blank 1 (three 0 1 1) ∷ []) [] [] []) (Refused 19 (placed RANGES 1))
    ∷ gives (sheet [] [] (blank 0 (three 0 0 0) ∷ blank 1 (three 1 1 1) ∷ []) [] []) (Refused 19 (placed EDGES 1))
    ∷ gives (sheet [] [] [] (blank 0 sum ∷ blank 1 (replicate 11 10) ∷ []) []) (Refused 19 (placed SUMS 1))
    ∷ gives (sheet [] [] [] [] (blank 0 (state 0 0 0) ∷ blank 1 (state 0 16 0) ∷ [])) (Refused 19 (placed STATES 1))
    -- a record's own fault before it, and a cut one behind it
    ∷ gives (sheet [] (blank 0 (three 0 1 1) ∷ blank 1 (three 1 1 1) ∷ []) [] [] []) (Refused 6 2)
    ∷ gives (3 ∷ (blank 0 term ++ blank 1 term)) (Refused 19 (placed TERMS 1))
    ∷ gives (2 ∷ (blank 0 term ++ (1 ∷ replicate (record_size TERMS - 2) 0x20))) (Refused 1 (placed TERMS 1))
    -- 11: comes last
    ∷ gives (replicate sections 0 ++ (7 ∷ [])) (Refused 11 sections)
    ∷ gives (full ++ (0 ∷ 0 ∷ [])) (Refused 11 longest_sheet)
    ∷ gives (sheet_with 4 (state 0 16 0) ++ (7 ∷ [])) (Refused 18 5)
    ∷ gives (sheet_with 1 (three 0 1 1) ++ (7 ∷ [])) (Refused 6 2)
    ∷ []

pub examples : T (all_hold table)
unfolding longest_from labelled blank ending term sum three state sheet placed slots sound full_from full gives same all_hold table joined render verdict sections_verdict section_verdict count_verdict records_verdict record_fault among same_lists.same description_fault term_kind.fault range_kind.fault range_fault edge_kind.fault sum_kind.fault state_kind.fault over_lines all_within u32_at field_bytes kind_of most_of description_size ones ones_in sheet_with record_with only_section
examples = tt

-- the same of descriptions alone; P: lower 0, and mask 1 with 1..1 and 1..2; neither with rise, and all three
pub descriptions :
    (description_fault 1 (three 0 1 1) ≡ 6)
    × (description_fault 1 (three 1 1 1) ≡ 0)
    × (description_fault 1 (three 1 2 1) ≡ 8)
    × (description_fault 2 (three 1 0 1) ≡ 0)
    × (description_fault 2 (three 1 1 1) ≡ 9)
    × (description_fault 3 (replicate 11 10) ≡ 10)
    × (description_fault 4 (state 0 0 2) ≡ 18)
unfolding three state description_fault kind_of range_kind.fault range_fault edge_kind.fault sum_kind.fault state_kind.fault all_within over_lines field_bytes u32_at ones ones_in
descriptions = (refl, refl, refl, refl, refl, refl, refl)

-- mask FFFFFFFF, 1..FFFFFFFF: 2^k - 1 is FFFFFFFF
pub widest : description_fault 1 (three 1 0xFFFFFFFF 0xFFFFFFFF) ≡ 0
unfolding three description_fault kind_of range_kind.fault range_fault field_bytes u32_at ones_in
widest = let k : ones 0xFFFFFFFF ≡ 32 = sym (ones_in_law 32 0xFFFFFFFF (lit< tt)) in rw k

pub widest_sheet : verdict (sheet_with 1 (three 1 0xFFFFFFFF 0xFFFFFFFF)) ≡ Accepted
unfolding three description_size kind_of
widest_sheet = sheet_with_law 1 (three 1 0xFFFFFFFF 0xFFFFFFFF) (lit< tt) (fields_length (1 ∷ 0xFFFFFFFF ∷ 0xFFFFFFFF ∷ [])) widest

-- the longest sheet
pub full_length : length full ≡ longest_sheet
unfolding longest_from labelled three slots sound full_from full joined render field_bytes most_of description_size kind_of
full_length = refl

pub full_accepted : verdict full ≡ Accepted
unfolding labelled three slots sound full_from full joined render verdict sections_verdict section_verdict count_verdict records_verdict record_fault among same_lists.same description_fault term_kind.fault range_kind.fault range_fault edge_kind.fault sum_kind.fault state_kind.fault over_lines all_within u32_at field_bytes kind_of most_of description_size ones ones_in
full_accepted = refl

-- it has the most records that each section may have
pub full_counts : (k : ℕ) → k < sections → length (get_or (parse full) k []) ≡ most_of k
unfolding labelled three slots sound full_from full joined render field_bytes most_of description_size kind_of records_from sections_from parse
full_counts k h = eqb→eq _ _ (every_below_law sections (λ k. eqb (length (get_or (parse full) k [])) (most_of k)) tt k h)
