-- The notice that the rules give whole, byte for byte, and the slips that a notice must not make, each computed. Assumes
-- nothing.
use Prim.Native.Nat.{ℕ, ◌-◌}
use mathlib.Core.Bool.{Bool, true, ◌&&◌}
use mathlib.Core.List.{List, [], ◌∷◌, ◌++◌}
use mathlib.Core.Path.{◌≡◌}
use lib.Count.{ones, count_trailing_zeros}
use lib.Dec.{T}
use lib.ListN.{length, replicate}
use Rattle.peek.specs.Bytes.{u32_at}
use Rattle.lines.specs.Line.{over_lines, flip_line}
use Rattle.lines.specs.Gather.{gathered, scattered, drop_lowest}
use Rattle.lut.specs.declared.Input.TheVariants.{Sources}
use Rattle.lut.specs.declared.Telling.TheVariants.{Alike, Apart}
use Rattle.compare.specs.Same.{same}
use Rattle.compare.specs.Within.{all_within}
use Rattle.buffer.specs.Verdict.{is_accepted}
use Rattle.records.specs.Sections.{sections, label_size, field_bytes, kind_of, most_of, description_size, description_fault}
use Rattle.records.specs.Records.{records_from, find}
use Rattle.sheet.specs.Reading.{among, record_fault, records_verdict, count_verdict, section_verdict, sections_verdict, verdict}
use Rattle.sheet.specs.Parsed.{joined, render, sections_from, parse}
use Rattle.kinds.specs.Table.{name_of, telling_of}
use Rattle.term.specs.Description as term_kind
use Rattle.term.specs.Telling.{term_telling}
use Rattle.range.specs.Description as range_kind
use Rattle.range.specs.Rule.{range_fault, range_hit}
use Rattle.edge.specs.Description as edge_kind
use Rattle.edge.specs.Telling.{without, tell_by}
use Rattle.sum.specs.Description as sum_kind
use Rattle.sum_telling.specs.Description as sum_telling_kind
use Rattle.sum_telling.proofs.Examples.{seven, never, seven_or_never, under, under', alike_under_nop}
use Rattle.state.specs.Description as state_kind
use Rattle.range_telling.specs.Description as range_telling_kind
use Rattle.range_telling.specs.Reduce.{reduce_from, reduce_of}
use Rattle.range_telling.specs.Telling.{turn_value, turn_sample, tell_line, first_differ, tell_masks, tell_bounds, tell_reduced, range_telling}
use Rattle.findings.specs.Findings.{shared_lines, slot_lines, lines_from, sections_lines, notice_lines}
use Rattle.notice.specs.Text as text
use Rattle.notice.specs.Notice.{notice_text}

-- a sheet of these terms and ranges, one of these edges, one of these sums and states, and a record of a slot, a label
-- and numbers
sheet_of : (terms ranges : List (List ℕ)) → List ℕ
sheet_of terms ranges = render (terms ∷ ranges ∷ replicate (sections - 2) [])

edges_of : (edges : List (List ℕ)) → List ℕ
edges_of edges = render ([] ∷ [] ∷ edges ∷ replicate (sections - 3) [])

programme_of : (sums states : List (List ℕ)) → List ℕ
programme_of sums states = render ([] ∷ [] ∷ [] ∷ sums ∷ states ∷ replicate (sections - 5) [])

record_of : (slot : ℕ) (label numbers : List ℕ) → List ℕ
record_of slot label numbers = slot ∷ (label ++ field_bytes numbers)

state_of : (slot : ℕ) (label : List ℕ) (number : ℕ) → List ℕ
state_of slot label number = record_of slot label (number ∷ []) ++ replicate 9 0

-- a name and spaces, as long as a label is
spaced : (name : List ℕ) → List ℕ
spaced name = name ++ replicate (label_size - length name) 32

-- DOORLOCK, DOORLK, and two more labels
doorlock : List ℕ
doorlock = spaced (68 ∷ 79 ∷ 79 ∷ 82 ∷ 76 ∷ 79 ∷ 67 ∷ 75 ∷ [])

doorlk : List ℕ
doorlk = spaced (68 ∷ 79 ∷ 79 ∷ 82 ∷ 76 ∷ 75 ∷ [])

left : List ℕ
left = replicate label_size 76

right : List ℕ
right = replicate label_size 82

-- an old sheet, a new sheet, and the text of their notice
pub record Pair : Type 0 where
  pub old : List ℕ
  pub new : List ℕ
  pub text : List ℕ

pair : (old new text : List ℕ) → Pair
pair old new text = record { old = old; new = new; text = text }

pub line : (kind slot word : List ℕ) → List ℕ
line kind slot word = kind ++ 32 ∷ slot ++ 32 ∷ word ++ 10 ∷ []

TERM : List ℕ
TERM = 84 ∷ 69 ∷ 82 ∷ 77 ∷ []

RANG : List ℕ
RANG = 82 ∷ 65 ∷ 78 ∷ 71 ∷ []

EDGE : List ℕ
EDGE = 69 ∷ 68 ∷ 71 ∷ 69 ∷ []

pub SUMS : List ℕ
SUMS = 83 ∷ 85 ∷ 77 ∷ 83 ∷ []

STAT : List ℕ
STAT = 83 ∷ 84 ∷ 65 ∷ 84 ∷ []

NAME : List ℕ
NAME = 78 ∷ 65 ∷ 77 ∷ 69 ∷ []

NEW : List ℕ
NEW = 78 ∷ 69 ∷ 87 ∷ []

GONE : List ℕ
GONE = 71 ∷ 79 ∷ 78 ∷ 69 ∷ []

pub WORD : List ℕ
WORD = 87 ∷ 79 ∷ 82 ∷ 68 ∷ []

pub ALTR : List ℕ
ALTR = 65 ∷ 76 ∷ 84 ∷ 82 ∷ []

-- ALTR 00000004
ALTR4 : List ℕ
ALTR4 = 65 ∷ 76 ∷ 84 ∷ 82 ∷ 32 ∷ 48 ∷ 48 ∷ 48 ∷ 48 ∷ 48 ∷ 48 ∷ 48 ∷ 52 ∷ []

pub pairs : List Pair
pairs =
    -- 01, given whole: 60 bytes
    pair
    (sheet_of (record_of 0 doorlock (5 ∷ 15 ∷ []) ∷ record_of 1 left (4 ∷ 15 ∷ []) ∷ []) (record_of 0 left (1 ∷ 1 ∷ 1 ∷ []) ∷ []))
    (sheet_of (record_of 0 doorlk (5 ∷ 15 ∷ []) ∷ record_of 1 left (6 ∷ 15 ∷ []) ∷ record_of 2 right (0 ∷ 1 ∷ []) ∷ []) [])
    (line TERM (48 ∷ 48 ∷ []) NAME ++ line TERM (48 ∷ 49 ∷ []) ALTR4 ++ line TERM (48 ∷ 50 ∷ []) NEW ++ line RANG (48 ∷ 48 ∷ []) GONE)
    -- a pattern moved to another slot: one GONE and one NEW, though it is the first record in both sheets
    ∷ pair (sheet_of (record_of 3 left (5 ∷ 15 ∷ []) ∷ []) []) (sheet_of (record_of 4 left (5 ∷ 15 ∷ []) ∷ []) [])
    (line TERM (48 ∷ 51 ∷ []) GONE ++ line TERM (48 ∷ 52 ∷ []) NEW)
    -- two labels swapped
    ∷ pair
    (sheet_of (record_of 0 left (5 ∷ 15 ∷ []) ∷ record_of 1 right (6 ∷ 15 ∷ []) ∷ []) [])
    (sheet_of (record_of 0 right (5 ∷ 15 ∷ []) ∷ record_of 1 left (6 ∷ 15 ∷ []) ∷ []) [])
    (line TERM (48 ∷ 48 ∷ []) NAME ++ line TERM (48 ∷ 49 ∷ []) NAME)
    -- only ignored target bits differ
    ∷ pair (sheet_of (record_of 0 left (5 ∷ 15 ∷ []) ∷ []) []) (sheet_of (record_of 0 left (0xF5 ∷ 15 ∷ []) ∷ []) []) (line TERM (48 ∷ 48 ∷ []) WORD)
    -- 2..3 under mask 3 against 1..1 under mask 2
    ∷ pair (sheet_of [] (record_of 0 left (2 ∷ 3 ∷ 3 ∷ []) ∷ [])) (sheet_of [] (record_of 0 left (1 ∷ 1 ∷ 2 ∷ []) ∷ []))
    (line RANG (48 ∷ 48 ∷ []) WORD)
    -- rise on line 0 goes, line 1 is steady or rising in both: EDGE 00 ALTR 00000002 00000001; and steady or rising
    -- against steady alone: EDGE 01 ALTR 00000000 00000001
    ∷ pair
    (edges_of (record_of 0 left (3 ∷ 0 ∷ 2 ∷ []) ∷ record_of 1 right (1 ∷ 0 ∷ 1 ∷ []) ∷ []))
    (edges_of (record_of 0 left (2 ∷ 0 ∷ 2 ∷ []) ∷ record_of 1 right (0 ∷ 0 ∷ 1 ∷ []) ∷ []))
    (line EDGE (48 ∷ 48 ∷ []) (ALTR ++ 32 ∷ replicate 7 48 ++ 50 ∷ 32 ∷ replicate 7 48 ++ 49 ∷ [])
    ++ line EDGE (48 ∷ 49 ∷ []) (ALTR ++ 32 ∷ replicate 8 48 ++ 32 ∷ replicate 7 48 ++ 49 ∷ []))
    -- states, behind the sums: number 0 against number 1 (ALTR and nothing behind it), a label, one gone, one new
    ∷ pair
    (programme_of ((47 ∷ (left ++ replicate 11 0)) ∷ []) (state_of 0 left 0 ∷ state_of 1 doorlock 7 ∷ state_of 14 right 1 ∷ []))
    (programme_of [] (state_of 0 left 1 ∷ state_of 1 doorlk 7 ∷ state_of 15 right 1 ∷ []))
    (line SUMS (52 ∷ 55 ∷ []) GONE ++ line STAT (48 ∷ 48 ∷ []) ALTR ++ line STAT (48 ∷ 49 ∷ []) NAME
    ++ line STAT (49 ∷ 52 ∷ []) GONE ++ line STAT (49 ∷ 53 ∷ []) NEW)
    ∷ []

-- both sheets are accepted, and that is the notice
pub all_give : List Pair → Bool
all_give [] = true
all_give (p ∷ ps) =
    is_accepted (verdict p.old) && is_accepted (verdict p.new) && same (notice_text p.old p.new) p.text && all_give ps

pub notices_hold : T (all_give pairs)
unfolding all_give pairs pair sheet_of edges_of programme_of record_of state_of spaced doorlock doorlk left right line TERM RANG EDGE SUMS STAT NAME NEW GONE WORD ALTR ALTR4 field_bytes render joined parse sections_from records_from kind_of description_size most_of find same u32_at notice_text notice_lines sections_lines lines_from slot_lines shared_lines name_of telling_of term_kind.telling range_telling_kind.telling edge_kind.telling tell_by without text.render text.render_all term_telling count_trailing_zeros range_telling tell_reduced tell_bounds tell_masks first_differ tell_line turn_sample turn_value reduce_of reduce_from gathered scattered drop_lowest flip_line range_hit among all_within description_fault over_lines term_kind.fault range_kind.fault edge_kind.fault sum_kind.fault state_kind.fault range_fault ones record_fault records_verdict count_verdict section_verdict sections_verdict verdict
notices_hold = tt

-- ---- sums: what tells two apart is found by halves (sum_telling, Examples), since trying 65,536 patterns is no computation

-- a sheet with this sum in slot 0
pub sum_of : (operations : List ℕ) → List ℕ
sum_of operations = programme_of ((0 ∷ (left ++ operations)) ∷ []) []

told_at_01_a_f : sum_telling_kind.telling seven never ≡ Apart (Sources 0x01AF)
unfolding sum_telling_kind.telling
told_at_01_a_f = seven_or_never

told_alike : sum_telling_kind.telling under under' ≡ Alike
unfolding sum_telling_kind.telling
told_alike = alike_under_nop

-- a sum of seven terms against one that never matches: SUMS 00 ALTR 01AF
pub sum_altered : notice_text (sum_of seven) (sum_of never) ≡ line SUMS (48 ∷ 48 ∷ []) (ALTR ++ 32 ∷ 48 ∷ 49 ∷ 65 ∷ 70 ∷ [])
unfolding sum_of programme_of left line SUMS ALTR render joined parse sections_from records_from kind_of description_size most_of find same notice_text notice_lines sections_lines lines_from slot_lines shared_lines name_of telling_of text.render text.render_all
sum_altered = rw told_at_01_a_f

-- another operation under a mid that never matches, so with other words: SUMS 00 WORD
pub sum_word : notice_text (sum_of under) (sum_of under') ≡ line SUMS (48 ∷ 48 ∷ []) WORD
unfolding sum_of programme_of left line SUMS WORD render joined parse sections_from records_from kind_of description_size most_of find same notice_text notice_lines sections_lines lines_from slot_lines shared_lines name_of telling_of text.render text.render_all
sum_word = rw told_alike
