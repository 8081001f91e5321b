-- The lines of a notice one by one, from a cursor on: computed, by one walk over both sheets' records.
-- Theorem from_start (proofs/Walking) has it that from the start on they are the notice's.
use Rattle.std.specs.Prelude.{ℕ, zero, suc, ◌+◌, ◌-◌, ◌≡◌, Bool, true, false, cond, ◌&&◌, List, [], ◌∷◌, ◌++◌, eqb, ltb, get_or, take, drop, Option, None, Some}
use Rattle.buffer.specs.declared.Verdict.TheVariants.{Accepted}
use Rattle.kinds.specs.Table.{telling_of}
use Rattle.records.specs.Sections.{sections, most_of, description_of}
use Rattle.records.specs.Records.{records_in, find, front, after}
use Rattle.sheet.specs.Reading.{verdict}
use Rattle.sheet.specs.Parts.{judged_of}
use Rattle.sheet.specs.Parsed.{record_with}
use Rattle.sheet.specs.declared.Judged.{Judged}
use Rattle.findings.specs.declared.Cursor.{Cursor}
use Rattle.findings.specs.declared.Finding.TheVariants.{Name, Changed}
use Rattle.findings.specs.declared.Line.{Line}
use Rattle.findings.specs.declared.meet.Met as met
use Rattle.findings.specs.declared.meet.Met.TheVariants as Met
use Rattle.findings.specs.Findings.{line, unless_same, slot_lines, notice_lines}

-- the part of section k, cut out of a sheet by where its sections lie [S14, B4]
abbrev pub part_by : (k : ℕ) (sheet : List ℕ) → Judged → List ℕ
part_by k sheet judged = take (get_or judged.sizes k 0) (drop (get_or judged.starts k 0) sheet)

-- the record with this slot in that part; no bytes if there is none, or no such section [G9, B7, S14]
abbrev pub record_by : (k slot : ℕ) (sheet : List ℕ) → Judged → List ℕ
record_by k slot sheet judged = cond (ltb k sections) (find slot (records_in k (part_by k sheet judged))) []

-- of two records with one slot the line on their descriptions, which stands behind NAME [N6]
abbrev pub change_lines : (k slot : ℕ) (old new : List ℕ) → List Line
change_lines k slot old new =
    unless_same (description_of old) (description_of new) (line k slot (Changed (telling_of k (description_of old) (description_of new))))

-- the lines of a slot that are left: all, or where NAME has been given those behind it [N4, N5, N6, N7]
unfoldable pub left_lines : (named : Bool) (k slot : ℕ) (old new : List ℕ) → List Line
left_lines false k slot old new = slot_lines k slot old new
left_lines true k slot [] new = slot_lines k slot [] new
left_lines true k slot (x ∷ old) [] = slot_lines k slot (x ∷ old) []
left_lines true k slot (x ∷ old) (y ∷ new) = change_lines k slot (x ∷ old) (y ∷ new)

-- computed: the lines left of n slots of section k from `slot` on, of records met by rising slot; theorem walk_lines_law
-- [B6, N2, G9]
unfoldable pub walk_lines : (named : Bool) (k n slot : ℕ) (olds news : List (List ℕ)) → List Line
walk_lines named k zero slot olds news = []
walk_lines named k (suc n) slot olds news =
    left_lines named k slot (front slot olds) (front slot news) ++ walk_lines false k n (slot + 1) (after slot olds) (after slot news)

-- computed: those of a section's part from a cursor on; theorem walk_lines_law [B6, N2]
unfoldable pub part_lines : (old new : List ℕ) → Cursor → List Line
part_lines old new c =
    walk_lines c.named c.section (most_of c.section - c.slot) c.slot
    (records_in c.section (drop c.old old)) (records_in c.section (drop c.new new))

-- the cursor at the next slot, behind two records of these lengths [N2, G9]
abbrev pub cursor_behind : Cursor → (old new : ℕ) → Cursor
cursor_behind c old new = record { section = c.section; slot = c.slot + 1; named = false; old = c.old + old; new = c.new + new }

-- the cursor at the same slot, behind NAME [N5, N6]
abbrev pub cursor_named : Cursor → Cursor
cursor_named c = record { section = c.section; slot = c.slot; named = true; old = c.old; new = c.new }

-- the cursor before the first line of section k [N2]
abbrev pub cursor_at : ℕ → Cursor
cursor_at k = record { section = k; slot = 0; named = false; old = 0; new = 0 }

-- computed: the lines of n sections from section k on; theorem from_start [B6, N2]
unfoldable pub walk_sections : (n k : ℕ) (old new : List ℕ) (olds news : Judged) → List Line
walk_sections zero k old new olds news = []
walk_sections (suc n) k old new olds news =
    part_lines (part_by k old olds) (part_by k new news) (cursor_at k) ++ walk_sections n (k + 1) old new olds news

-- computed: the lines at or behind a cursor; none where a sheet is refused; theorem from_start [B6, N2, A4]
unfoldable pub lines_at : (old new : List ℕ) (olds news : Judged) → Cursor → List Line
lines_at old new olds news c =
    cond (eqb olds.refusal 0 && eqb news.refusal 0)
    (part_lines (part_by c.section old olds) (part_by c.section new news) c
    ++ walk_sections (sections - (c.section + 1)) (c.section + 1) old new olds news)
    []

-- the lines of a slot, by what is met first: NAME is first, and every other line the last [N4, N5, N6, N7]
abbrev pub met_lines : (k slot : ℕ) (old new : List ℕ) → met.Met → List Line
met_lines k slot old new Met.Nothing = []
met_lines k slot old new Met.Label = line k slot Name ∷ left_lines true k slot old new
met_lines k slot old new (Met.Last finding) = line k slot finding ∷ []

-- the lines from a cursor on, by the step that was made there: none, or a line and those from the next cursor on [N2]
abbrev pub step_lines : (Cursor → List Line) → Option (Line × Cursor) → List Line
step_lines from None = []
step_lines from (Some step) = step.0 ∷ from step.1

-- the cursor behind a line is in the section in which the walk stands [N2]
abbrev pub InSection : ℕ → Option (Line × Cursor) → Type 0
InSection k None = Unit
InSection k (Some step) = step.1.section ≡ k

-- from this cursor on two accepted sheets, judged, have the lines of their notice [N1, N2]
abbrev pub StartsAll : Cursor → Type 0
StartsAll c = (old new : List ℕ) → verdict old ≡ Accepted → verdict new ≡ Accepted
    → lines_at old new (judged_of old) (judged_of new) c ≡ notice_lines old new

-- the record of an accepted sheet, judged, that has the slot [G9, B7]
abbrev pub IsRecordWith : (k slot : ℕ) (sheet : List ℕ) → Judged → List ℕ → Type 0
IsRecordWith k slot sheet judged r = verdict sheet ≡ Accepted → judged ≡ judged_of sheet → r ≡ record_with k slot sheet
