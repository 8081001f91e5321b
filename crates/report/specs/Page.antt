-- The page for signing below the names of the two sheets, made of the notice's lines.
use Rattle.std.specs.Prelude.{ℕ, zero, suc, ◌+◌, ◌*◌, cond, List, [], ◌∷◌, ◌++◌, ◌≡◌, eqb, leb, length}
use Rattle.buffer.specs.Verdict.{verdict_number, verdict_place}
use Rattle.buffer.specs.declared.Verdict.{Verdict}
use Rattle.buffer.specs.declared.Verdict.TheVariants.{Accepted, Refused}
use Rattle.lut.specs.declared.Telling.TheVariants.{Alike, Apart}
use Rattle.kinds.specs.Table.{Kind, kinds}
use Rattle.records.specs.Sections.{label_size, label_of}
use Rattle.sheet.specs.Reading.{verdict}
use Rattle.sheet.specs.Parsed.{record_with}
use Rattle.refusal.specs.Words.{ascii}
use Rattle.refusal.specs.Line.{decimal}
use Rattle.findings.specs.declared.Finding.{Finding}
use Rattle.findings.specs.declared.Finding.TheVariants.{New, Gone, Name, Changed}
use Rattle.findings.specs.declared.Line.{Line}
use Rattle.findings.specs.Findings.{notice_lines}
use Rattle.notice.specs.declared.Noticed as noticed
use Rattle.notice.specs.declared.Noticed.TheVariants as Noticed
use Rattle.notice.specs.Text.{render}
use Rattle.notice.specs.Notice.{left_by, noticed_number, noticed_which, noticed_place, first_refused}
use Rattle.report.specs.Words.{line_of, saying_text, unaltered, ending_text}

-- the label of a record between quotes; of no record, that the sheet has no such slot [V3, B7]
abbrev pub label_text : List ℕ → List ℕ
label_text [] = ascii "(no such slot)"
label_text (x ∷ r) = ascii "'" ++ label_of (x ∷ r) ++ ascii "'"

-- the labels of a slot's two records [V3]
abbrev pub labels_text : (old new : List ℕ) → List ℕ
labels_text old new = (ascii "    old label " ++ label_text old) ++ (ascii ", new label " ++ label_text new) ++ (10 ∷ [])

-- a line of the notice, what it says, and the labels of the slot's two records [V3]
abbrev pub entry_text : Line → (old new : List ℕ) → List ℕ
entry_text l old new = render l ++ saying_text l.section l.finding ++ labels_text old new

-- the lines of the notice of two sheets, each with what it says and its labels [V3]
unfoldable pub entries_text : (old new : List ℕ) → List Line → List ℕ
entries_text old new [] = []
entries_text old new (l ∷ ls) =
    entry_text l (record_with l.section l.slot old) (record_with l.section l.slot new) ++ entries_text old new ls

-- the sorts of lines by number: NAME, ALTR, WORD, NEW, GONE [V2]
abbrev pub sort_of : Finding → ℕ
sort_of Name = 0
sort_of (Changed (Apart input)) = 1
sort_of (Changed Alike) = 2
sort_of New = 3
sort_of Gone = 4

-- how many lines are of this sort [V2]
unfoldable pub how_many : (sort : ℕ) → List Line → ℕ
how_many sort [] = 0
how_many sort (l ∷ ls) = cond (eqb (sort_of l.finding) sort) 1 0 + how_many sort ls

-- the count of lines by sort, of five counts [V2]
abbrev pub counts_text : (ℕ → ℕ) → List ℕ
counts_text count =
    (10 ∷ ascii "Lines by sort: NAME ") ++ decimal (count 0)
    ++ (ascii ", ALTR " ++ decimal (count 1))
    ++ (ascii ", WORD " ++ decimal (count 2))
    ++ (ascii ", NEW " ++ decimal (count 3))
    ++ (ascii ", GONE " ++ decimal (count 4))
    ++ (10 ∷ 10 ∷ [])

-- above so many lines, or bytes of them: how many there are of each sort; where there is none, that nothing is altered
-- [V2]
abbrev pub head_on : ℕ → (count : ℕ → ℕ) → List ℕ
head_on zero count = 10 ∷ line_of unaltered
head_on (suc n) count = counts_text count

-- above these lines [V2]
abbrev pub head_text : List Line → List ℕ
head_text ls = head_on (length ls) (λ sort. how_many sort ls)

-- THE BODY OF THE PAGE: head, each of the notice's lines, ending [V1]
unfoldable pub body_text : (old new : List ℕ) → List ℕ
body_text old new = head_text (notice_lines old new) ++ entries_text old new (notice_lines old new) ++ ending_text

-- how many slots these kinds have [S1]
abbrev pub slots_of : List Kind → ℕ
slots_of [] = 0
slots_of (k ∷ ks) = k.most + slots_of ks

-- room for a label with its quotes, or for that there is no such slot [V7]
abbrev pub label_room : ℕ
label_room = 8 + label_size

-- room for the line on a slot's labels [V7]
abbrev pub labels_room : ℕ
labels_room = 27 + 2 * label_room

-- room for any line of the notice, what it says and its labels [V7]
abbrev pub entry_room : ℕ
entry_room = 30 + 242 + labels_room

-- room for the lines NAME of a slot and for its other line, each with what it says and its labels [V7]
abbrev pub longest_slot : ℕ
longest_slot = (13 + 30 + (43 + 2 * label_size)) + (31 + 242 + (43 + 2 * label_size))

-- no body is longer; theorem at_most [V7]
abbrev pub longest_body : ℕ
longest_body = 150 + slots_of kinds * longest_slot + 754

-- the old sheet's refusal, else the new sheet's, else whether there is room for the longest body [V7, O4, A4, F12]
abbrev pub answer_of : (old new : Verdict) (text : List ℕ) (room : ℕ) → noticed.Noticed
answer_of (Refused number place) new text room = Noticed.Old number place
answer_of Accepted (Refused number place) text room = Noticed.New number place
answer_of Accepted Accepted text room = cond (leb longest_body room) (Noticed.Done (length text)) (Noticed.Short longest_body)

-- the answer in numbers: the refusal's, of sheet 1 or 2, else 12 and the longest body, else 0 and the length written
-- [V7, A4, A5, A6, O4, F12]
pub record ReportNumbered (old new : List ℕ) (room : ℕ) (r : noticed.Noticed) : Type 0 where
  pub number : noticed_number r
      ≡ first_refused (verdict old) (verdict new) (verdict_number (verdict old)) (verdict_number (verdict new))
      (cond (leb longest_body room) 0 12)
  pub which : noticed_which r ≡ first_refused (verdict old) (verdict new) 1 2 0
  pub place : noticed_place r
      ≡ first_refused (verdict old) (verdict new) (verdict_place (verdict old)) (verdict_place (verdict new))
      (cond (leb longest_body room) (length (body_text old new)) longest_body)

-- what the call answered and left in the room that it was lent: the body, or after every refusal what was there
-- [V7, A1, A2, G14]
pub record Reported (old new out : List ℕ) (r : noticed.Noticed) (out' : List ℕ) : Type 0 where
  pub answer : r ≡ answer_of (verdict old) (verdict new) (body_text old new) (length out)
  pub left : out' ≡ left_by r (body_text old new) out
