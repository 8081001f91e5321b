-- The page for signing, and what its call answers.
use Rattle.std.specs.Prelude.{ℕ, ◌≡◌, Bool, cond, ◌&&◌, List, [], ◌∷◌, ◌++◌, leb, length}
use Rattle.buffer.specs.Room.{fill}
use Rattle.buffer.specs.Verdict.{verdict_number, verdict_place}
use Rattle.buffer.specs.declared.Verdict.{Verdict}
use Rattle.buffer.specs.declared.Verdict.TheVariants.{Accepted, Refused}
use Rattle.sheet.specs.Reading.{verdict}
use Rattle.notice.specs.Notice.{first_refused}
use Rattle.refusal.specs.Words.{ascii}
use Rattle.refusal.specs.Line.{decimal}
use Rattle.report.specs.Page.{body_text}
use Rattle.page.specs.declared.Paged.{Paged}
use Rattle.page.specs.declared.Paged.TheVariants.{Done, Old, New, Short, TooLong}
use Rattle.page.specs.declared.file.File as declared
use Rattle.page.specs.Files.{File, file}

-- a file as the code has it: three lent parts [T7]
abbrev pub file_of : declared.File → File
file_of f = file f.name.now f.bytes.now f.digest.now

-- a digest, or that none was asked for [T7]
abbrev pub digest_text : List ℕ → List ℕ
digest_text [] = ascii "not asked for (--no-digest)"
digest_text (d ∷ ds) = d ∷ ds

-- how many bytes a sheet has, on the line below its name [T7]
abbrev pub size_text : ℕ → List ℕ
size_text n = (ascii "\n           " ++ decimal n) ++ ascii " bytes, SHA-256 "

-- a sheet: which it is, its name, how many bytes it has, their digest [T7]
abbrev pub file_text : (title : List ℕ) → File → List ℕ
file_text title f = ((title ++ f.name) ++ size_text (length f.bytes)) ++ (digest_text f.digest ++ (10 ∷ []))

-- the head of a page: both sheets [T7]
unfoldable pub head_text : (one two : File) → List ℕ
head_text one two =
    ascii "NOTICE OF ALTERATIONS\n\n" ++ (file_text (ascii "Old sheet: ") one ++ file_text (ascii "New sheet: ") two)

-- the page: its head, and the body made of the notice's lines [T7]
abbrev pub page_text : (one two : File) → List ℕ
page_text one two = head_text one two ++ body_text one.bytes two.bytes

-- a page has room for names of 4,096 bytes and digests of 64 [T7]
abbrev pub is_shown : File → Bool
is_shown f = leb (length f.name) 4096 && leb (length f.digest) 64

-- the old sheet's refusal, else the new sheet's, else whether there is room for the text [T7, O4, A3, A4, F12]
abbrev pub answer_of : (old new : Verdict) (text : List ℕ) (room : ℕ) → Paged
answer_of (Refused number place) new text room = Old number place
answer_of Accepted (Refused number place) text room = New number place
answer_of Accepted Accepted text room = cond (leb (length text) room) (Done (length text)) (Short (length text))

-- no page where a name or a digest is too long for it, else that answer for the page's text [T7]
abbrev pub paged_of : (one two : File) (room : ℕ) → Paged
paged_of one two room =
    cond (is_shown one && is_shown two)
    (answer_of (verdict one.bytes) (verdict two.bytes) (page_text one two) room)
    TooLong

-- the room afterwards: filled behind a success, otherwise as it was [T7, A1, A2, A3]
abbrev pub left_by : Paged → (text out : List ℕ) → List ℕ
left_by (Done n) text out = fill text out
left_by (Old number place) text out = out
left_by (New number place) text out = out
left_by (Short needed) text out = out
left_by TooLong text out = out

-- THE CALL: its answer, and what it left in the room that it was lent [T7, A1, A2, A4, G14]
pub record PageGiven (one two : File) (out : List ℕ) (r : Paged) (out' : List ℕ) : Type 0 where
  pub answer : r ≡ paged_of one two (length out)
  pub left : out' ≡ left_by r (page_text one two) out

-- the refusal number for each case; TooLong is no refusal and has 0 [A5, F12, T7]
abbrev pub paged_number : Paged → ℕ
paged_number (Done n) = 0
paged_number (Old number place) = number
paged_number (New number place) = number
paged_number (Short needed) = 12
paged_number TooLong = 0

-- which sheet a refusal is of: 0 neither, 1 old, 2 new [A4, A6, T7]
abbrev pub paged_which : Paged → ℕ
paged_which (Done n) = 0
paged_which (Old number place) = 1
paged_which (New number place) = 2
paged_which (Short needed) = 0
paged_which TooLong = 0

-- the number beside it: a refusal's place, behind a success the length written, 0 for TooLong [A5, A6, T7]
abbrev pub paged_place : Paged → ℕ
paged_place (Done n) = n
paged_place (Old number place) = place
paged_place (New number place) = place
paged_place (Short needed) = needed
paged_place TooLong = 0

-- the answer in numbers: three times 0 where a name or a digest is too long; else the refusal's, of sheet 1 or 2, else 12
-- and the bytes needed, else 0 and the length written [T7, A4, A5, A6, O4, F12]
pub record PageNumbered (one two : File) (room : ℕ) (r : Paged) : Type 0 where
  pub number : paged_number r
      ≡ cond (is_shown one && is_shown two)
      (first_refused (verdict one.bytes) (verdict two.bytes)
      (verdict_number (verdict one.bytes)) (verdict_number (verdict two.bytes))
      (cond (leb (length (page_text one two)) room) 0 12))
      0
  pub which : paged_which r
      ≡ cond (is_shown one && is_shown two) (first_refused (verdict one.bytes) (verdict two.bytes) 1 2 0) 0
  pub place : paged_place r
      ≡ cond (is_shown one && is_shown two)
      (first_refused (verdict one.bytes) (verdict two.bytes)
      (verdict_place (verdict one.bytes)) (verdict_place (verdict two.bytes))
      (length (page_text one two)))
      0
