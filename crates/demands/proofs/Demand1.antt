-- DEMAND 1. Any bytes may come as a sheet, as a stream, as chain words, as two sheets: no public call has a `requires`,
-- and each equals a definition that is total [D1.1, K1]. What follows states, over those definitions, what is promised
-- of refusals. Assumes nothing.
use Prim.Native.Nat.{ℕ, ◌<◌}
use mathlib.Core.Path.{◌≡◌, refl, ap, ◌∙◌}
use mathlib.Core.List.{List, [], ◌∷◌}
use mathlib.Core.Logic.{◌↔◌}
use native.Mathlib.Omega.{arith}
use borrow.Author.Tests.{ne_eqb}
use lib.ListN.{length, drop}
use Rattle.peek.specs.Bytes.{Bytes}
use Rattle.buffer.specs.Room.{Reply, Delivered}
use Rattle.buffer.specs.declared.Outcome.{Outcome}
use Rattle.buffer.specs.declared.Verdict.TheVariants as Verdict
use Rattle.buffer.proofs.Writing.{kept_refused, kept_beyond}
use Rattle.lut.specs.Answer.{answer_number, answer_place, RunNumbered}
use Rattle.lut.specs.declared.Answer.{Answer}
use Rattle.kinds.specs.Table.{sections, description_size, Accepted, words_of, description_read}
use Rattle.kinds.proofs.Ways as ways
use Rattle.sheet.specs.Reading.{verdict}
use Rattle.sheet.specs.Parts.{section_of}
use Rattle.sheet.proofs.Theorems.{refused_empty}
use Rattle.compiler.specs.Stream.{compiled}
use Rattle.reader.specs.Judging.{stream_verdict}
use Rattle.reader.specs.Back.{read_back}
use Rattle.notice.specs.declared.Noticed.{Noticed}
use Rattle.notice.specs.Notice.{notice_text, answer_of, noticed_number, NoticeGiven}

-- ---- what is not accepted is answered by its refusal [D1.2]

-- a refused sheet: the compiler answers the check's number and place, whatever the room [D1.2]
pub compile_answers_the_refusal : (sheet room room' : List ℕ) (r : Outcome) (number place : ℕ) → verdict sheet ≡ Verdict.Refused number place
    → Delivered (compiled sheet) room r room' → r ≡ Outcome.Refused number place
compile_answers_the_refusal s room room' r n p e d = let d' = rw e at d in d'.answer

-- a refused stream: the reader answers the judge's [D1.2]
pub read_answers_the_refusal : (stream room room' : List ℕ) (r : Outcome) (number place : ℕ) → stream_verdict stream ≡ Verdict.Refused number place
    → Delivered (read_back stream) room r room' → r ≡ Outcome.Refused number place
read_answers_the_refusal s room room' r n p e d = let d' = rw e at d in d'.answer

-- two sheets: the refusal of the old one comes first, and the answer says that it is the old one's [D1.2, O4, A4]
pub notice_answers_the_old : (old new out out' : List ℕ) (r : Noticed) (number place : ℕ) → verdict old ≡ Verdict.Refused number place
    → NoticeGiven old new out r out' → r ≡ Noticed.Old number place
notice_answers_the_old old new out out' r n p e g =
    g.answer ∙ ap (λ v. answer_of v (verdict new) (notice_text old new) (length out)) e

-- that of the new one comes where the old one is accepted [D1.2, O4, A4]
pub notice_answers_the_new : (old new out out' : List ℕ) (r : Noticed) (number place : ℕ) → verdict old ≡ Verdict.Accepted
    → verdict new ≡ Verdict.Refused number place → NoticeGiven old new out r out' → r ≡ Noticed.New number place
notice_answers_the_new old new out out' r n p a e g =
    g.answer ∙ ap (λ v. answer_of v (verdict new) (notice_text old new) (length out)) a
    ∙ ap (λ v. answer_of Verdict.Accepted v (notice_text old new) (length out)) e

-- chain words: 17 and the count needed, for every count but that one [D1.2, F17]
pub model_answers_the_count : (needed : ℕ) (words : List ℕ) (r : Answer) → RunNumbered needed words r → (length words ≡ needed → ⊥)
    → (answer_number r ≡ 17) × (answer_place r ≡ needed)
model_answers_the_count n ws r h e = (h.number ∙ rw (ne_eqb _ _ e), h.place ∙ rw (ne_eqb _ _ e))

-- 16: for every section, words are read as nothing exactly where no accepted description has them as its chain words
-- [D1.2, F16]
pub unread_iff_no_description_has_them : (k : ℕ) → k < sections → (words : List ℕ)
    → (description_read k words ≡ []) ↔ ((d : List ℕ) → Bytes d → length d ≡ description_size k → Accepted k d → words_of k d ≡ words → ⊥)
unread_iff_no_description_has_them k h ws = (
  λ e d b l a w.
      ways.refused k h ws d (ap length e)
      (record { are_bytes = b; whole = l; faultless = (ways.faultless_iff_accepted k h d b l).1 a; written = w }),
  λ none. nothing (description_read k ws) (λ p. has none (ways.exactly k h ws p)),
)
  where
    nothing : (xs : List ℕ) → (0 < length xs → ⊥) → xs ≡ []
    nothing [] n = refl
    nothing (x ∷ xs) n = absurd (n (omega arith))

    has : {d : List ℕ} → ((d : List ℕ) → Bytes d → length d ≡ description_size k → Accepted k d → words_of k d ≡ ws → ⊥) → ways.Described k ws d → ⊥
    has none x =
        none _ x.are_bytes x.whole ((ways.faultless_iff_accepted k h _ x.are_bytes x.whole).0 x.faultless) x.written

-- ---- and every lent byte stays as it was [D1.3]

-- a writer (compile, read) that refuses leaves the room as it was [D1.3]
pub refused_writer_changes_nothing : (reply : Reply) (room room' : List ℕ) (number place : ℕ)
    → Delivered reply room (Outcome.Refused number place) room' → room' ≡ room
refused_writer_changes_nothing = kept_refused

-- one that writes leaves what lies beyond [A1]
pub writer_leaves_what_lies_beyond : (reply : Reply) (room room' : List ℕ) (written : ℕ)
    → Delivered reply room (Outcome.Done written) room' → drop written room' ≡ drop written room
writer_leaves_what_lies_beyond = kept_beyond

-- the notice leaves the room as it was, whichever sheet is refused, and for 12 [D1.3]
pub refused_notice_changes_nothing : (old new out out' : List ℕ) (r : Noticed) → NoticeGiven old new out r out'
    → (noticed_number r ≡ 0 → ⊥) → out' ≡ out
refused_notice_changes_nothing old new out out' (Noticed.Done n) g h = absurd (h refl)
refused_notice_changes_nothing old new out out' (Noticed.Old n p) g h = g.left
refused_notice_changes_nothing old new out out' (Noticed.New n p) g h = g.left
refused_notice_changes_nothing old new out out' (Noticed.Short n) g h = g.left

-- ---- the part of a refused sheet is the empty part [D1.4]

-- whatever the section and wherever the fault [D1.4, S10]
pub refused_sheet_has_no_sections : (sheet : List ℕ) (section number place : ℕ) → verdict sheet ≡ Verdict.Refused number place
    → section_of sheet section ≡ []
refused_sheet_has_no_sections = refused_empty
