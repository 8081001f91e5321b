-- What the one call does: each verb by the library's definitions.
use Rattle.std.specs.Prelude.{ℕ, ◌≤◌, ◌≡◌, cond, ◌&&◌, List, [], ◌∷◌, ◌++◌, length, get_or}
use Rattle.buffer.specs.Room.{Put}
use Rattle.buffer.specs.declared.Verdict.TheVariants.{Accepted}
use Rattle.sheet.specs.Reading.{verdict}
use Rattle.sheet.specs.Parsed.{parse, render}
use Rattle.sheet.specs.Parts.{section_of}
use Rattle.compiler.specs.Stream.{stream_of}
use Rattle.reader.specs.Judging.{stream_verdict}
use Rattle.reader.specs.Back.{sheet_in}
use Rattle.notice.specs.Notice.{notice_text}
use Rattle.decimal.specs.Decimal.{is_decimal, section_asked}
use Rattle.refusal.specs.Words.{ascii}
use Rattle.refusal.specs.Line.{refusal_line}
use Rattle.verbs.specs.declared.Verb.{Verb}
use Rattle.verbs.specs.declared.Verb.TheVariants.{Check, Section, Compile, Read, Notice, Page, Show, ShowCommands, Bench, Nothing}
use Rattle.verbs.specs.declared.Came.{Came}
use Rattle.verbs.specs.declared.Came.TheVariants.{Done, First, Second, Shown, NoNumber, NoCall}
use Rattle.verbs.specs.declared.Ended.{Ended}
use Rattle.page.specs.Files.{File}
use Rattle.verbs.specs.Samples.{words_in, samples_verdict, taken_bytes}
use Rattle.page.specs.Page.{page_text, is_shown}
use Rattle.verbs.specs.Result.{Result, unless, no_number, no_call, Gives, Shows}

-- the verbs by their numbers in a call from C, from 0 on [T1]
abbrev pub verbs : List Verb
verbs = Nothing ∷ Check ∷ Section ∷ Compile ∷ Read ∷ Notice ∷ Page ∷ Show ∷ ShowCommands ∷ Bench ∷ []

-- the verb that has this number [T1]
abbrev pub verb_of : (number : ℕ) → Verb
verb_of number = get_or verbs number Nothing

-- what is said of an accepted sheet [T2]
abbrev pub accepted_line : (name : List ℕ) → List ℕ
accepted_line name = name ++ ascii ": accepted\n"

-- what is said of a word that should be a section's number [T4]
abbrev pub no_number_line : (word : List ℕ) → List ℕ
no_number_line word = word ++ ascii ": not a section's number\n"

-- the page on two sheets; none where a name or a digest is too long for it [T7]
abbrev pub page_of : (one two : File) → Result
page_of one two =
    cond (is_shown one && is_shown two) (unless (verdict one.bytes) (verdict two.bytes) (page_text one two)) no_call

-- EACH VERB, by the definitions of the library: what it has to say of its files
-- [T1, T2, T3, T4, T5, T6, T7, S9, D2.1, C7, N1, R10]
abbrev pub Does : Verb → (one two : File) (out : List ℕ) (c : Came) (out' : List ℕ) → Type 0
Does Check one two out c out' = Gives (unless (verdict one.bytes) Accepted (accepted_line one.name)) out c out'
Does Section one two out c out' =
    Gives
    (cond (is_decimal two.bytes)
    (unless (verdict one.bytes) Accepted (section_of one.bytes (section_asked two.bytes)))
    no_number)
    out c out'
Does Compile one two out c out' = Gives (unless (verdict one.bytes) Accepted (stream_of (parse one.bytes))) out c out'
Does Read one two out c out' = Gives (unless (stream_verdict one.bytes) Accepted (render (sheet_in one.bytes))) out c out'
Does Notice one two out c out' =
    Gives (unless (verdict one.bytes) (verdict two.bytes) (notice_text one.bytes two.bytes)) out c out'
Does Page one two out c out' = Gives (page_of one two) out c out'
Does Bench one two out c out' =
    Gives (unless (verdict one.bytes) (samples_verdict (words_in two.bytes)) (taken_bytes one.bytes (words_in two.bytes))) out c out'
Does Show one two out c out' = Shows (verdict one.bytes) out c
Does ShowCommands one two out c out' = Shows (stream_verdict one.bytes) out c
Does Nothing one two out c out' = Gives no_call out c out'

-- the exit status: 0 done, 1 refused, 2 trouble [T8]
abbrev pub status_of : Came → ℕ
status_of (Done n) = 0
status_of (First number place) = 1
status_of (Second number place) = 1
status_of (Shown n number place) = 1
status_of NoNumber = 2
status_of NoCall = 2

-- how many bytes are for standard output [T1]
abbrev pub count_of : Came → ℕ
count_of (Done n) = n
count_of (First number place) = 0
count_of (Second number place) = 0
count_of (Shown n number place) = n
count_of NoNumber = 0
count_of NoCall = 0

-- the line of a refusal was put into the room for standard error, and its length answered; what it says of the place, in
-- at most 512 bytes, no rule says [T3, A11]
pub record Told (name : List ℕ) (number place : ℕ) (err : List ℕ) (r : ℕ) (err' : List ℕ) : Type 0 where
  pub there : List ℕ
  pub short : length there ≤ 512
  pub put : Put 0 (refusal_line name number place there) err err' r

-- what is said on standard error: a refusal's line with its file, nothing where all is done [T3, T4]
abbrev pub Says : Came → (name₁ name₂ err : List ℕ) (r : ℕ) (err' : List ℕ) → Type 0
Says (Done n) name₁ name₂ err r err' = (r ≡ 0) × (err' ≡ err)
Says (First number place) name₁ name₂ err r err' = Told name₁ number place err r err'
Says (Second number place) name₁ name₂ err r err' = Told name₂ number place err r err'
Says (Shown n number place) name₁ name₂ err r err' = Told name₁ number place err r err'
Says NoNumber name₁ name₂ err r err' = Put 0 (no_number_line name₂) err err' r
Says NoCall name₁ name₂ err r err' = (r ≡ 0) × (err' ≡ err)

-- THE CALL: what came of the verb decides the status, the bytes for standard output and the line for standard error
-- [T1, T3, T8]
pub record Ran (v : Verb) (one two : File) (out err : List ℕ) (r : Ended) (out' err' : List ℕ) : Type 0 where
  pub came : Came
  pub does : Does v one two out came out'
  pub status : r.status ≡ status_of came
  pub written : r.out ≡ count_of came
  pub says : Says came one.name two.name err r.err err'
