-- What is promised of the program's call, of the bytes that it leaves: `whole` and `told_of_the_first`, and by them each
-- verb. Assumes nothing.
use Prim.Native.Nat.{ℕ, ◌≤◌}
use mathlib.Core.Path.{◌≡◌, ap, ◌∙◌}
use mathlib.Core.Bool.{true, ◌&&◌}
use mathlib.Core.List.{List}
use native.Mathlib.Omega.{arith}
use borrow.Author.Tests.{le-leb}
use lib.ListN.{length, take, drop}
use lib.Seq.{take-append_seam}
use Rattle.buffer.specs.Room.{fill}
use Rattle.buffer.specs.declared.Verdict.TheVariants.{Accepted, Refused}
use Rattle.buffer.proofs.Writing.{put_wrote, front_text}
use Rattle.sheet.specs.Reading.{verdict}
use Rattle.sheet.specs.Parsed.{parse, render}
use Rattle.compiler.specs.Stream.{stream_of}
use Rattle.reader.specs.Judging.{stream_verdict}
use Rattle.reader.specs.Back.{sheet_in}
use Rattle.notice.specs.Notice.{notice_text}
use Rattle.refusal.specs.Line.{refusal_line}
use Rattle.refusal.proofs.Theorems.{room_for_every_line}
use Rattle.verbs.specs.declared.Verb.{Verb}
use Rattle.verbs.specs.declared.Verb.TheVariants.{Compile, Read, Notice, Page, Bench}
use Rattle.verbs.specs.declared.Came.{Came}
use Rattle.verbs.specs.declared.Came.TheVariants.{Done}
use Rattle.verbs.specs.declared.Ended.{Ended}
use Rattle.page.specs.Files.{File}
use Rattle.page.specs.Page.{is_shown, page_text}
use Rattle.verbs.specs.Samples.{words_in, samples_verdict, taken_bytes}
use Rattle.verbs.specs.Result.{bytes, first, second, Gives}
use Rattle.verbs.specs.Run.{Does, Told, status_of, count_of, Ran}

-- all went well: status 0, these bytes for standard output, nothing for standard error [T3, T8]
pub record Written (text : List ℕ) (err : List ℕ) (r : Ended) (out' err' : List ℕ) : Type 0 where
  pub status : r.status ≡ 0
  pub gives : take r.out out' ≡ text
  pub count : r.out ≡ length text
  pub silent : (r.err ≡ 0) × (err' ≡ err)

-- a refusal of a file with this name: status 1, nothing for standard output, whose room stays as it was, and the line of
-- the refusal for standard error [T3, T8, A11]
pub record Refuses (name : List ℕ) (number place : ℕ) (out : List ℕ) (r : Ended) (out' err' : List ℕ) : Type 0 where
  pub status : r.status ≡ 1
  pub nothing : (r.out ≡ 0) × (out' ≡ out)
  pub there : List ℕ
  pub line : take r.err err' ≡ refusal_line name number place there

-- a verb that has bytes to say, and room for them
pub whole : (v : Verb) (one two : File) (text out err : List ℕ) (r : Ended) (out' err' : List ℕ)
    → ((c : Came) → Does v one two out c out' → Gives (bytes text) out c out') → length text ≤ length out → Ran v one two out err r out' err'
    → Written text err r out' err'
whole v one two text out err r out' err' says h ran =
    let g = says ran.came ran.does in
    let done : ran.came ≡ Done (length text) = g.came ∙ simp (le-leb _ _ h) in
    let left : out' ≡ fill text out = g.left ∙ simp (le-leb _ _ h) in
    let count : r.out ≡ length text = ran.written ∙ ap count_of done in
    record {
      status = ran.status ∙ ap status_of done;
      gives = rw (count, left) (take-append_seam text (drop (length text) out));
      count = count;
      silent = rw done at ran.says;
    }

-- what a line in room for every line is
line_there : (name : List ℕ) (number place : ℕ) (err : List ℕ) (n : ℕ) (err' : List ℕ) → length name ≤ 4096 → 4736 ≤ length err
    → (t : Told name number place err n err') → take n err' ≡ refusal_line name number place t.there
line_there name number place err n err' short room t =
    front_text _ _ _ _
    (put_wrote 0 (refusal_line name number place t.there) err err' n
    (omega (arith, room, room_for_every_line name number place t.there short t.short))
    t.put)

-- a verb that has a refusal of its first file to say, or of its second
pub told_of_the_first : (v : Verb) (one two : File) (number place : ℕ) (out err : List ℕ) (r : Ended) (out' err' : List ℕ)
    → ((c : Came) → Does v one two out c out' → Gives (first number place) out c out') → length one.name ≤ 4096 → 4736 ≤ length err
    → Ran v one two out err r out' err' → Refuses one.name number place out r out' err'
told_of_the_first v one two number place out err r out' err' says short room ran =
    let g = says ran.came ran.does in
    let t : Told one.name number place err r.err err' = rw g.came at ran.says in
    record {
      status = ran.status ∙ ap status_of g.came;
      nothing = (ran.written ∙ ap count_of g.came, g.left);
      there = t.there;
      line = line_there one.name number place err r.err err' short room t;
    }

pub told_of_the_second : (v : Verb) (one two : File) (number place : ℕ) (out err : List ℕ) (r : Ended) (out' err' : List ℕ)
    → ((c : Came) → Does v one two out c out' → Gives (second number place) out c out') → length two.name ≤ 4096 → 4736 ≤ length err
    → Ran v one two out err r out' err' → Refuses two.name number place out r out' err'
told_of_the_second v one two number place out err r out' err' says short room ran =
    let g = says ran.came ran.does in
    let t : Told two.name number place err r.err err' = rw g.came at ran.says in
    record {
      status = ran.status ∙ ap status_of g.came;
      nothing = (ran.written ∙ ap count_of g.came, g.left);
      there = t.there;
      line = line_there two.name number place err r.err err' short room t;
    }

-- ---- each verb, where nothing is refused and there is room

module _ (one two : File) (out err : List ℕ) (r : Ended) (out' err' : List ℕ) where
  -- the commands of an accepted sheet [T3, D2.1]
  pub commands_are_written : verdict one.bytes ≡ Accepted → length (stream_of (parse one.bytes)) ≤ length out
      → Ran Compile one two out err r out' err' → Written (stream_of (parse one.bytes)) err r out' err'
  commands_are_written a h ran = whole Compile one two _ out err r out' err' (λ c d. rw a at d) h ran

  -- the sheet that an accepted stream sets up [T3, C7]
  pub sheet_is_written : stream_verdict one.bytes ≡ Accepted → length (render (sheet_in one.bytes)) ≤ length out
      → Ran Read one two out err r out' err' → Written (render (sheet_in one.bytes)) err r out' err'
  sheet_is_written a h ran = whole Read one two _ out err r out' err' (λ c d. rw a at d) h ran

  -- the notice of two accepted sheets, the first file being the old one [T3, N1]
  pub notice_is_written : verdict one.bytes ≡ Accepted → verdict two.bytes ≡ Accepted
      → length (notice_text one.bytes two.bytes) ≤ length out → Ran Notice one two out err r out' err'
      → Written (notice_text one.bytes two.bytes) err r out' err'
  notice_is_written a b h ran = whole Notice one two _ out err r out' err' (λ c d. rw (a, b) at d) h ran

  -- the page on two accepted sheets, with names and digests that it has room for [T7]
  pub page_is_written : (is_shown one && is_shown two) ≡ true → verdict one.bytes ≡ Accepted → verdict two.bytes ≡ Accepted
      → length (page_text one two) ≤ length out → Ran Page one two out err r out' err' → Written (page_text one two) err r out' err'
  page_is_written s a b h ran = whole Page one two _ out err r out' err' (λ c d. rw (s, a, b) at d) h ran

  -- what capture takes of the samples of a file [T5, R10]
  pub takings_are_written : verdict one.bytes ≡ Accepted → samples_verdict (words_in two.bytes) ≡ Accepted
      → length (taken_bytes one.bytes (words_in two.bytes)) ≤ length out → Ran Bench one two out err r out' err'
      → Written (taken_bytes one.bytes (words_in two.bytes)) err r out' err'
  takings_are_written a b h ran = whole Bench one two _ out err r out' err' (λ c d. rw (a, b) at d) h ran

  -- ---- and where a sheet of the notice is refused: the old one speaks first [T3, O4]
  pub old_is_refused : (number place : ℕ) → verdict one.bytes ≡ Refused number place → length one.name ≤ 4096 → 4736 ≤ length err
      → Ran Notice one two out err r out' err' → Refuses one.name number place out r out' err'
  old_is_refused number place a s e ran = told_of_the_first Notice one two number place out err r out' err' (λ c d. rw a at d) s e ran

  pub new_is_refused : (number place : ℕ) → verdict one.bytes ≡ Accepted → verdict two.bytes ≡ Refused number place
      → length two.name ≤ 4096 → 4736 ≤ length err → Ran Notice one two out err r out' err'
      → Refuses two.name number place out r out' err'
  new_is_refused number place a b s e ran = told_of_the_second Notice one two number place out err r out' err' (λ c d. rw (a, b) at d) s e ran
