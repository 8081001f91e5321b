-- What is written of two accepted sheets, and the call's answer in numbers. Assumes nothing.
use Prim.Native.Nat.{ℕ, ◌≤◌, ◌<◌}
use mathlib.Core.Path.{◌≡◌}
use mathlib.Core.List.{List, ◌++◌}
use lib.ListN.{length, get_or}
use borrow.Author.Tests.{le-leb}
use Rattle.buffer.specs.Room.{Wrote}
use Rattle.buffer.specs.declared.Verdict.TheVariants.{Accepted}
use Rattle.buffer.proofs.Writing.{front_count}
use Rattle.sheet.specs.Reading.{verdict}
use Rattle.findings.specs.Findings.{notice_lines}
use Rattle.notice.specs.declared.Noticed.TheVariants.{Done}
use Rattle.report.specs.Page.{entries_text, how_many, head_on, body_text, longest_body, Reported, ReportNumbered}
use Rattle.report.specs.Words.{ending_text}
use Rattle.report.proofs.Counting.{head_counted}

-- head, entries and ending are the body
pub body_written : (old new entries counts out out' : List ℕ) (n : ℕ) → entries ≡ entries_text old new (notice_lines old new)
    → ((s : ℕ) → s < 5 → get_or counts s 0 ≡ how_many s (notice_lines old new))
    → Wrote 0 (head_on (length entries) (λ sort. get_or counts sort 0) ++ entries ++ ending_text) out out' n → Wrote 0 (body_text old new) out out' n
unfolding body_text
body_written old new entries counts out out' n e counted w =
    rw (e, head_counted old new (notice_lines old new) (λ sort. get_or counts sort 0) counted) at w

module _ (old new out out' : List ℕ) (n : ℕ) (a : verdict old ≡ Accepted) (b : verdict new ≡ Accepted) (h : longest_body ≤ length out)
    (w : Wrote 0 (body_text old new) out out' n) where
  pub reported_done : Reported old new out (Done n) out'
  reported_done =
      record { answer = rw (a, b, le-leb longest_body (length out) h, front_count (body_text old new) out out' n w); left = w.left }

  pub done_numbered : ReportNumbered old new (length out) (Done n)
  done_numbered =
      record {
        number = rw (a, b, le-leb longest_body (length out) h);
        which = rw (a, b);
        place = rw (a, b, le-leb longest_body (length out) h, front_count (body_text old new) out out' n w);
      }
