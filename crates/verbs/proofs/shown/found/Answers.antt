-- `found` meets its contract: with room for every sheet the answer is the verdict. Assumes nothing.
use Rattle.std.proofs.Common.{ℕ, ◌≡◌, ◌≤◌, List, length, refl, arith, lit≤}
use Rattle.buffer.specs.Room.{Delivered}
use Rattle.buffer.specs.declared.Outcome.{Outcome}
use Rattle.buffer.specs.declared.Verdict.{Verdict}
use Rattle.buffer.specs.declared.Verdict.TheVariants.{Accepted, Refused}
use Rattle.buffer.proofs.Writing.{answered}
use Rattle.kinds.specs.Table.{kind_of, most_of, description_size}
use Rattle.peek.specs.Bytes.{Bytes}
use Rattle.sheet.specs.Parsed.{longest_sheet, longest_from, render}
use Rattle.sheet.proofs.Theorems.{at_most}
use Rattle.reader.specs.Judging.{stream_verdict}
use Rattle.reader.specs.Back.{sheet_in, read_back}
use Rattle.reader.proofs.Theorems.{read_accepted}
use Rattle.verbs.proofs.shown.found.Goals as goal

module _ (stream room room' : List ℕ) (r : Outcome) (b : Bytes stream) (fits : longest_sheet ≤ length room)
    (d : Delivered (read_back stream) room r room') where
  -- what is answered, by the verdict
  answer : (v : Verdict) → stream_verdict stream ≡ v
      → r ≡ elim v [ Accepted ↦ Outcome.Done (length (render (sheet_in stream))) | Refused number place ↦ Outcome.Refused number place ]
  answer Accepted e =
      let back = render (sheet_in stream) in
      answered back room r room' (omega (arith, fits, at_most back (read_accepted stream b e))) (rw e at d)
  answer (Refused number place) e = (rw e at d).answer

  done : (n : ℕ) (v : Verdict) → stream_verdict stream ≡ v → r ≡ Outcome.Done n → Accepted ≡ v
  done n Accepted e f = refl
  done n (Refused number place) e f = let g = answer _ e in cc

  refused : (number place : ℕ) (v : Verdict) → stream_verdict stream ≡ v → r ≡ Outcome.Refused number place → Refused number place ≡ v
  refused number place Accepted e f = let g = answer _ e in cc
  refused number place (Refused n p) e f = let g = answer _ e in cc

pub returns-in-Done : goal.returns-in-Done
unfolding longest_from most_of kind_of description_size
returns-in-Done c = done _ _ _ _ (λ i. (c.type_inv.stream i).fits) (lit≤ tt) c.read.ensures.delivered _ _ refl c.in-Done.is

pub returns-in-Refused : goal.returns-in-Refused
unfolding longest_from most_of kind_of description_size
returns-in-Refused c = refused _ _ _ _ (λ i. (c.type_inv.stream i).fits) (lit≤ tt) c.read.ensures.delivered _ _ _ refl c.in-Refused.is
