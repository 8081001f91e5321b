-- The call on a sheet, by the table that is made of it. Assumes nothing.
use Prim.Native.Nat.{ℕ}
use mathlib.Core.Path.{◌≡◌, refl, sym, ap, ◌∙◌}
use mathlib.Core.List.{List}
use native.Mathlib.Omega.{arith}
use lib.ListN.{length}
use Rattle.buffer.specs.Room.{Delivered, bytes}
use Rattle.buffer.specs.declared.Outcome.{Outcome}
use Rattle.buffer.specs.declared.Verdict.{Verdict}
use Rattle.buffer.specs.Room as room
use Rattle.buffer.proofs.Writing as writing
use Rattle.sheet.specs.Reading.{verdict}
use Rattle.sheet.specs.Parsed.{parse}
use Rattle.programme.specs.Machine.{Agree}
use Rattle.programme.specs.Table.{table_length, table_of, prepared, plain}
use Rattle.programme.proofs.Theorems.{table_length_law}
use Rattle.bench.specs.declared.Run.{Run}
use Rattle.bench.specs.declared.Benched.{Benched}
use Rattle.bench.specs.declared.Benched.TheVariants.{Refused}
use Rattle.bench.specs.Run.{taken}
use Rattle.bench.specs.Call.{answered, machine_of, benched, left_by, benched_left}
use Rattle.bench.specs.Walk.{Answers}
use Rattle.bench.proofs.Agreeing.{answers_alike, taken_alike}
use Rattle.bench.proofs.Calling.{left_alike}
use Rattle.bench.proofs.Standing.{accepted_stands}
use Rattle.bench.proofs.Succeeding.{accepts}

-- ---- the table is made: the sheet is refused, or the room for the table is all of it

pub table_refused : (s out out' : List ℕ) (number place : ℕ) → Delivered (prepared s) out (Outcome.Refused number place) out'
    → length out ≡ table_length → verdict s ≡ Verdict.Refused number place
table_refused s out out' number place d whole = go (verdict s) refl d
  where
    go : (v : Verdict) → verdict s ≡ v → Delivered (room.unless v (table_of (parse s))) out (Outcome.Refused number place) out'
        → verdict s ≡ Verdict.Refused number place
    go Verdict.Accepted a f =
        let l = table_length_law (parse s) in
        let z : Outcome.Refused number place ≡ Outcome.Done (length (table_of (parse s))) =
        writing.answered (table_of (parse s)) out _ out' (omega arith) f in
        let y : ◌≡◌ {A = ℕ} 0 1 = cc in absurd (omega arith)
    go (Verdict.Refused n p) q f = let z : Outcome.Refused number place ≡ Outcome.Refused n p = f.answer in q ∙ cc

pub table_made : (s out out' : List ℕ) (n : ℕ) → Delivered (prepared s) out (Outcome.Done n) out' → length out ≡ table_length
    → (verdict s ≡ Verdict.Accepted) × (out' ≡ table_of (parse s))
table_made s out out' n d whole = go (verdict s) refl d
  where
    go : (v : Verdict) → verdict s ≡ v → Delivered (room.unless v (table_of (parse s))) out (Outcome.Done n) out'
        → (verdict s ≡ Verdict.Accepted) × (out' ≡ table_of (parse s))
    go Verdict.Accepted a f =
        let l = table_length_law (parse s) in (
          a,
          writing.filled (table_of (parse s)) out _ out' (omega arith) f ∙ writing.fill_all (table_of (parse s)) out (omega arith),
        )
    go (Verdict.Refused number place) q f =
        let z : Outcome.Done n ≡ Outcome.Refused number place = f.answer in
        let y : ◌≡◌ {A = ℕ} 0 1 = cc in absurd (omega arith)

-- ---- what the call answers and leaves

-- the sheet's refusal
pub refused_call : (s xs : List ℕ) (r : Run) (out : List ℕ) (number place : ℕ) → verdict s ≡ Verdict.Refused number place
    → (Refused number place ≡ benched s xs r (length out)) × (out ≡ benched_left s xs r out)
unfolding benched benched_left
refused_call s xs r out number place e = (rw e, rw e)

-- a table that answers as the chain words do
pub table_call : (s t xs : List ℕ) (r : Run) (out : List ℕ) (b : Benched) (out' : List ℕ) → verdict s ≡ Verdict.Accepted
    → Agree (plain t) (machine_of s) → Answers (plain t) xs r out b out'
    → (b ≡ benched s xs r (length out)) × (out' ≡ benched_left s xs r out)
unfolding benched benched_left
table_call s t xs r out b out' a agree d =
    let m = plain t in
    let e : b ≡ benched s xs r (length out) =
    d.answer ∙ answers_alike (plain t) (machine_of s) agree xs r (length out) ∙ sym (accepts s (answered (machine_of s) xs r (length out)) a) in (
      e,
      d.left
          ∙ left_alike m xs r out b (taken (machine_of s) r xs) d.answer
          (λ ok. taken_alike m (machine_of s) agree r xs (accepted_stands m r ok))
          ∙ ap (λ (c : Benched). left_by c (taken (machine_of s) r xs) out) e,
    )
