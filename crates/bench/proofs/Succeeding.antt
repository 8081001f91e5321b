-- When the call on a sheet succeeds, and what it then answers and leaves. Assumes nothing.
use Prim.Native.Nat.{ℕ, ◌≤◌}
use mathlib.Core.Path.{◌≡◌, refl, sym, ap, ◌∙◌}
use mathlib.Core.Bool.{Bool, true, false}
use mathlib.Core.List.{List}
use native.Mathlib.Omega.{arith}
use borrow.Author.Tests.{ltb-false}
use lib.Dec.{ltb}
use lib.ListN.{length, take, drop}
use lib.Seq.{take-append_seam}
use Rattle.buffer.specs.Room.{fill}
use Rattle.buffer.specs.declared.Verdict.{Verdict}
use Rattle.sheet.specs.Reading.{verdict}
use Rattle.programme.specs.Machine.{Machine}
use Rattle.bench.specs.declared.Run.{Run}
use Rattle.bench.specs.declared.Benched.{Benched}
use Rattle.bench.specs.declared.Benched.TheVariants.{Done, Refused}
use Rattle.bench.specs.Run.{handed_on, taken, start_accepted}
use Rattle.bench.specs.Call.{most_samples, delivered, answered, unless, machine_of, benched, left_by, benched_left}
use Rattle.bench.proofs.Calling.{in_turn, in_room, given_room}

-- a success is no refusal
done_refused : {A : Type 0} {n number place : ℕ} {r : Run} → Refused number place ≡ Done n r → A
done_refused e = let z : ◌≡◌ {A = ℕ} 0 1 = cc in absurd (omega arith)

-- the call over a machine is done: nothing was to be refused, and this is the answer
pub record Did (m : Machine) (xs : List ℕ) (r : Run) (room n : ℕ) (r' : Run) : Type 0 where
  pub few : length xs ≤ most_samples
  pub start : start_accepted m r ≡ true
  pub fits : length (taken m r xs) ≤ room
  pub count : n ≡ length (taken m r xs)
  pub run : r' ≡ handed_on m r xs

did : (m : Machine) (xs : List ℕ) (r : Run) (room n : ℕ) (r' : Run) → answered m xs r room ≡ Done n r' → Did m xs r room n r'
unfolding answered delivered
did m xs r room n r' e =
    go (ltb most_samples (length xs)) (start_accepted m r) (ltb room (length (taken m r xs))) refl refl refl e
  where
    go : (a b c : Bool) → ltb most_samples (length xs) ≡ a → start_accepted m r ≡ b → ltb room (length (taken m r xs)) ≡ c
        → in_turn a b (in_room c (taken m r xs) (handed_on m r xs)) ≡ Done n r' → Did m xs r room n r'
    go true b c ea eb ec f = done_refused f
    go false false c ea eb ec f = done_refused f
    go false true true ea eb ec f = done_refused f
    go false true false ea eb ec f =
        record { few = ltb-false _ _ ea; start = eb; fits = ltb-false _ _ ec; count = cc; run = cc }

pub accepts : (s : List ℕ) (b : Benched) → verdict s ≡ Verdict.Accepted → unless (verdict s) b ≡ b
accepts s b e = rw e

-- so it is with the call on a sheet, which is then accepted
module _ (s xs : List ℕ) (r : Run) (room n : ℕ) (r' : Run) (e : benched s xs r room ≡ Done n r') where
  pub sheet_accepted : verdict s ≡ Verdict.Accepted
  unfolding benched
  sheet_accepted = go (verdict s) refl e
    where
      go : (v : Verdict) → verdict s ≡ v → unless v (answered (machine_of s) xs r room) ≡ Done n r' → verdict s ≡ Verdict.Accepted
      go Verdict.Accepted q f = q
      go (Verdict.Refused number place) q f = done_refused f

  pub bench_did : Did (machine_of s) xs r room n r'
  unfolding benched
  bench_did = did (machine_of s) xs r room n r' (sym (accepts s (answered (machine_of s) xs r room) sheet_accepted) ∙ e)

-- where nothing is to be refused the call is done
pub does : (s xs : List ℕ) (r : Run) (room : ℕ) → verdict s ≡ Verdict.Accepted → length xs ≤ most_samples
    → start_accepted (machine_of s) r ≡ true → length (taken (machine_of s) r xs) ≤ room
    → benched s xs r room ≡ Done (length (taken (machine_of s) r xs)) (handed_on (machine_of s) r xs)
unfolding benched
does s xs r room a few ok fits = accepts s (answered (machine_of s) xs r room) a ∙ given_room (machine_of s) xs r room few ok fits

-- what is written is what was taken
pub writes : (s xs : List ℕ) (r : Run) (out : List ℕ) (n : ℕ) (r' : Run) → benched s xs r (length out) ≡ Done n r'
    → take n (benched_left s xs r out) ≡ taken (machine_of s) r xs
unfolding benched_left
writes s xs r out n r' e =
    let t = taken (machine_of s) r xs in
    let d = bench_did s xs r (length out) n r' e in
    ap (λ (b : Benched). take n (left_by b t out)) e
    ∙ ap (λ (k : ℕ). take k (fill t out)) d.count ∙ take-append_seam t (drop (length t) out)
