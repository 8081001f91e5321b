-- A file of samples: its words, and what the bench answers of a fresh run. Assumes nothing.
use Prim.Native.Nat.{ℕ, zero, suc, ◌+◌, ◌≤◌, ◌<◌}
use mathlib.Core.Path.{◌≡◌, refl, sym, ap, ◌∙◌}
use mathlib.Core.Bool.{true}
use mathlib.Core.List.{List, [], ◌∷◌}
use native.Mathlib.Omega.{arith}
use native.Mathlib.Nat.{add-zero}
use lib.ListN.{length, get_or, take}
use Rattle.peek.specs.Fields.{field_of, fields_from, field_bytes}
use Rattle.buffer.specs.declared.Verdict.{Verdict}
use Rattle.sheet.specs.Reading.{verdict}
use Rattle.programme.specs.Machine.{Machine}
use Rattle.bench.specs.declared.Run.{Run}
use Rattle.bench.specs.declared.Benched.{Benched}
use Rattle.bench.specs.declared.Benched.TheVariants.{Done, Refused}
use Rattle.bench.specs.Run.{fresh, start_accepted}
use Rattle.bench.specs.Call.{most_samples, machine_of, benched, benched_left}
use Rattle.bench.proofs.Pieces.{taken_length}
use Rattle.bench.proofs.Standing.{number_within, stands_accepted}
use Rattle.bench.proofs.Succeeding.{does, bench_did, writes}
use Rattle.verbs.specs.Samples.{taken_bytes}

-- ---- the words of a file

pub words_count : (n i : ℕ) (d : List ℕ) → length (fields_from n i d) ≡ n
words_count zero i d = refl
words_count (suc n) i d = ap suc (words_count n (i + 1) d)

-- words that are those of a file, one by one
pub fields_are : (ws : List ℕ) (i : ℕ) (d : List ℕ) → ((k : ℕ) → k < length ws → get_or ws k 0 ≡ field_of d (i + k)) → ws ≡ fields_from (length ws) i d
fields_are [] i d h = refl
fields_are (w ∷ ws) i d h =
    let first : w ≡ field_of d i = rw add-zero at (h 0 (omega arith)) in
    let others : ws ≡ fields_from (length ws) (i + 1) d =
    fields_are ws (i + 1) d
    (λ k l. let next : i + 1 + k ≡ i + suc k = omega arith in h (suc k) (omega arith) ∙ ap (field_of d) (sym next)) in
    cc

-- ---- a fresh run

fresh_accepted : (m : Machine) → start_accepted m fresh ≡ true
fresh_accepted m = stands_accepted m fresh (omega arith, omega (arith, (number_within (m.word 0)).0))

-- it is refused exactly as its sheet is
pub refused_as_its_sheet : (s ws : List ℕ) (room number place : ℕ) → length ws ≤ most_samples → room ≡ most_samples
    → benched s ws fresh room ≡ Refused number place → verdict s ≡ Verdict.Refused number place
unfolding benched
refused_as_its_sheet s ws room number place h l e = go (verdict s) refl
  where
    go : (v : Verdict) → verdict s ≡ v → verdict s ≡ Verdict.Refused number place
    go Verdict.Accepted q =
        let m = machine_of s in
        let done = does s ws fresh room q h (fresh_accepted m) (omega (arith, taken_length m fresh ws)) in
        cc
    go (Verdict.Refused n p) q = q ∙ same (rw q at e)
      where
        same : Refused n p ≡ Refused number place → Verdict.Refused n p ≡ Verdict.Refused number place
        same f = cc

-- what is left of a run, so many words of it, is what capture takes
pub run_takes : (s xs out left : List ℕ) (b : Benched) (n : ℕ) (r : Run) → b ≡ benched s xs fresh (length out) → left ≡ benched_left s xs fresh out
    → b ≡ Done n r → field_bytes (take n left) ≡ taken_bytes s xs
unfolding taken_bytes
run_takes s xs out left b n r answer leaves e = ap field_bytes (ap (take n) leaves ∙ writes s xs fresh out n r (sym answer ∙ e))

pub run_fits : (s xs : List ℕ) (room : ℕ) (b : Benched) (n : ℕ) (r : Run) → b ≡ benched s xs fresh room → b ≡ Done n r → n ≤ room
run_fits s xs room b n r answer e = let d = bench_did s xs fresh room n r (sym answer ∙ e) in omega (arith, d.fits, d.count)
