-- A run in five words is done only where the words are five. Assumes nothing.
use Rattle.std.proofs.Common.{◌≡◌, ℕ, Bool, true, false, ◌&&◌, ◌||◌, List, length, get_or, eqb, ltb, sym, refl, ◌∙◌}
use borrow.Author.Tests.{eqb-true}
use mathlib.Core.Bool.{true≢false}
use Rattle.lines.proofs.Truth.{both_true}
use Rattle.bench.specs.declared.Run.{Run}
use Rattle.bench.specs.declared.Benched.TheVariants.{Done}
use Rattle.bench.specs.Run.{start_accepted}
use Rattle.bench.specs.Call.{machine_of, benched}
use Rattle.bench.specs.Handed.{is_run, run_of}
use Rattle.bench.proofs.Succeeding.{bench_did}

run_count : (ws : List ℕ) → is_run ws ≡ true → length ws ≡ 5
unfolding is_run
run_count ws e = eqb-true _ _ (both_true (eqb (length ws) 5) (ltb (get_or ws 2 0) 2 && ltb (get_or ws 4 0) 2 && (eqb (get_or ws 2 0) 1 || eqb (get_or ws 3 0) 0)) e).0

-- a run that no words are is refused, so the words of a call that is done are five
pub done_count : (s xs ws : List ℕ) (room n : ℕ) (r : Run) → Done n r ≡ benched s xs (run_of ws) room → length ws ≡ 5
unfolding run_of start_accepted
done_count s xs ws room n r e = go (is_run ws) refl
  where
    go : (c : Bool) → is_run ws ≡ c → length ws ≡ 5
    go true q = run_count ws q
    go false q =
        let no_start : start_accepted (machine_of s) (run_of ws) ≡ false = rw q in
        absurd (true≢false (sym (bench_did s xs (run_of ws) room n r (sym e)).start ∙ no_start))
