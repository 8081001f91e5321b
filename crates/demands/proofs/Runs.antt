-- THE BENCH (requests, 3), sentence by sentence, over what its call answers (`benched`) and leaves in the lent words
-- (`benched_left`), which its contract equates; `machine_of` is a sheet's programme run through its chain words. Assumes
-- nothing.
use Prim.Native.Nat.{ℕ, ◌+◌, ◌≤◌, ◌<◌}
use mathlib.Core.Path.{◌≡◌}
use mathlib.Core.Bool.{true, false}
use mathlib.Core.List.{List, [], ◌++◌}
use lib.ListN.{length, take}
use Rattle.lut.specs.declared.Input.TheVariants.{Nothing, Sample, Samples}
use Rattle.peek.specs.Bytes.{Bytes}
use Rattle.sum.specs.Meaning.{sum_means}
use Rattle.sum.specs.Description.{from_bytes}
use Rattle.buffer.specs.declared.Verdict.TheVariants as Verdict
use Rattle.kinds.specs.Table.{TERMS, RANGES, EDGES, SUMS, STATES}
use Rattle.records.specs.Sections.{description_of}
use Rattle.sheet.specs.Reading.{verdict}
use Rattle.sheet.specs.Parsed.{record_with}
use Rattle.programme.specs.Machine.{sources_by, shown, by_rules}
use Rattle.programme.proofs.Theorems as programme
use Rattle.bench.specs.declared.Run.{Run}
use Rattle.bench.specs.declared.Benched.TheVariants.{Done, Refused}
use Rattle.bench.specs.Run.{Subsequence}
use Rattle.bench.specs.Call.{most_samples, machine_of, benched, benched_left}
use Rattle.bench.specs.Handed.{handed_by}
use Rattle.bench.proofs.Theorems as bench

-- ---- refusals

-- the sheet's refusal comes before all else [O8, D1.2]
pub bench_answers_the_refusal : (sheet samples : List ℕ) (run : Run) (room number place : ℕ) → verdict sheet ≡ Verdict.Refused number place
    → benched sheet samples run room ≡ Refused number place
unfolding benched
bench_answers_the_refusal sheet samples run room number place e = rw e

-- a refused call leaves the lent words as they were, and a run's five words too [D1.3, F12]
pub refused_bench_changes_nothing : (sheet samples : List ℕ) (run : Run) (out : List ℕ) (number place : ℕ)
    → benched sheet samples run (length out) ≡ Refused number place
    → (benched_left sheet samples run out ≡ out) × ((words : List ℕ) → handed_by (benched sheet samples run (length out)) words ≡ words)
unfolding benched_left
refused_bench_changes_nothing sheet samples run out number place e = (rw e, λ words. rw e)

-- ---- the sources

module _ (sheet : List ℕ) (b : Bytes sheet) (ok : verdict sheet ≡ Verdict.Accepted) where
  -- each source, worked out through the chain words, is what the plain rule says of the record in its slot: 1 for a hit,
  -- 0 for a miss and where there is no record [D4.1]
  pub sources_are_the_plain_rules : (earlier sample : ℕ) → (machine_of sheet).sources earlier sample
      ≡ sources_by (λ i. shown sheet TERMS i (Sample sample) 0) (λ i. shown sheet RANGES i (Sample sample) 0) (λ i. shown sheet EDGES i (Samples earlier sample) 0)
  unfolding by_rules
  sources_are_the_plain_rules = (programme.through_words_by_rules sheet b ok).on_sources

  -- a sum matches, through its chain words, exactly when its operations say so of the sources [D4.1]
  pub sums_match_as_their_operations_say : (slot sources : ℕ) → (record_with SUMS slot sheet ≡ [] → ⊥)
      → (machine_of sheet).matches slot sources ≡ sum_means (from_bytes (description_of (record_with SUMS slot sheet))) sources
  sums_match_as_their_operations_say = programme.sum_matches sheet b ok

  -- the word of a state is that of its fields, and 1 where there is no record [D4.1, R5]
  pub states_have_their_words : (state : ℕ) → state < 16 → (machine_of sheet).word state ≡ shown sheet STATES state Nothing 1
  unfolding by_rules
  states_have_their_words = (programme.through_words_by_rules sheet b ok).on_words

-- a sum that a sheet has not never matches [R4]
pub missing_sums_never_match : (sheet : List ℕ) (slot sources : ℕ) → record_with SUMS slot sheet ≡ [] → (machine_of sheet).matches slot sources ≡ false
missing_sums_never_match = programme.missing_sum

-- ---- pieces

-- where one call on all samples, which are within its limit, has room, a call on the first piece and then one on the
-- second, with the run that the first handed on, write the same, one after the other, and hand on the same run; each
-- needs room for what it takes itself [D4.2]
pub two_pieces_are_one_run : (sheet xs ys : List ℕ) (run : Run) (out : List ℕ) (n : ℕ) (final : Run)
    → benched sheet (xs ++ ys) run (length out) ≡ Done n final → bench.InPieces sheet xs ys run out n final
two_pieces_are_one_run = bench.two_pieces

-- and back: two such calls are one on all samples, within its limit and given room [D4.2]
pub one_run_is_two_pieces : (sheet xs ys : List ℕ) (run : Run) (out out₁ out₂ : List ℕ) (k j : ℕ) (mid final : Run)
    → benched sheet xs run (length out₁) ≡ Done k mid → benched sheet ys mid (length out₂) ≡ Done j final
    → length (xs ++ ys) ≤ most_samples → k + j ≤ length out → benched sheet (xs ++ ys) run (length out) ≡ Done (k + j) final
one_run_is_two_pieces = bench.one_call

-- ---- what is handed on, and the end

module _ (sheet xs : List ℕ) (run : Run) (out : List ℕ) (n : ℕ) (next : Run) (done : benched sheet xs run (length out) ≡ Done n next) where
  -- a run that was handed on is never refused with 24 [D4.3]
  pub handed_on_is_never_24 : (ys : List ℕ) (room place : ℕ) → benched sheet ys next room ≡ Refused 24 place → ⊥
  handed_on_is_never_24 = bench.handed_on_accepted sheet xs run (length out) n next done

  -- a run that had ended took nothing and was handed on as it was [D4.4]
  pub ended_takes_nothing : run.ended ≡ true → (n ≡ 0) × (next ≡ run)
  ended_takes_nothing = bench.ended_stays sheet xs run (length out) n next done

  -- and once a run has ended, samples behind change nothing [D4.4]
  pub nothing_after_the_end : next.ended ≡ true → (ys : List ℕ) → length (xs ++ ys) ≤ most_samples
      → (benched sheet (xs ++ ys) run (length out) ≡ Done n next) × (benched_left sheet (xs ++ ys) run out ≡ benched_left sheet xs run out)
  nothing_after_the_end h ys few =
      (bench.after_the_end sheet xs ys run out n next done h few, bench.after_the_end_writes sheet xs ys run out n next done h few)

  -- what was written is a subsequence of the samples [D4.5]
  pub written_is_a_subsequence : Subsequence (take n (benched_left sheet xs run out)) xs
  written_is_a_subsequence = bench.written_of_the_samples sheet xs run out n next done
