-- What is promised of a programme. Assumes nothing.
use Prim.Native.Nat.{ℕ}
use mathlib.Core.Path.{◌≡◌, sym, ap, ◌∙◌}
use mathlib.Core.Bool.{false}
use mathlib.Core.List.{List, []}
use lib.Dec.{eqb, lit<}
use lib.ListN.{length}
use Rattle.lut.specs.Answer.{answer_hit}
use Rattle.sum.specs.Model.{run_sum}
use Rattle.sum.specs.Meaning.{sum_means}
use Rattle.sum.specs.Description as sum
use Rattle.peek.specs.Bytes.{Bytes}
use Rattle.buffer.specs.declared.Verdict.TheVariants.{Accepted}
use Rattle.kinds.specs.Table.{most_of, kind_of, entry_size, missing_of, SUMS}
use Rattle.records.specs.Sections.{description_of}
use Rattle.sheet.specs.Reading.{verdict}
use Rattle.sheet.specs.Parsed.{parse, record_with}
use Rattle.programme.specs.Programme.{words_for, programme_of}
use Rattle.programme.specs.Machine.{through_words, by_rules, Agree}
use Rattle.programme.specs.Table.{table_of, table_length, plain}
use Rattle.programme.proofs.Lookup.{table_count}
use Rattle.programme.proofs.Rules.{slot_accepted, words_by_rules, sum_means_law}
use Rattle.programme.proofs.Looked.{table_by_rules}

-- the table of any sheet has 336 numbers [R11]
pub table_length_law : (p : List (List (List ℕ))) → length (table_of p) ≡ table_length
unfolding most_of kind_of entry_size missing_of
table_length_law p = table_count p

-- a sum that a sheet has not never matches [R4]
pub missing_sum : (s : List ℕ) (slot sources : ℕ) → record_with SUMS slot s ≡ [] → (through_words (programme_of s)).matches slot sources ≡ false
unfolding through_words programme_of words_for
missing_sum s slot sources none = ap (λ (r : List ℕ). eqb (answer_hit (run_sum (words_for SUMS r) sources)) 1) none

module _ (s : List ℕ) (b : Bytes s) (ok : verdict s ≡ Accepted) where
  -- an accepted sheet's programme, run through its chain words, answers by the plain rules [D4.1]
  pub through_words_by_rules : Agree (through_words (programme_of s)) (by_rules s)
  through_words_by_rules = words_by_rules s b ok

  -- a sum that it has matches exactly when its operations say so [D4.1, R4, W16]
  pub sum_matches : (slot sources : ℕ) → (record_with SUMS slot s ≡ [] → ⊥)
      → (through_words (programme_of s)).matches slot sources ≡ sum_means (sum.from_bytes (description_of (record_with SUMS slot s))) sources
  unfolding through_words programme_of
  sum_matches slot sources has = sum_means_law (record_with SUMS slot s) sources has (slot_accepted s b ok SUMS slot (lit< tt) has)

  -- and so does a machine that looks its answers up in the sheet's table [R11]
  pub agrees : Agree (plain (table_of (parse s))) (through_words (programme_of s))
  agrees =
      let t = table_by_rules s b ok in
      let w = through_words_by_rules in
      record {
        on_sources = λ e x. t.on_sources e x ∙ sym (w.on_sources e x);
        on_sums = λ slot x h. t.on_sums slot x h ∙ sym (w.on_sums slot x h);
        on_words = λ q h. t.on_words q h ∙ sym (w.on_words q h);
      }
