-- The chain words of an accepted sheet, run in the model, answer as its plain rules do. Assumes nothing.
use Prim.Native.Nat.{ℕ, suc, ◌-◌, ◌<◌}
use mathlib.Core.Path.{◌≡◌, refl, ap, ◌∙◌}
use mathlib.Core.Bool.{Bool, true, false}
use mathlib.Core.List.{List, [], ◌∷◌}
use native.Mathlib.Decide.{dec_lt}
use native.Mathlib.Omega.{arith}
use borrow.Author.Tests.{lt-ltb, le-ltb}
use lib.Dec.{eqb, lit<}
use lib.ListN.{length, get_or}
use Rattle.lines.proofs.Digit.{lines_equal}
use Rattle.lut.specs.Table.{one_if}
use Rattle.lut.specs.Answer.{hit_or_miss, answer_hit}
use Rattle.lut.specs.declared.Answer.{Answer}
use Rattle.lut.specs.declared.Input.TheVariants.{Nothing, Sample, Samples, Sources}
use Rattle.lut.proofs.Runs.{run_needed}
use Rattle.lut.proofs.Tables.{one_is}
use Rattle.peek.specs.Bytes.{Bytes}
use Rattle.term.specs.Rule as term_rule
use Rattle.term.specs.Description as term
use Rattle.term.specs.Model.{run_term}
use Rattle.range.specs.Rule as range_rule
use Rattle.range.specs.Description as range
use Rattle.range.specs.Model.{run_range}
use Rattle.edge.specs.Rule as edge_rule
use Rattle.edge.specs.Description as edge
use Rattle.edge.specs.Model.{run_edge}
use Rattle.sum.specs.Model.{run_sum, sum_hit}
use Rattle.sum.specs.Words as sum_words
use Rattle.sum.specs.Description as sum
use Rattle.sum.specs.Meaning.{sum_means}
use Rattle.buffer.specs.declared.Verdict.TheVariants.{Accepted}
use Rattle.kinds.specs.Table.{sections, kind_of, words_of, shows_of, TERMS, RANGES, EDGES, SUMS, STATES}
use Rattle.kinds.proofs.Ways.{chains_flat}
use Rattle.records.specs.Sections.{description_of}
use Rattle.sheet.specs.Reading.{verdict}
use Rattle.sheet.specs.Parsed.{record_with, AcceptedDescription}
use Rattle.sheet.proofs.Slots.{description_bytes, description_whole, description_sound}
use Rattle.sheet.proofs.Theorems.{description_iff}
use Rattle.compiler.proofs.Theorems.{term_hits, range_hits, edge_hits, sum_hits, state_words}
use Rattle.programme.specs.Programme.{words_for, programme_of}
use Rattle.programme.specs.Machine.{source_by, sources_by, through_words, shown_by, by_rules, Agree}

-- ---- sixteen sources are equal where each of them is

pub sources_same : (t t' r r' e e' : ℕ → ℕ) → ((i : ℕ) → i < 10 → t i ≡ t' i) → ((i : ℕ) → i < 2 → r i ≡ r' i) → ((i : ℕ) → i < 2 → e i ≡ e' i)
    → sources_by t r e ≡ sources_by t' r' e'
unfolding sources_by
sources_same t t' r r' e e' ht hr he = lines_equal 16 _ _ (λ i h. go i (dec_lt i 10) (dec_lt i 12) (dec_lt i 14))
  where
    go : (i : ℕ) → Dec (i < 10) → Dec (i < 12) → Dec (i < 14) → source_by t r e i ≡ source_by t' r' e' i
    go i (yes a) b c = rw (lt-ltb i 10 a) (ht i a)
    go i (no a) (yes b) c = rw (le-ltb i 10 (omega arith), lt-ltb i 12 b) (hr (i - 10) (omega arith))
    go i (no a) (no b) (yes c) = rw (le-ltb i 10 (omega arith), le-ltb i 12 (omega arith), lt-ltb i 14 c) (he (i - 12) (omega arith))
    go i (no a) (no b) (no c) = rw (le-ltb i 10 (omega arith), le-ltb i 12 (omega arith), le-ltb i 14 (omega arith))

-- ---- record by record: its words in the model, and the plain rule

hit_number : (b : Bool) → answer_hit (hit_or_miss b) ≡ one_if b
hit_number true = refl
hit_number false = refl

answers : (a : Answer) (b : Bool) → a ≡ hit_or_miss b → answer_hit a ≡ one_if b
answers a b e = ap answer_hit e ∙ hit_number b

term_shown : (r : List ℕ) (x : ℕ) → answer_hit (run_term (words_for TERMS r) x) ≡ shown_by TERMS r (Sample x) 0
unfolding words_for shown_by shows_of kind_of
term_shown [] x = refl
term_shown (b ∷ bs) x =
    let d : List ℕ = description_of (b ∷ bs) in
    answers _ (term_rule.hit (term.from_bytes d) (Sample x)) (term_hits d x)

-- a record that has a byte is there
pub there : (b : ℕ) (bs : List ℕ) → b ∷ bs ≡ [] → ⊥
there b bs e = let z : suc (length bs) ≡ 0 = ap length e in omega arith

range_shown : (r : List ℕ) (x : ℕ) → ((r ≡ [] → ⊥) → AcceptedDescription RANGES (description_of r))
    → answer_hit (run_range (words_for RANGES r) x) ≡ shown_by RANGES r (Sample x) 0
unfolding words_for shown_by shows_of kind_of
range_shown [] x a = refl
range_shown (b ∷ bs) x a =
    let d : List ℕ = description_of (b ∷ bs) in
    answers _ (range_rule.hit (range.from_bytes d) (Sample x)) (range_hits d (a (there b bs)) x)

edge_shown : (r : List ℕ) (e x : ℕ) → answer_hit (run_edge (words_for EDGES r) e x) ≡ shown_by EDGES r (Samples e x) 0
unfolding words_for shown_by shows_of kind_of
edge_shown [] e x = refl
edge_shown (b ∷ bs) e x =
    let d : List ℕ = description_of (b ∷ bs) in
    answers _ (edge_rule.hit (edge.from_bytes d) (Samples e x)) (edge_hits d e x)

-- a sum has no plain rule but its model
sum_shown : (r : List ℕ) (x : ℕ) → answer_hit (run_sum (words_for SUMS r) x) ≡ shown_by SUMS r (Sources x) 0
unfolding words_for shown_by shows_of kind_of words_of sum.words sum_words.words_of
sum_shown [] x = refl
sum_shown (b ∷ bs) x =
    let d : List ℕ = description_of (b ∷ bs) in
    let words : List ℕ = sum_words.words_of (sum.from_bytes d) in
    ap (λ (ws : List ℕ). answer_hit (run_sum ws x)) (chains_flat SUMS d)
    ∙ answers _ (sum_hit words x) (run_needed 6 words (sum_hit words x) (sum_hit words x) refl refl)

-- but its words do what its operations mean
pub sum_means_law : (r : List ℕ) (x : ℕ) → (r ≡ [] → ⊥) → AcceptedDescription SUMS (description_of r)
    → eqb (answer_hit (run_sum (words_for SUMS r) x)) 1 ≡ sum_means (sum.from_bytes (description_of r)) x
unfolding words_for
sum_means_law [] x n a = absurd (n refl)
sum_means_law (b ∷ bs) x n a =
    let d : List ℕ = description_of (b ∷ bs) in
    ap (λ (k : ℕ). eqb k 1) (answers _ (sum_means (sum.from_bytes (description_of (b ∷ bs))) x) (sum_hits d a x)) ∙ one_is (sum_means (sum.from_bytes (description_of (b ∷ bs))) x)

state_shown : (r : List ℕ) → get_or (words_for STATES r) 0 1 ≡ shown_by STATES r Nothing 1
unfolding words_for shown_by shows_of kind_of
state_shown [] = refl
state_shown (b ∷ bs) = ap (λ (ws : List ℕ). get_or ws 0 1) (state_words (description_of (b ∷ bs)))

-- ---- the machines

module _ (s : List ℕ) (b : Bytes s) (ok : verdict s ≡ Accepted) where
  -- the description in a slot is one of an accepted sheet
  pub slot_accepted : (k slot : ℕ) → k < sections → (record_with k slot s ≡ [] → ⊥) → AcceptedDescription k (description_of (record_with k slot s))
  slot_accepted k slot h has =
      (description_iff k (description_of (record_with k slot s)) h (description_bytes s b ok k slot h)).1
      (description_whole s b ok k slot h has, description_sound s b ok k slot h has)

  pub words_by_rules : Agree (through_words (programme_of s)) (by_rules s)
  unfolding through_words programme_of by_rules
  words_by_rules =
      record {
        on_sources =
            λ e x.
            sources_same _ _ _ _ _ _ (λ i h. term_shown (record_with TERMS i s) x)
            (λ i h. range_shown (record_with RANGES i s) x (slot_accepted RANGES i (lit< tt))) (λ i h. edge_shown (record_with EDGES i s) e x);
        on_sums = λ slot x h. ap (λ (n : ℕ). eqb n 1) (sum_shown (record_with SUMS slot s) x);
        on_words = λ state h. state_shown (record_with STATES state s);
      }
