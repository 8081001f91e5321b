-- A machine that looks its answers up in the table of an accepted sheet answers by the sheet's plain rules. Assumes
-- nothing.
use Prim.Native.Nat.{ℕ, ◌+◌, ◌*◌, ◌^◌, ◌<◌}
use mathlib.Core.Path.{◌≡◌, refl, sym, ap, ap₂, ◌∙◌}
use mathlib.Core.Bool.{false, ◌&&◌}
use mathlib.Core.List.{List, [], ◌∷◌}
use native.Mathlib.Nat.{zero-div}
use native.Mathlib.Omega.{arith}
use lib.Bits.{bit_and, and_zero_r}
use lib.Dec.{eqb, leb, lit<}
use lib.ListN.{get_or}
use Rattle.lines.specs.Line.{line}
use Rattle.lines.proofs.Over.{any_none}
use Rattle.lut.specs.Table.{one_if}
use Rattle.lut.proofs.Tables.{one_is}
use Rattle.lut.specs.declared.Input.TheVariants.{Nothing, Sample, Samples, Sources}
use Rattle.peek.specs.Bytes.{Bytes}
use Rattle.peek.proofs.Numbers.{u32_small}
use Rattle.term.proofs.PlainRule.{term_masked}
use Rattle.range.specs.Rule as range_rule
use Rattle.range.specs.Description as range
use Rattle.edge.specs.Rule.{line_hit, edge_hit}
use Rattle.sum.specs.Words as sum_words
use Rattle.sum.specs.Model.{sum_hit}
use Rattle.sum.specs.Description as sum
use Rattle.state.specs.Description as state
use Rattle.buffer.specs.declared.Verdict.TheVariants.{Accepted}
use Rattle.kinds.specs.Table.{sections, kind_of, most_of, shows_of, entry_of, missing_of, entry_size, TERMS, RANGES, EDGES, SUMS, STATES}
use Rattle.records.specs.Sections.{description_of}
use Rattle.sheet.specs.Reading.{verdict}
use Rattle.sheet.specs.Parsed.{parse, record_with}
use Rattle.sheet.proofs.Slots.{description_bytes, description_sound}
use Rattle.programme.specs.Machine.{shown_by, shown, by_rules, Agree}
use Rattle.programme.specs.Table.{entry_for, table_of, at, term_at, spread_hit, range_at, edge_at, six_at, plain}
use Rattle.programme.proofs.Order.{spread_hits}
use Rattle.programme.proofs.Lookup.{before, entry_at}
use Rattle.programme.proofs.Rules.{sources_same, there}

-- ---- an entry answers as the record's plain rule does; that of no record never hits

term_entry : (r : List ℕ) (x : ℕ) → Bytes (description_of r)
    → one_if (eqb (bit_and x (get_or (entry_for TERMS r) 1 0)) (get_or (entry_for TERMS r) 0 0)) ≡ shown_by TERMS r (Sample x) 0
unfolding entry_for entry_of missing_of shown_by shows_of kind_of
term_entry [] x h = ap (λ (n : ℕ). one_if (eqb n 1)) (and_zero_r x)
term_entry (b ∷ bs) x h = ap one_if (term_masked _ _ x (u32_small (description_of (b ∷ bs)) 4 h))

range_entry_law : (r : List ℕ) (x : ℕ) → ((r ≡ [] → ⊥) → range_rule.Accepted (range.from_bytes (description_of r)))
    → one_if (spread_hit (get_or (entry_for RANGES r) 0 0) (get_or (entry_for RANGES r) 1 0) (get_or (entry_for RANGES r) 2 0) x) ≡ shown_by RANGES r (Sample x) 0
unfolding entry_for entry_of missing_of shown_by shows_of kind_of
range_entry_law [] x a = ap (λ (n : ℕ). one_if (leb 1 n && leb n 0)) (and_zero_r x)
range_entry_law (b ∷ bs) x a = ap one_if (spread_hits _ _ _ x (a (there b bs)))

nothing_asked : (e x : ℕ) → edge_hit 0 0 0 e x ≡ false
nothing_asked e x = any_none 32 (λ i. line_hit (line 0 i) (line 0 i) (line 0 i) (line e i) (line x i)) (λ i h. rw (zero-div (2 ^ i)))

edge_entry_law : (r : List ℕ) (e x : ℕ)
    → one_if (edge_hit (get_or (entry_for EDGES r) 0 0) (get_or (entry_for EDGES r) 1 0) (get_or (entry_for EDGES r) 2 0) e x) ≡ shown_by EDGES r (Samples e x) 0
unfolding entry_for entry_of missing_of shown_by shows_of kind_of
edge_entry_law [] e x = ap one_if (nothing_asked e x)
edge_entry_law (b ∷ bs) e x = refl

-- six numbers as they stand in an entry
abbrev six_of : List ℕ → List ℕ
six_of w = get_or w 0 0 ∷ get_or w 1 0 ∷ get_or w 2 0 ∷ get_or w 3 0 ∷ get_or w 4 0 ∷ get_or w 5 0 ∷ []

sum_entry : (r : List ℕ) (x : ℕ) → sum_hit (six_of (entry_for SUMS r)) x ≡ eqb (shown_by SUMS r (Sources x) 0) 1
unfolding entry_for entry_of missing_of shown_by shows_of kind_of sum.words sum_words.words_of sum_hit
sum_entry [] x = simp zero-div
sum_entry (b ∷ bs) x = sym (one_is _)

state_entry : (r : List ℕ) → get_or (entry_for STATES r) 0 0 ≡ shown_by STATES r Nothing 1
unfolding entry_for entry_of missing_of shown_by shows_of kind_of state.words
state_entry [] = refl
state_entry (b ∷ bs) = refl

-- ---- and stands where it is looked up

module _ (s : List ℕ) where
  -- number j of the entry of a slot of section k, at the index n
  number_at : (k slot j n : ℕ) → k < sections → slot < most_of k → j < entry_size k → n ≡ before k 0 + (slot * entry_size k + j)
      → at (table_of (parse s)) n ≡ get_or (entry_for k (record_with k slot s)) j 0
  number_at k slot j n hk hs hj e = ap (at (table_of (parse s))) e ∙ entry_at (parse s) k slot j hk hs hj

  term_at_law : (x i : ℕ) → i < 10 → Bytes (description_of (record_with TERMS i s)) → one_if (term_at (table_of (parse s)) x i) ≡ shown s TERMS i (Sample x) 0
  unfolding most_of kind_of entry_size missing_of
  term_at_law x i h b =
      ap₂ (λ (m v : ℕ). one_if (eqb (bit_and x m) v)) (number_at TERMS i 1 (2 * i + 1) (lit< tt) h (lit< tt) (omega arith))
      (number_at TERMS i 0 (2 * i) (lit< tt) h (lit< tt) (omega arith))
      ∙ term_entry (record_with TERMS i s) x b

  range_at_law : (x i : ℕ) → i < 2 → ((record_with RANGES i s ≡ [] → ⊥) → range_rule.Accepted (range.from_bytes (description_of (record_with RANGES i s))))
      → one_if (range_at (table_of (parse s)) x i) ≡ shown s RANGES i (Sample x) 0
  unfolding most_of kind_of entry_size missing_of
  range_at_law x i h a =
      ap (λ (low : ℕ). one_if (spread_hit low (at (table_of (parse s)) (21 + 3 * i)) (at (table_of (parse s)) (22 + 3 * i)) x))
      (number_at RANGES i 0 (20 + 3 * i) (lit< tt) h (lit< tt) (omega arith))
      ∙ ap₂ (λ (high mask : ℕ). one_if (spread_hit (get_or (entry_for RANGES (record_with RANGES i s)) 0 0) high mask x))
      (number_at RANGES i 1 (21 + 3 * i) (lit< tt) h (lit< tt) (omega arith)) (number_at RANGES i 2 (22 + 3 * i) (lit< tt) h (lit< tt) (omega arith))
      ∙ range_entry_law (record_with RANGES i s) x a

  edge_at_law : (e x i : ℕ) → i < 2 → one_if (edge_at (table_of (parse s)) e x i) ≡ shown s EDGES i (Samples e x) 0
  unfolding most_of kind_of entry_size missing_of
  edge_at_law e x i h =
      ap (λ (rise : ℕ). one_if (edge_hit rise (at (table_of (parse s)) (27 + 3 * i)) (at (table_of (parse s)) (28 + 3 * i)) e x))
      (number_at EDGES i 0 (26 + 3 * i) (lit< tt) h (lit< tt) (omega arith))
      ∙ ap₂ (λ (fall neither : ℕ). one_if (edge_hit (get_or (entry_for EDGES (record_with EDGES i s)) 0 0) fall neither e x))
      (number_at EDGES i 1 (27 + 3 * i) (lit< tt) h (lit< tt) (omega arith)) (number_at EDGES i 2 (28 + 3 * i) (lit< tt) h (lit< tt) (omega arith))
      ∙ edge_entry_law (record_with EDGES i s) e x

  six_at_law : (slot : ℕ) → slot < 48 → six_at (table_of (parse s)) (32 + 6 * slot) ≡ six_of (entry_for SUMS (record_with SUMS slot s))
  unfolding six_at most_of kind_of entry_size missing_of
  six_at_law slot h =
      let at_j : (j n : ℕ) → j < 6 → n ≡ 32 + (slot * 6 + j) → at (table_of (parse s)) n ≡ get_or (entry_for SUMS (record_with SUMS slot s)) j 0 =
      λ j n hj e. number_at SUMS slot j n (lit< tt) h hj e in
      ap₂ ◌∷◌ (at_j 0 (32 + 6 * slot) (lit< tt) (omega arith))
      (ap₂ ◌∷◌ (at_j 1 (32 + 6 * slot + 1) (lit< tt) (omega arith))
      (ap₂ ◌∷◌ (at_j 2 (32 + 6 * slot + 2) (lit< tt) (omega arith))
      (ap₂ ◌∷◌ (at_j 3 (32 + 6 * slot + 3) (lit< tt) (omega arith))
      (ap₂ ◌∷◌ (at_j 4 (32 + 6 * slot + 4) (lit< tt) (omega arith))
      (ap₂ ◌∷◌ (at_j 5 (32 + 6 * slot + 5) (lit< tt) (omega arith)) refl)))))

  sum_at : (slot x : ℕ) → slot < 48 → sum_hit (six_at (table_of (parse s)) (32 + 6 * slot)) x ≡ eqb (shown s SUMS slot (Sources x) 0) 1
  sum_at slot x h = ap (λ (w : List ℕ). sum_hit w x) (six_at_law slot h) ∙ sum_entry (record_with SUMS slot s) x

  state_at : (state : ℕ) → state < 16 → at (table_of (parse s)) (320 + state) ≡ shown s STATES state Nothing 1
  unfolding most_of kind_of entry_size missing_of
  state_at q h = number_at STATES q 0 (320 + q) (lit< tt) h (lit< tt) (omega arith) ∙ state_entry (record_with STATES q s)

  pub table_by_rules : Bytes s → verdict s ≡ Accepted → Agree (plain (table_of (parse s))) (by_rules s)
  unfolding plain by_rules
  table_by_rules b ok =
      record {
        on_sources =
            λ e x.
            sources_same _ _ _ _ _ _ (λ i h. term_at_law x i h (description_bytes s b ok TERMS i (lit< tt)))
            (λ i h. range_at_law x i h (description_sound s b ok RANGES i (lit< tt))) (λ i h. edge_at_law e x i h);
        on_sums = λ slot x h. sum_at slot x h;
        on_words = λ q h. state_at q h;
      }
