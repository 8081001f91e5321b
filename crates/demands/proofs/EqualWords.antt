-- Equal chain words and equal behaviour, of two accepted descriptions of one section. A description's chain words are
-- `chain_words_of`, the numbers of the load commands that the compiler writes for it. Assumes nothing.
use Prim.Native.Nat.{ℕ}
use mathlib.Core.Path.{◌≡◌, sym, ◌∙◌}
use mathlib.Core.List.{List}
use mathlib.Core.Logic.{◌↔◌}
use Rattle.lut.specs.Telling.{HitAlike}
use Rattle.lut.proofs.Asked.{alike_in_numbers}
use Rattle.term.specs.Description as term
use Rattle.term.specs.Rule as term_rule
use Rattle.term.proofs.Theorems as term_theorems
use Rattle.range.specs.Description as range
use Rattle.range.specs.Rule as range_rule
use Rattle.range.specs.Words.{words_of}
use Rattle.range.proofs.Theorems as range_theorems
use Rattle.range_telling.specs.Reduce.{reduce_of}
use Rattle.range_telling.specs.Matter.{DroppedWords}
use Rattle.range_telling.proofs.Theorems as telling_theorems
use Rattle.edge.specs.Description as edge
use Rattle.edge.specs.Rule as edge_rule
use Rattle.edge.proofs.Theorems as edge_theorems
use Rattle.state.specs.Description as state
use Rattle.state.proofs.Theorems as state_theorems
use Rattle.kinds.specs.Table as table
use Rattle.kinds.specs.Table.{TERMS, RANGES, EDGES, STATES, Accepted, shows_of}
use Rattle.kinds.proofs.Ways.{chains_flat, faultless_iff_accepted}
use Rattle.sheet.specs.Parsed.{AcceptedDescription}
use Rattle.sheet.proofs.Descriptions.{description_known, description_sound, description_bytes}
use Rattle.compiler.specs.Chains.{chain_words_of}

accepted : (k : ℕ) (d : List ℕ) → AcceptedDescription k d → Accepted k d
accepted k d a =
    let sound = description_sound k d a in
    (faultless_iff_accepted k (description_known k d a) d (description_bytes k d a) sound.0).0 sound.1

-- the words of the chains are the words
flat : (k : ℕ) (d e : List ℕ) → chain_words_of k d ≡ chain_words_of k e → table.words_of k d ≡ table.words_of k e
flat k d e q = sym (chains_flat k d) ∙ q ∙ chains_flat k e

chained : (k : ℕ) (d e : List ℕ) → table.words_of k d ≡ table.words_of k e → chain_words_of k d ≡ chain_words_of k e
chained k d e q = chains_flat k d ∙ q ∙ sym (chains_flat k e)

-- patterns
pub patterns_alike : (d e : List ℕ) → AcceptedDescription TERMS d → AcceptedDescription TERMS e
    → (chain_words_of TERMS d ≡ chain_words_of TERMS e) ↔ HitAlike (shows_of TERMS d) (shows_of TERMS e)
unfolding table.words_of shows_of table.kind_of term.words
patterns_alike d e a b =
    let t = term_theorems.equal_words_iff_alike (term.from_bytes d) (term.from_bytes e) (accepted TERMS d a) (accepted TERMS e b) in
    let n = alike_in_numbers (term_rule.hit (term.from_bytes d)) (term_rule.hit (term.from_bytes e)) in
    ((λ q. n.1 (t.0 (flat TERMS d e q))), (λ h. chained TERMS d e (t.1 (n.0 h))))

-- edges
pub edges_alike : (d e : List ℕ) → AcceptedDescription EDGES d → AcceptedDescription EDGES e
    → (chain_words_of EDGES d ≡ chain_words_of EDGES e) ↔ HitAlike (shows_of EDGES d) (shows_of EDGES e)
unfolding table.words_of shows_of table.kind_of edge.words
edges_alike d e a b =
    let t = edge_theorems.equal_words_iff_alike (edge.from_bytes d) (edge.from_bytes e) (accepted EDGES d a) (accepted EDGES e b) in
    let n = alike_in_numbers (edge_rule.hit (edge.from_bytes d)) (edge_rule.hit (edge.from_bytes e)) in
    ((λ q. n.1 (t.0 (flat EDGES d e q))), (λ h. chained EDGES d e (t.1 (n.0 h))))

-- states: their fields
pub states_same : (d e : List ℕ) → AcceptedDescription STATES d → AcceptedDescription STATES e
    → (chain_words_of STATES d ≡ chain_words_of STATES e) ↔ (state.from_bytes d ≡ state.from_bytes e)
unfolding table.words_of table.kind_of state.words
states_same d e a b =
    let t = state_theorems.equal_words_iff_same (state.from_bytes d) (state.from_bytes e) (accepted STATES d a) (accepted STATES e b) in
    ((λ q. t.0 (flat STATES d e q)), (λ h. chained STATES d e (t.1 h)))

module _ (d e : List ℕ) (a : AcceptedDescription RANGES d) (b : AcceptedDescription RANGES e) where
  in_numbers_law : HitAlike (shows_of RANGES d) (shows_of RANGES e) ↔ HitAlike (range_rule.hit (range.from_bytes d)) (range_rule.hit (range.from_bytes e))
  unfolding shows_of table.kind_of
  in_numbers_law = alike_in_numbers (range_rule.hit (range.from_bytes d)) (range_rule.hit (range.from_bytes e))

  -- ranges as they are
  pub ranges_alike : chain_words_of RANGES d ≡ chain_words_of RANGES e → HitAlike (shows_of RANGES d) (shows_of RANGES e)
  unfolding table.words_of shows_of table.kind_of range.words
  ranges_alike q =
      in_numbers_law.1
      (range_theorems.equal_words_alike (range.from_bytes d) (range.from_bytes e) (accepted RANGES d a) (accepted RANGES e b) (flat RANGES d e q))

  -- ranges with the lines dropped that cannot matter
  pub dropped_alike : (ws vs : List ℕ) → DroppedWords (range.from_bytes d) ws → DroppedWords (range.from_bytes e) vs
      → (ws ≡ vs) ↔ HitAlike (shows_of RANGES d) (shows_of RANGES e)
  unfolding shows_of table.kind_of
  dropped_alike ws vs dropped undone =
      let t = telling_theorems.equal_dropped_words_iff_alike (range.from_bytes d) (range.from_bytes e) (accepted RANGES d a) (accepted RANGES e b) ws vs dropped undone in
      ((λ q. in_numbers_law.1 (t.0 q)), (λ h. t.1 (in_numbers_law.0 h)))

-- every accepted range has words with those lines dropped: those of the range that is left
pub dropped_words_are : (d ws : List ℕ) → AcceptedDescription RANGES d → DroppedWords (range.from_bytes d) ws ↔ (ws ≡ words_of (reduce_of (range.from_bytes d)))
dropped_words_are d ws a = telling_theorems.dropped_exactly (range.from_bytes d) (accepted RANGES d a) ws
