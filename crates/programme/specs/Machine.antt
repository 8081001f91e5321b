-- What a programme answers when its chain words are run in the model.
use Rattle.std.specs.Prelude.{ℕ, ◌-◌, ◌<◌, Bool, cond, List, [], ◌∷◌, ◌≡◌, eqb, ltb, get_or}
use Rattle.lines.specs.Line.{from_lines}
use Rattle.lut.specs.Answer.{answer_hit}
use Rattle.term.specs.Model.{run_term}
use Rattle.range.specs.Model.{run_range}
use Rattle.edge.specs.Model.{run_edge}
use Rattle.sum.specs.Model.{run_sum}
use Rattle.lut.specs.declared.Input.{Input}
use Rattle.lut.specs.declared.Input.TheVariants.{Nothing, Sample, Samples, Sources}
use Rattle.kinds.specs.Table.{TERMS, RANGES, EDGES, SUMS, STATES, shows_of}
use Rattle.records.specs.Sections.{description_of}
use Rattle.sheet.specs.Parsed.{record_with}
use Rattle.programme.specs.Programme.{Programme}

-- what is asked of a programme: the sixteen sources on an earlier word and a sample, whether the sum in a slot matches
-- on sources, and the word of a state [R2, R4, R5]
pub record Machine : Type 0 where
  pub sources : (earlier sample : ℕ) → ℕ
  pub matches : (slot sources : ℕ) → Bool
  pub word : (state : ℕ) → ℕ

-- source i, 1 or 0: ten terms, two ranges, two edges, each by its slot; the two timers are 0 [M6, R2]
abbrev pub source_by : (terms ranges edges : ℕ → ℕ) (i : ℕ) → ℕ
source_by terms ranges edges i =
    cond (ltb i 10) (terms i) (cond (ltb i 12) (ranges (i - 10)) (cond (ltb i 14) (edges (i - 12)) 0))

-- all sixteen as a number, source i at bit i [M6, R2]
unfoldable pub sources_by : (terms ranges edges : ℕ → ℕ) → ℕ
sources_by terms ranges edges = from_lines 16 (source_by terms ranges edges)

-- a programme run through its chain words: each source and each sum as the model answers, where a slot without words
-- has the wrong count and so never hits; a missing state's word is 1: number 1, else state 0, no flags [M1, R2, R4, R5]
unfoldable pub through_words : Programme → Machine
through_words p =
    record {
      sources =
          λ earlier sample.
          sources_by (λ i. answer_hit (run_term (p TERMS i) sample)) (λ i. answer_hit (run_range (p RANGES i) sample))
          (λ i. answer_hit (run_edge (p EDGES i) earlier sample));
      matches = λ slot sources. eqb (answer_hit (run_sum (p SUMS slot) sources)) 1;
      word = λ state. get_or (p STATES state) 0 1;
    }

-- what a record of section k shows on an input, by the plain rules; this number where there is no record [G16, B7, D4.1]
unfoldable pub shown_by : (k : ℕ) (r : List ℕ) → Input → (missing : ℕ) → ℕ
shown_by k [] input missing = missing
shown_by k (b ∷ bs) input missing = shows_of k (description_of (b ∷ bs)) input

-- what a sheet shows on an input in a slot of section k, by the plain rules [G9, G16, D4.1]
abbrev pub shown : (sheet : List ℕ) (k slot : ℕ) → Input → (missing : ℕ) → ℕ
shown s k slot input missing = shown_by k (record_with k slot s) input missing

-- a sheet by the plain rules: each term, range and edge, each sum and each state as what the sheet has in its slot;
-- theorem through_words_by_rules has it that this is the sheet's programme run through its chain words [D4.1]
unfoldable pub by_rules : (sheet : List ℕ) → Machine
by_rules s =
    record {
      sources =
          λ earlier sample.
          sources_by (λ i. shown s TERMS i (Sample sample) 0) (λ i. shown s RANGES i (Sample sample) 0)
          (λ i. shown s EDGES i (Samples earlier sample) 0);
      matches = λ slot sources. eqb (shown s SUMS slot (Sources sources) 0) 1;
      word = λ state. shown s STATES state Nothing 1;
    }

-- two machines answer alike on every sample, for the 48 sums and for the 16 states [R2, R4, R5]
pub record Agree (m n : Machine) : Type 0 where
  pub on_sources : (earlier sample : ℕ) → m.sources earlier sample ≡ n.sources earlier sample
  pub on_sums : (slot sources : ℕ) → slot < 48 → m.matches slot sources ≡ n.matches slot sources
  pub on_words : (state : ℕ) → state < 16 → m.word state ≡ n.word state
