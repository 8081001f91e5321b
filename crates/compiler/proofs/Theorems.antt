-- What is promised of the compiler, each under the rule that asks for it. Assumes nothing.
use Prim.Native.Nat.{ℕ, suc, ◌+◌, ◌*◌, ◌≤◌, ◌<◌}
use mathlib.Core.Path.{◌≡◌, refl, ap, ap₂, ◌∙◌}
use mathlib.Core.List.{List, [], ◌∷◌, map}
use native.Mathlib.Nat.{mul-le-mul_right}
use native.Mathlib.Omega.{arith}
use borrow.Author.Tests.{lt-leb}
use lib.Dec.{lit<}
use lib.ListN.{length, get_or, take, drop, length-append}
use lib.Seq.{take-append_seam}
use Rattle.lut.specs.Answer.{hit_or_miss}
use Rattle.lut.specs.declared.Input.TheVariants.{Sample, Samples}
use Rattle.peek.specs.Bytes.{Bytes}
use Rattle.buffer.specs.Room.{Delivered}
use Rattle.buffer.specs.declared.Outcome.{Outcome}
use Rattle.buffer.specs.declared.Outcome.TheVariants.{Done, Refused}
use Rattle.buffer.specs.declared.Verdict.TheVariants as Verdict
use Rattle.buffer.proofs.Writing.{answered, filled}
use Rattle.records.specs.Sections.{description_of}
use Rattle.sheet.specs.Reading.{verdict}
use Rattle.sheet.specs.Parsed.{WellFormed, parse, AcceptedDescription}
use Rattle.sheet.proofs.Descriptions.{description_accepted}
use Rattle.sheet.proofs.Examples.{full, full_accepted, full_counts}
use Rattle.sheet.proofs.Theorems.{section_count, section_record}
use Rattle.term.specs.Model.{run_term}
use Rattle.term.specs.Description as term_kind
use Rattle.term.specs.Rule as term_rule
use Rattle.term.proofs.Theorems as term
use Rattle.range.specs.Model.{run_range}
use Rattle.range.specs.Description as range_kind
use Rattle.range.specs.Rule as range_rule
use Rattle.range.proofs.Theorems as range
use Rattle.edge.specs.Model.{run_edge}
use Rattle.edge.specs.Description as edge_kind
use Rattle.edge.specs.Rule as edge_rule
use Rattle.edge.proofs.Theorems as edge
use Rattle.sum.specs.Meaning.{sum_means}
use Rattle.sum.specs.Model.{run_sum}
use Rattle.sum.specs.Description as sum_kind
use Rattle.sum.proofs.Theorems as sum
use Rattle.state.specs.Words.{words_of}
use Rattle.state.specs.Description as state_kind
use Rattle.kinds.specs.Table as table
use Rattle.kinds.specs.Table.{TERMS, RANGES, EDGES, SUMS, STATES, sections, kind_of, most_of, sending_order}
use Rattle.kinds.proofs.Ways.{chains_flat}
use Rattle.compiler.specs.Items.{item_size}
use Rattle.compiler.specs.Stream.{stream_of, longest_by, longest_stream, compiled}
use Rattle.compiler.specs.Chains.{Loaded, sheet_loads, chain_words_of}
use Rattle.compiler.proofs.Joined.{items, sent, stream_sent}
use Rattle.kinds.proofs.Addresses.{sent_known}
use Rattle.compiler.proofs.StreamLaws.{items_length, part_most}
use Rattle.compiler.proofs.Rising.{stream_climbs}
use Rattle.compiler.specs.Sent.{record_of, SentAt, stream_words}
use Rattle.compiler.proofs.Held.{record_sent}

-- ---- what the call does

-- given room, an accepted sheet's commands are written and their length is answered, which rules out a compiler that
-- refuses all, writes the same for all or nothing at all, or answers another length [D2.1, K3]
pub accepted_written : (s room : List ℕ) (r : Outcome) (room' : List ℕ) → verdict s ≡ Verdict.Accepted → length (stream_of (parse s)) ≤ length room
    → Delivered (compiled s) room r room' → (r ≡ Done (length (stream_of (parse s)))) × (take (length (stream_of (parse s))) room' ≡ stream_of (parse s))
accepted_written s room r room' ok fits d =
    let bs = stream_of (parse s) in
    let d' = rw ok at d in
    (answered bs room r room' fits d', rw (filled bs room r room' fits d') (take-append_seam bs (drop (length bs) room)))

-- a refused sheet is answered by its refusal, and the room stays as it was [D1.2, D1.3]
pub refused_unchanged : (s room : List ℕ) (r : Outcome) (room' : List ℕ) (number place : ℕ) → verdict s ≡ Verdict.Refused number place
    → Delivered (compiled s) room r room' → (r ≡ Refused number place) × (room' ≡ room)
refused_unchanged s room r room' number place e d = let d' = rw e at d in (d'.answer, d'.left)

-- with too little room the answer is 12 and the length needed, and the room stays as it was [F12, A2]
pub short_unchanged : (s room : List ℕ) (r : Outcome) (room' : List ℕ) → verdict s ≡ Verdict.Accepted → length room < length (stream_of (parse s))
    → Delivered (compiled s) room r room' → (r ≡ Refused 12 (length (stream_of (parse s)))) × (room' ≡ room)
short_unchanged s room r room' ok short d =
    let d' = rw ok at d in (d'.answer ∙ simp (lt-leb _ _ short), d'.left ∙ simp (lt-leb _ _ short))

-- ---- lengths

-- how long they are
sent_size : List ℕ → List (List (List ℕ)) → ℕ
sent_size [] p = 0
sent_size (k ∷ ks) p = length (get_or p k []) * item_size k + sent_size ks p

sent_length : (order : List ℕ) (p : List (List (List ℕ))) → length (sent order p) ≡ sent_size order p
unfolding sent sent_size
sent_length [] p = refl
sent_length (k ∷ ks) p = length-append (items k (get_or p k [])) (sent ks p) ∙ ap₂ ◌+◌ (items_length k (get_or p k [])) (sent_length ks p)

sent_at_most : (s : List ℕ) → verdict s ≡ Verdict.Accepted → (order : List ℕ) → ((i : ℕ) → i < length order → get_or order i 0 < sections)
    → sent_size order (parse s) ≤ longest_by order
unfolding sent_size longest_by
sent_at_most s ok [] h = omega arith
sent_at_most s ok (k ∷ ks) h =
    let few : length (get_or (parse s) k []) * item_size k ≤ most_of k * item_size k = mul-le-mul_right (item_size k) (part_most s ok k (h 0 (omega arith))) in
    omega (arith, few, sent_at_most s ok ks (λ i l. h (suc i) (omega arith)))

sent_full : (order : List ℕ) → ((i : ℕ) → i < length order → get_or order i 0 < sections) → sent_size order (parse full) ≡ longest_by order
unfolding sent_size longest_by
sent_full [] h = refl
sent_full (k ∷ ks) h =
    ap₂ (λ (n rest : ℕ). n * item_size k + rest) (full_counts k (h 0 (omega arith))) (sent_full ks (λ i l. h (suc i) (omega arith)))

-- no sheet makes more bytes than the most, [W18, A9]
pub at_most : (s : List ℕ) → verdict s ≡ Verdict.Accepted → length (stream_of (parse s)) ≤ longest_stream
at_most s ok = rw (stream_sent (parse s), sent_length sending_order (parse s)) (sent_at_most s ok sending_order sent_known)

-- and the full one makes as many [W18]
pub full_has : (verdict full ≡ Verdict.Accepted) × (length (stream_of (parse full)) ≡ longest_stream)
full_has = (full_accepted, ap length (stream_sent (parse full)) ∙ sent_length sending_order (parse full) ∙ sent_full sending_order sent_known)

-- ---- order

-- the chains of a sheet are loaded by rising address [W17]
pub addresses_rise : (p : List (List (List ℕ))) → WellFormed p → (i j : ℕ) → i < j → j < length (sheet_loads p)
    → get_or (map (λ (c : Loaded). c.address) (sheet_loads p)) i 0 < get_or (map (λ (c : Loaded). c.address) (sheet_loads p)) j 0
addresses_rise = stream_climbs

-- ---- the chain words of a description run in the model

-- over a pattern's chain words the model hits exactly when the plain rule does [D2.2]
pub term_hits : (d : List ℕ) (sample : ℕ) → run_term (chain_words_of TERMS d) sample ≡ hit_or_miss (term_rule.hit (term_kind.from_bytes d) (Sample sample))
unfolding table.words_of kind_of term_kind.words
term_hits d sample = ap (λ (ws : List ℕ). run_term ws sample) (chains_flat TERMS d) ∙ term.run_hits (term_kind.from_bytes d) sample

-- the same over an accepted range's, whose lower is therefore 1 or more [D2.3]
pub range_hits : (d : List ℕ) → AcceptedDescription RANGES d → (sample : ℕ)
    → run_range (chain_words_of RANGES d) sample ≡ hit_or_miss (range_rule.hit (range_kind.from_bytes d) (Sample sample))
unfolding table.words_of kind_of range_kind.words
range_hits d a sample =
    ap (λ (ws : List ℕ). run_range ws sample) (chains_flat RANGES d) ∙ range.run_hits (range_kind.from_bytes d) (description_accepted RANGES (lit< tt) d a) sample

-- the same over an edge's, for an earlier and a later sample [D2.4]
pub edge_hits : (d : List ℕ) (earlier later : ℕ)
    → run_edge (chain_words_of EDGES d) earlier later ≡ hit_or_miss (edge_rule.hit (edge_kind.from_bytes d) (Samples earlier later))
unfolding table.words_of kind_of edge_kind.words
edge_hits d e l = ap (λ (ws : List ℕ). run_edge ws e l) (chains_flat EDGES d) ∙ edge.run_hits (edge_kind.from_bytes d) e l

-- a sum's words do what its operations mean in the source document [W16, M8]
pub sum_hits : (d : List ℕ) → AcceptedDescription SUMS d → (sources : ℕ) → run_sum (chain_words_of SUMS d) sources ≡ hit_or_miss (sum_means (sum_kind.from_bytes d) sources)
unfolding table.words_of kind_of sum_kind.words
sum_hits d a sources =
    ap (λ (ws : List ℕ). run_sum ws sources) (chains_flat SUMS d) ∙ sum.run_hits (sum_kind.from_bytes d) (description_accepted SUMS (lit< tt) d a) sources

-- a state's word holds its fields [W19]
pub state_words : (d : List ℕ) → chain_words_of STATES d ≡ words_of (state_kind.from_bytes d)
unfolding table.words_of kind_of state_kind.words
state_words = chains_flat STATES

-- ---- the same of the words that stand in a sheet's stream

-- each record's item stands in the stream, with its description's chain words [D2.1, G13]
pub every_record_sent : (s : List ℕ) (k : ℕ) → k < sections → (i : ℕ) → i < length (get_or (parse s) k []) → SentAt (stream_of (parse s)) k (record_of s k i)
every_record_sent s = record_sent (parse s)

-- the descriptions of an accepted sheet are accepted
described : (s : List ℕ) → Bytes s → verdict s ≡ Verdict.Accepted → (k : ℕ) → k < sections → (i : ℕ) → i < length (get_or (parse s) k [])
    → AcceptedDescription k (description_of (record_of s k i))
described s b ok k h i l =
    record {
      sheet = s;
      place = i;
      bytes = b;
      accepted = ok;
      within = rw (section_count s k h ok) l;
      has = ap description_of (section_record s k h ok i l);
    }

-- the same, for every record of every accepted sheet [D2.2, D2.3, D2.4]
module _ (s : List ℕ) (b : Bytes s) (ok : verdict s ≡ Verdict.Accepted) (i : ℕ) where
  pub sheet_term_hits : (there : SentAt (stream_of (parse s)) TERMS (record_of s TERMS i)) (sample : ℕ)
      → run_term (stream_words s TERMS i there) sample ≡ hit_or_miss (term_rule.hit (term_kind.from_bytes (description_of (record_of s TERMS i))) (Sample sample))
  sheet_term_hits there sample =
      ap (λ (ws : List ℕ). run_term ws sample) there.words ∙ term_hits (description_of (record_of s TERMS i)) sample

  pub sheet_range_hits : i < length (get_or (parse s) RANGES []) → (there : SentAt (stream_of (parse s)) RANGES (record_of s RANGES i)) (sample : ℕ)
      → run_range (stream_words s RANGES i there) sample ≡ hit_or_miss (range_rule.hit (range_kind.from_bytes (description_of (record_of s RANGES i))) (Sample sample))
  sheet_range_hits l there sample =
      ap (λ (ws : List ℕ). run_range ws sample) there.words
      ∙ range_hits (description_of (record_of s RANGES i)) (described s b ok RANGES (lit< tt) i l) sample

  pub sheet_edge_hits : (there : SentAt (stream_of (parse s)) EDGES (record_of s EDGES i)) (earlier later : ℕ)
      → run_edge (stream_words s EDGES i there) earlier later ≡ hit_or_miss (edge_rule.hit (edge_kind.from_bytes (description_of (record_of s EDGES i))) (Samples earlier later))
  sheet_edge_hits there e l =
      ap (λ (ws : List ℕ). run_edge ws e l) there.words ∙ edge_hits (description_of (record_of s EDGES i)) e l

  pub sheet_sum_hits : i < length (get_or (parse s) SUMS []) → (there : SentAt (stream_of (parse s)) SUMS (record_of s SUMS i)) (sources : ℕ)
      → run_sum (stream_words s SUMS i there) sources ≡ hit_or_miss (sum_means (sum_kind.from_bytes (description_of (record_of s SUMS i))) sources)
  sheet_sum_hits l there sources =
      ap (λ (ws : List ℕ). run_sum ws sources) there.words
      ∙ sum_hits (description_of (record_of s SUMS i)) (described s b ok SUMS (lit< tt) i l) sources

  pub sheet_state_words : (there : SentAt (stream_of (parse s)) STATES (record_of s STATES i))
      → stream_words s STATES i there ≡ words_of (state_kind.from_bytes (description_of (record_of s STATES i)))
  sheet_state_words there = there.words ∙ state_words (description_of (record_of s STATES i))
