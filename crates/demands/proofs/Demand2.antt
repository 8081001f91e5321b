-- DEMAND 2, clause by clause, over the laws of the crates below. A sheet and a stream are lists of bytes. Which room is
-- enough for every input: Sizes. Assumes nothing.
use Prim.Native.Nat.{ℕ, ◌≤◌, ◌<◌}
use mathlib.Core.Path.{◌≡◌, refl, sym, ◌∙◌}
use mathlib.Core.List.{List, [], ◌∷◌}
use mathlib.Core.Logic.{◌↔◌}
use native.Mathlib.Omega.{arith}
use lib.ListN.{length, get_or, take}
use Rattle.lut.specs.Answer.{hit_or_miss}
use Rattle.peek.specs.Bytes.{Bytes}
use Rattle.buffer.specs.Room.{bytes, unless, outcome, Delivered}
use Rattle.buffer.specs.declared.Outcome.{Outcome}
use Rattle.buffer.specs.declared.Outcome.TheVariants.{Done}
use Rattle.buffer.specs.declared.Verdict.{Verdict}
use Rattle.buffer.specs.declared.Verdict.TheVariants.{Accepted}
use Rattle.records.specs.Sections.{sections, field_of, description_of}
use Rattle.kinds.specs.Table.{TERMS, RANGES, EDGES, STATES}
use Rattle.sheet.specs.Reading.{verdict}
use Rattle.sheet.specs.Parsed.{parse, render}
use Rattle.term.specs.Rule.{term_hit}
use Rattle.term.specs.Model.{run_term}
use Rattle.range.specs.Rule.{range_hit}
use Rattle.range.specs.Model.{run_range}
use Rattle.edge.specs.Rule.{edge_hit}
use Rattle.edge.specs.Model.{run_edge}
use Rattle.state.specs.Words.{word_of}
use Rattle.state.specs.Description.{from_bytes}
use Rattle.compiler.specs.Stream.{stream_of, compiled}
use Rattle.compiler.proofs.Theorems as compiler
use Rattle.compiler.specs.Sent.{SentAt}
use Rattle.compiler.specs.Sent as sent
use Rattle.reader.specs.Judging.{stream_verdict}
use Rattle.reader.specs.Back.{sheet_in, read_back}
use Rattle.reader.specs.Relabelled.{relabelled}
use Rattle.reader.specs.Meaning.{WrittenBySheet}
use Rattle.reader.proofs.Theorems as reader
use Rattle.buffer.proofs.Writing.{answered, filled}
use lib.Seq.{take-append_seam}
use lib.ListN.{drop}

-- given room, the commands of an accepted sheet are written whole, and their length is answered [D2.1, K3]
pub accepted_sheet_is_compiled : (sheet room : List ℕ) (r : Outcome) (room' : List ℕ) → verdict sheet ≡ Accepted
    → length (stream_of (parse sheet)) ≤ length room → Delivered (compiled sheet) room r room'
    → (r ≡ Done (length (stream_of (parse sheet)))) × (take (length (stream_of (parse sheet))) room' ≡ stream_of (parse sheet))
accepted_sheet_is_compiled = compiler.accepted_written

-- and each record's item stands in them with its description's chain words [D2.1]
pub every_record_is_sent : (sheet : List ℕ) (k : ℕ) → k < sections → (i : ℕ) → i < length (get_or (parse sheet) k [])
    → SentAt (stream_of (parse sheet)) k (sent.record_of sheet k i)
every_record_is_sent = compiler.every_record_sent

-- of the words that stand in the stream, for record i of the section [D2.2, D2.3, D2.4]
module _ (sheet : List ℕ) (b : Bytes sheet) (ok : verdict sheet ≡ Accepted) (i : ℕ) where
  -- a term's words, run in the model, hit on a sample exactly when the plain rule says hit [D2.2]
  pub pattern_words_hit : (there : SentAt (stream_of (parse sheet)) TERMS (sent.record_of sheet TERMS i)) (sample : ℕ)
      → let d = description_of (sent.record_of sheet TERMS i) in
      run_term (sent.stream_words sheet TERMS i there) sample ≡ hit_or_miss (term_hit (field_of d 0) (field_of d 1) sample)
  pattern_words_hit = compiler.sheet_term_hits sheet b ok i

  -- a range's words likewise [D2.3]
  pub range_words_hit : i < length (get_or (parse sheet) RANGES []) → (there : SentAt (stream_of (parse sheet)) RANGES (sent.record_of sheet RANGES i)) (sample : ℕ)
      → let d = description_of (sent.record_of sheet RANGES i) in
      run_range (sent.stream_words sheet RANGES i there) sample ≡ hit_or_miss (range_hit (field_of d 0) (field_of d 1) (field_of d 2) sample)
  range_words_hit = compiler.sheet_range_hits sheet b ok i

  -- an edge's words likewise, on an earlier and a later sample [D2.4]
  pub edge_words_hit : (there : SentAt (stream_of (parse sheet)) EDGES (sent.record_of sheet EDGES i)) (earlier later : ℕ)
      → let d = description_of (sent.record_of sheet EDGES i) in
      run_edge (sent.stream_words sheet EDGES i there) earlier later ≡ hit_or_miss (edge_hit (field_of d 0) (field_of d 1) (field_of d 2) earlier later)
  edge_words_hit = compiler.sheet_edge_hits sheet b ok i

  -- a state's one word has each of its fields at its bits [D2.1, W19]
  pub state_word_has_the_fields : (there : SentAt (stream_of (parse sheet)) STATES (sent.record_of sheet STATES i))
      → sent.stream_words sheet STATES i there ≡ word_of (from_bytes (description_of (sent.record_of sheet STATES i))) ∷ []
  state_word_has_the_fields = compiler.sheet_state_words sheet b ok i

-- what was compiled is read back as the sheet with the reader's labels and each target cut to its mask [D2.5]
pub reading_gives_the_sheet : (sheet : List ℕ) → Bytes sheet → verdict sheet ≡ Accepted
    → read_back (stream_of (parse sheet)) ≡ bytes (render (relabelled (parse sheet)))
reading_gives_the_sheet = reader.round_trip

-- given room for it, that sheet is what stands in the room [D2.5]
pub reading_writes_the_sheet : (sheet room : List ℕ) (r : Outcome) (room' : List ℕ) → Bytes sheet → verdict sheet ≡ Accepted
    → length (render (relabelled (parse sheet))) ≤ length room → Delivered (read_back (stream_of (parse sheet))) room r room'
    → (r ≡ Done (length (render (relabelled (parse sheet))))) × (take (length (render (relabelled (parse sheet)))) room' ≡ render (relabelled (parse sheet)))
reading_writes_the_sheet sheet room r room' b ok fits d =
    let back = render (relabelled (parse sheet)) in
    let d' = rw (reader.round_trip sheet b ok) at d in
    (answered back room r room' fits d', rw (filled back room r room' fits d') (take-append_seam back (drop (length back) room)))

-- the reader accepts a stream exactly when the compiler writes it for an accepted sheet [D2.6]
pub accepted_iff_some_sheet_writes_it : (stream : List ℕ) → Bytes stream → (stream_verdict stream ≡ Accepted) ↔ WrittenBySheet stream
accepted_iff_some_sheet_writes_it = reader.accepted_exactly

-- the same of the call's answer: given room for the sheet, where there is one, it is a success exactly then [D2.6]
pub done_iff_some_sheet_writes_it : (stream room : List ℕ) (r : Outcome) (room' : List ℕ) → Bytes stream
    → (WrittenBySheet stream → length (render (sheet_in stream)) ≤ length room) → Delivered (read_back stream) room r room' → ((n : ℕ) × (r ≡ Done n)) ↔ WrittenBySheet stream
done_iff_some_sheet_writes_it stream room r room' b fits d = (
  λ e. (reader.accepted_exactly stream b).0 (accepted (stream_verdict stream) e.0 (sym e.1 ∙ d.answer)),
  λ w. (length sheet, answered sheet room r room' (fits w) (rw ((reader.accepted_exactly stream b).1 w) at d)),
)
  where
    sheet : List ℕ
    sheet = render (sheet_in stream)

    accepted : (v : Verdict) (n : ℕ) → Done n ≡ outcome (unless v sheet) (length room) → v ≡ Accepted
    accepted Accepted n e = refl
    accepted (Verdict.Refused number place) n e = let z : ◌≡◌ {A = ℕ} 0 1 = cc in absurd (omega arith)

-- and what is read of it is an accepted sheet, which compiles to the stream again [D2.6]
pub what_is_read_is_a_sheet : (stream : List ℕ) → Bytes stream → stream_verdict stream ≡ Accepted
    → (verdict (render (sheet_in stream)) ≡ Accepted) × (compiled (render (sheet_in stream)) ≡ bytes stream)
what_is_read_is_a_sheet stream b ok = (reader.read_accepted stream b ok, reader.read_compiled stream b ok)
