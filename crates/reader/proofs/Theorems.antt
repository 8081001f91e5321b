-- What is promised of reading commands back, each under the rule that asks for it. Assumes nothing.
use Prim.Native.Nat.{ℕ, ◌+◌, ◌≤◌, ◌<◌}
use mathlib.Core.Path.{◌≡◌, refl, sym, ap, ◌∙◌, subst}
use mathlib.Core.Bool.{Bool, true, false, cond}
use mathlib.Core.List.{List, []}
use mathlib.Core.Logic.{◌↔◌, inl, inr}
use native.Mathlib.Nat.{le_refl}
use lib.Dec.{leb}
use lib.ListN.{length, get_or, take, drop}
use lib.Seq.{take-append_seam}
use Rattle.peek.specs.Bytes.{Bytes}
use Rattle.buffer.specs.Room.{bytes, unless, fill, Delivered}
use Rattle.buffer.specs.declared.Outcome.{Outcome}
use Rattle.buffer.specs.declared.Verdict.{Verdict}
use Rattle.buffer.specs.declared.Verdict.TheVariants.{Accepted, Refused}
use Rattle.buffer.proofs.Faults.{unless_bytes, no_refusal_law}
use Rattle.sheet.specs.Reading.{verdict}
use Rattle.compare.specs.Within.{all_within}
use Rattle.records.specs.Sections.{sections, most_of}
use Rattle.sheet.specs.Parsed.{LabelsDiffer, parse, render}
use Rattle.sheet.proofs.Parsed.{render_accepted, parse_render, accepted_well_formed}
use Rattle.compiler.specs.Stream.{stream_of, longest_stream, compiled}
use Rattle.reader.specs.Judging.{stream_verdict}
use Rattle.reader.specs.Back.{label_for, sheet_in, read_back}
use Rattle.reader.specs.Relabelled.{relabelled}
use Rattle.reader.specs.Meaning.{WrittenBySheet, ReadSays}
use Rattle.reader.proofs.Trip.{trip_accepted, trip_sheet, sheet_sound}
use Rattle.reader.proofs.Again.{sheet_section, again_stream, again_differ, again_well_formed, again_bytes}
use Rattle.reader.proofs.Items.{label_plain, label_tells}
use Rattle.reader.proofs.Enough.{accepted_short, prefix_read}

module _ (sheet : List ℕ) (b : Bytes sheet) (ok : verdict sheet ≡ Accepted) where
  -- the commands of an accepted sheet are accepted [D2.6]
  pub compiled_accepted : stream_verdict (stream_of (parse sheet)) ≡ Accepted
  compiled_accepted = trip_accepted (parse sheet) (sheet_sound sheet b ok)

  -- they are read as that sheet, with the reader's labels and each target cut to its mask [D2.5]
  pub compiled_read : sheet_in (stream_of (parse sheet)) ≡ relabelled (parse sheet)
  compiled_read = trip_sheet (parse sheet) (sheet_sound sheet b ok) (accepted_well_formed sheet ok).all

  -- the same of what the reader writes [D2.5]
  pub round_trip : read_back (stream_of (parse sheet)) ≡ bytes (render (relabelled (parse sheet)))
  round_trip = rw (compiled_accepted, compiled_read)

module _ (stream : List ℕ) (b : Bytes stream) (ok : stream_verdict stream ≡ Accepted) where
  -- what the reader writes for an accepted stream is an accepted sheet [D2.6]
  pub read_accepted : verdict (render (sheet_in stream)) ≡ Accepted
  read_accepted = render_accepted (sheet_in stream) (again_well_formed stream ok)

  -- and compiling it gives the stream again [D2.6]
  pub read_compiled : compiled (render (sheet_in stream)) ≡ bytes stream
  read_compiled =
      rw (read_accepted, parse_render (sheet_in stream) (again_well_formed stream ok)) (ap bytes (again_stream stream ok b))

-- the labels that the reader gives: their bytes are allowed, and each slot of a section has its own [C7, S4]
pub labels_allowed : (k slot : ℕ) → k < sections → slot < most_of k → all_within 0x20 0x7E (label_for k slot) ≡ true
labels_allowed = label_plain

pub labels_tell_slots : (k a b : ℕ) → label_for k a ≡ label_for k b → a ≡ b
labels_tell_slots = label_tells

-- so no two records that are read of a section have the same label [C7, S4]
pub read_labels_differ : (stream : List ℕ) → stream_verdict stream ≡ Accepted → (k : ℕ) → k < sections → LabelsDiffer (get_or (sheet_in stream) k [])
read_labels_differ stream ok k h = rw (sheet_section stream k h) (again_differ stream ok k h)

-- a stream is accepted exactly when the compiler writes it for an accepted sheet [D2.6]
pub accepted_exactly : (stream : List ℕ) → Bytes stream → (stream_verdict stream ≡ Accepted) ↔ WrittenBySheet stream
accepted_exactly stream b = (
  λ ok.
      record {
        sheet = render (sheet_in stream);
        sheet_bytes = again_bytes stream ok;
        accepted = read_accepted stream b ok;
        writes = read_compiled stream b ok;
      },
  λ w.
      let e = (unless_bytes (verdict w.sheet) (stream_of (parse w.sheet)) stream w.writes).1 in
      subst (λ (s : List ℕ). stream_verdict s ≡ Accepted) e (compiled_accepted w.sheet w.sheet_bytes w.accepted),
)

-- what the call answers says so: the sheet that it wrote writes the stream, or there was no room, or no accepted sheet
-- writes it [D2.6]
pub read_says : (stream : List ℕ) → Bytes stream → (room room' : List ℕ) (r : Outcome) → Delivered (read_back stream) room r room' → ReadSays stream r room'
read_says stream b room room' r d = go (stream_verdict stream) refl d
  where
    sheet : List ℕ
    sheet = render (sheet_in stream)

    fits : (ok : stream_verdict stream ≡ Accepted) (f : Bool) → r ≡ cond f (Outcome.Done (length sheet)) (Outcome.Refused 12 (length sheet)) → room' ≡ cond f (fill sheet room) room
        → ReadSays stream r room'
    fits ok true e l =
        let text : take (length sheet) room' ≡ sheet = ap (take (length sheet)) l ∙ take-append_seam sheet (drop (length sheet) room) in
        rw e (rw text (read_accepted stream b ok, read_compiled stream b ok))
    fits ok false e l = rw e (inl (refl, (accepted_exactly stream b).0 ok))

    go : (v : Verdict) → stream_verdict stream ≡ v → Delivered (unless v sheet) room r room' → ReadSays stream r room'
    go Accepted e d = fits e (leb (length sheet) (length room)) d.answer d.left
    go (Refused number place) e d =
        rw d.answer (inr (λ w. no_refusal_law number place (sym e ∙ (accepted_exactly stream b).1 w)))

-- ---- how much of a stream the reader looks at

-- no accepted stream is longer than the longest [W18]
pub accepted_most : (stream : List ℕ) → stream_verdict stream ≡ Accepted → length stream ≤ longest_stream
accepted_most = accepted_short

-- so a program that hands over the first 2,525 bytes of a file, one whole command more, gets the whole file's answer
-- [A9]
pub enough : (stream : List ℕ) → read_back (take (longest_stream + 5) stream) ≡ read_back stream
enough stream = prefix_read stream (longest_stream + 5) (le_refl (longest_stream + 5))
