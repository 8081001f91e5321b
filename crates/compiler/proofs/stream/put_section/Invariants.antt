-- The items of the records that are left are still to be written from `to` on.
use Rattle.std.proofs.Common.{◌≡◌, ◌+◌, length}
use Rattle.std.specs.Slice.Iter.{chunks_exact_rest, chunks_exact_size}
use Rattle.buffer.specs.Room.{write}
use Rattle.buffer.proofs.Writing.{Pending}
use Rattle.records.specs.Sections.{record_size}
use Rattle.records.specs.Records.{records_in}
use Rattle.sheet.specs.Parsed.{Ordered}
use Rattle.compiler.proofs.Joined.{items}
use Rattle.compiler.proofs.stream.put_section.Given as goal

abbrev pub invariant-loop-rec : goal.invariant-loop-rec
invariant-loop-rec l = record {
  next : (goal.iterator-loop-rec).can_next l.rec-iterator;
  finite : (goal.iterator-loop-rec).is_finite l.rec-iterator;
  size : chunks_exact_size l.rec-iterator ≡ record_size l.section;
  room : length l.words ≡ 32;
  ordered : Ordered l.section 0 (records_in l.section (chunks_exact_rest l.rec-iterator));
  reached :
      l.to + length (items l.section (records_in l.section (chunks_exact_rest l.rec-iterator)))
      ≡ l.at + length (items l.section (records_in l.section l.part));
  pending :
      Pending l.initial.out (write l.at (items l.section (records_in l.section l.part)) l.initial.out) l.to
      (items l.section (records_in l.section (chunks_exact_rest l.rec-iterator))) l.out;
}
