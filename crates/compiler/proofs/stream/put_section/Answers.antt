-- One item more is written at each turn.
use Rattle.std.proofs.Common.{◌≡◌, ◌+◌, [], length, refl, sym, ap, ◌∙◌, arith, length-append}
use Rattle.std.specs.Slice.Iter.{chunks_exact_rest, chunks_exact_size}
use Rattle.buffer.proofs.Writing.{delivers, Pending, pending_start, pending_step, pending_end}
use Rattle.records.specs.Sections.{record_size}
use Rattle.records.specs.Records.{records_in}
use Rattle.compiler.proofs.Joined.{item, item_joined, items, items_joined}
use Rattle.compiler.proofs.ItemLaws.{item_length}
use Rattle.compiler.proofs.StreamLaws.{first_item, first_ordered, no_item}
use Rattle.compiler.proofs.stream.put_section.Goals as goal

pub loop-rec-init : goal.loop-rec-init
loop-rec-init c =
    let k = c.args.section in
    let made = c.into_iter-rec-iterator.ensures.into_iter_gives in
    let rest = ap chunks_exact_rest made ∙ c.chunks_exact-rec-items.ensures.rest in
    let size : chunks_exact_size c.into_iter-rec-iterator.result ≡ record_size k = ap chunks_exact_size made ∙ c.chunks_exact-rec-items.ensures.size ∙ c.record_size.ensures in
    record {
      next = omega (arith, size);
      finite = tt;
      size = size;
      room = refl;
      ordered = rw rest c.requires.0;
      reached = rw rest;
      pending = rw rest (pending_start c.args.at _ _ (omega (arith, ap length (items_joined k (records_in k c.args.part.now)), c.requires.1)));
    }

pub put_item-requires : goal.put_item-requires
put_item-requires c =
    let l = c.loop-rec.invariant in
    let step = c.in-Some.ensures.steps in
    ((first_ordered c.args.section _ _ _ step.1.0 (step.1.1 ∙ l.size) l.ordered).0, l.room)

pub overflow_add-to : goal.overflow_add-to
overflow_add-to c =
    let k = c.args.section in
    let l = c.loop-rec.invariant in
    let step = c.in-Some.ensures.steps in
    let rec = c.in-Some.rec.now in
    let rest = records_in k (chunks_exact_rest c.next.new.self) in
    let lengths = ap length (first_item k _ _ _ step.1.0 (step.1.1 ∙ l.size)) ∙ length-append (item k rec) (items k rest) in
    omega (arith, lengths, item_length k rec, c.item_size-step.ensures, l.pending.room)

pub loop-rec-preserved : goal.loop-rec-preserved
loop-rec-preserved c =
    let k = c.args.section in
    let l = c.loop-rec.invariant in
    let step = c.in-Some.ensures.steps in
    let rec = c.in-Some.rec.now in
    let rest = records_in k (chunks_exact_rest c.next.new.self) in
    let first = first_item k _ _ _ step.1.0 (step.1.1 ∙ l.size) in
    let lengths = ap length first ∙ length-append (item k rec) (items k rest) in
    let long = c.item_size-step.ensures ∙ sym (item_length k rec) in
    record {
      next = omega (arith, step.0, l.next);
      finite = tt;
      size = step.0 ∙ l.size;
      room = c.put_item.auto.words ∙ l.room;
      ordered = (first_ordered k _ _ _ step.1.0 (step.1.1 ∙ l.size) l.ordered).1;
      reached = omega (arith, lengths, long, l.reached);
      pending =
          pending_step _ _ _ _ _ (item k rec) _ _ _ _ first (ap (λ n. c.loop-rec.to + n) long) l.pending
          (delivers (sym (item_joined k rec)) c.put_item.ensures);
    }

pub returns : goal.returns
returns c =
    let k = c.args.section in
    let l = c.loop-rec.invariant in
    let over = no_item k (chunks_exact_rest c.loop-rec.rec-iterator) (omega (arith, c.in-None.ensures.steps.1.0, l.size)) in
    let done : Pending _ _ _ [] _ = rw over at l.pending in
    rw (← items_joined k (records_in k c.args.part.now))
    (record { next = omega (arith, ap length over, l.reached); left = pending_end _ _ _ _ done })
