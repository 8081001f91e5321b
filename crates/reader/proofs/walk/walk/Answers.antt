-- One item more is judged, and its record kept, or its fault is the verdict.
use Rattle.std.proofs.Common.{length, refl, sym, ap, ◌∙◌, arith}
use Rattle.kinds.proofs.Places.{known_small}
use Rattle.reader.proofs.Cutting.{item_positive}
use Rattle.reader.proofs.Walking.{walking_start, read_is, walking_stops, walking_known, walking_room, walking_unread, walking_within, walking_next, walked_refused, walked_all}
use Rattle.reader.proofs.walk.walk.Goals as goal

pub loop-at-init : goal.loop-at-init
loop-at-init c = (refl, walking_start c.args.stream.now c.args.room.now c.requires)

pub returns-in-Refused : goal.returns-in-Refused
returns-in-Refused c =
    let l = c.loop-at in
    walked_refused _ _ _ _
    (walking_stops c.args.stream.now l.low l.at l.room l.invariant.1 c.loop-at-test.true _ _ c.number_at-address.ensures c.place_at-place.ensures.0 _ _ (sym c.take.ensures.answer ∙ c.in-Refused.is))

pub keep_record-requires : goal.keep_record-requires
keep_record-requires c =
    let l = c.loop-at in
    let s = c.args.stream.now in
    let fine = sym c.take.ensures.answer ∙ c.in_default.is in (
      walking_known s l.low l.at l.room l.invariant.1 c.loop-at-test.true _ _ c.number_at-address.ensures c.place_at-place.ensures.0 fine,
      l.invariant.1.size,
      walking_room s l.low l.at l.room l.invariant.1 c.loop-at-test.true _ _ c.number_at-address.ensures c.place_at-place.ensures.0 fine,
      omega (arith, c.take.auto.words, l.invariant.0),
    )

pub returns-then-keep_record-eq0 : goal.returns-then-keep_record-eq0
returns-then-keep_record-eq0 c =
    let l = c.loop-at in
    let s = c.args.stream.now in
    let fine = sym c.take.ensures.answer ∙ c.in_default.is in
    let d = read_is _ _ l.at s _ c.number_at-address.ensures c.place_at-place.ensures.0 (c.take.ensures.held fine) in
    walked_refused _ _ _ _
    (walking_unread s l.low l.at l.room l.invariant.1 c.loop-at-test.true _ _ c.number_at-address.ensures c.place_at-place.ensures.0 fine
    (sym (ap length d) ∙ sym c.keep_record.ensures.value ∙ c.if-keep_record-eq0.true))

pub overflow_add-low : goal.overflow_add-low
overflow_add-low c =
    let l = c.loop-at in
    let fine = sym c.take.ensures.answer ∙ c.in_default.is in
    let known = walking_known c.args.stream.now l.low l.at l.room l.invariant.1 c.loop-at-test.true _ _ c.number_at-address.ensures c.place_at-place.ensures.0 fine in
    omega (arith, known_small c.number_at-address.result (rw c.place_at-place.ensures.0 at known))

pub overflow_add-at : goal.overflow_add-at
overflow_add-at c =
    let l = c.loop-at in
    let s = c.args.stream.now in
    let fine = sym c.take.ensures.answer ∙ c.in_default.is in
    let d = read_is _ _ l.at s _ c.number_at-address.ensures c.place_at-place.ensures.0 (c.take.ensures.held fine) in
    let within = walking_within s l.low l.at l.room l.invariant.1 c.loop-at-test.true _ _ c.number_at-address.ensures c.place_at-place.ensures.0 fine (λ z. c.if-keep_record-eq0.false (c.keep_record.ensures.value ∙ ap length d ∙ z)) in
    omega (arith, c.item_size-at.ensures, within)

pub loop-at-smaller : goal.loop-at-smaller
loop-at-smaller c =
    let l = c.loop-at in
    let fine = sym c.take.ensures.answer ∙ c.in_default.is in
    let known = walking_known c.args.stream.now l.low l.at l.room l.invariant.1 c.loop-at-test.true _ _ c.number_at-address.ensures c.place_at-place.ensures.0 fine in
    omega (arith, c.item_size-at.ensures, item_positive c.place_at-place.result.section known)

pub loop-at-preserved : goal.loop-at-preserved
loop-at-preserved c =
    let l = c.loop-at in
    let s = c.args.stream.now in
    let fine = sym c.take.ensures.answer ∙ c.in_default.is in
    let d = read_is _ _ l.at s _ c.number_at-address.ensures c.place_at-place.ensures.0 (c.take.ensures.held fine) in (
      c.take.auto.words ∙ l.invariant.0,
      walking_next s l.low l.at l.room l.invariant.1 c.loop-at-test.true _ _ c.number_at-address.ensures c.place_at-place.ensures.0 fine
          (λ z. c.if-keep_record-eq0.false (c.keep_record.ensures.value ∙ ap length d ∙ z)) _ _ _ _
          c.place_at-place.ensures.1 c.item_size-at.ensures d c.keep_record.ensures.room_after,
    )

pub returns : goal.returns
returns c = let l = c.loop-at in walked_all c.args.stream.now l.low l.at l.room l.invariant.1 c.loop-at-test.false
