-- One section more is written at each turn: the records of its part are those of the sheet.
use Rattle.std.proofs.Common.{◌+◌, [], length, length-append, get_or, drop, refl, sym, ap, ◌∙◌, arith}
use Rattle.buffer.proofs.Writing.{wrote, too_short, delivers, Pending, pending_start, pending_write, pending_end}
use Rattle.sheet.specs.Parsed.{parse}
use Rattle.kinds.specs.Table.{sending_order}
use Rattle.kinds.proofs.Addresses.{sent_as, sent_known}
use Rattle.compiler.proofs.Joined.{items, sent, stream_sent}
use Rattle.compiler.proofs.StreamLaws.{sent_from_law, sent_end, part_ordered, part_items}
use Rattle.compiler.proofs.stream.Found.put.Goals as goal

pub returns-then-out-needed : goal.returns-then-out-needed
returns-then-out-needed c = too_short _ _ _ c.if-out-needed.true c.size-needed.ensures

pub loop-section-init : goal.loop-section-init
loop-section-init c = pending_start 0 _ _ (omega (arith, c.size-needed.ensures, ap length (stream_sent (parse c.args.self.now.sheet.now))))

pub put_section-at-requires : goal.put_section-at-requires
put_section-at-requires c =
    let f = c.args.self.now in
    let p = parse f.sheet.now in
    let l = c.loop-section in
    let k = sent_as l.section-index in
    let h = sent_known l.section-index (omega arith) in
    let next = ap length (sent_from_law sending_order p l.section-index k (omega arith) refl) ∙ length-append (items k (get_or p k [])) (sent (drop (l.section-index + 1) sending_order) p) in
    let same = ap length (part_items f.sheet.now f.whole.0 k h _ c.part.ensures) in
    (part_ordered f.sheet.now f.whole.0 k h _ c.part.ensures, omega (arith, next, same, l.invariant.room))

pub loop-section-preserved : goal.loop-section-preserved
loop-section-preserved c =
    let f = c.args.self.now in
    let l = c.loop-section in
    let k = sent_as l.section-index in
    let h = sent_known l.section-index (omega arith) in
    let w = rw (part_items f.sheet.now f.whole.0 k h _ c.part.ensures) at c.put_section-at.ensures in
    pending_write _ _ _ _ _ _ _ _ _ (sent_from_law sending_order (parse f.sheet.now) l.section-index k (omega arith) refl) w.next l.invariant w.left

pub returns : goal.returns
returns c =
    let p = parse c.args.self.now.sheet.now in
    let l = c.loop-section in
    let size = c.size-needed.ensures ∙ ap length (stream_sent p) in
    let done : Pending _ _ _ [] l.out = rw (sent_end sending_order p l.section-index (omega arith)) at l.invariant in
    delivers (sym (stream_sent p))
    (wrote (sent sending_order p) c.args.out.now _ _ (omega (arith, size)) size (pending_end _ _ _ _ done))
