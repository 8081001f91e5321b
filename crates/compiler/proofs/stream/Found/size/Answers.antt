-- One section more is measured at each turn.
use Rattle.std.proofs.Common.{◌+◌, [], length, length-append, get_or, drop, zero-add, refl, sym, ap, ◌∙◌, arith}
use Rattle.sheet.specs.Parsed.{parse}
use Rattle.kinds.specs.Table.{sending_order}
use Rattle.kinds.proofs.Addresses.{sent_as}
use Rattle.compiler.proofs.Joined.{items, sent, items_joined, stream_sent}
use Rattle.compiler.proofs.StreamLaws.{sent_from_law, sent_end}
use Rattle.compiler.proofs.stream.Found.size.Goals as goal

pub loop-section-init : goal.loop-section-init
loop-section-init c = (omega arith, zero-add _ ∙ ap length (sym (stream_sent _)))

pub loop-section-preserved : goal.loop-section-preserved
loop-section-preserved c =
    let p = parse c.args.self.now.sheet.now in
    let i = c.loop-section.section-index in
    let k = sent_as i in
    let rest = sent (drop (i + 1) sending_order) p in
    let left = ap length (sent_from_law sending_order p i k (omega arith) refl) ∙ length-append (items k (get_or p k [])) rest in
    (omega (arith, c.section_size-size.ensures.1), omega (arith, left, c.section_size-size.ensures.0, ap length (items_joined k (get_or p k []))))

pub returns : goal.returns
returns c = omega (arith, ap length (sent_end sending_order (parse c.args.self.now.sheet.now) c.loop-section.section-index (omega arith)))
