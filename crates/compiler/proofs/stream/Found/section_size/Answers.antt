-- There are as many items as the section has records, each of the section's size.
use Rattle.std.proofs.Common.{◌≡◌, ◌*◌, length, get_or, [], sym, ap, ap₂, ◌∙◌, arith}
use Rattle.records.specs.Records.{record_count}
use Rattle.sheet.specs.Parsed.{parse}
use Rattle.compiler.specs.Items.{item_size}
use Rattle.compiler.proofs.Joined.{items_joined}
use Rattle.compiler.proofs.StreamLaws.{items_length, part_count, part_bound}
use Rattle.compiler.proofs.stream.Found.section_size.Goals as goal

pub overflow_mul-result : goal.overflow_mul-result
overflow_mul-result c =
    let f = c.args.self.now in
    let k = c.args.section in
    let count = c.record_count.ensures ∙ ap (record_count k) c.part.ensures ∙ part_count f.sheet.now f.whole.0 k c.requires in
    let product : c.record_count.result * c.item_size.result ≡ length (get_or (parse f.sheet.now) k []) * item_size k = ap₂ ◌*◌ count c.item_size.ensures in
    omega (arith, product, part_bound f.sheet.now f.whole.0 k c.requires)

pub returns : goal.returns
returns c =
    let f = c.args.self.now in
    let k = c.args.section in
    let rs = get_or (parse f.sheet.now) k [] in
    let count = c.record_count.ensures ∙ ap (record_count k) c.part.ensures ∙ part_count f.sheet.now f.whole.0 k c.requires in
    let product : c.record_count.result * c.item_size.result ≡ length rs * item_size k = ap₂ ◌*◌ count c.item_size.ensures in
    (product ∙ sym (items_length k rs) ∙ ap length (items_joined k rs), omega (arith, product, part_bound f.sheet.now f.whole.0 k c.requires))
