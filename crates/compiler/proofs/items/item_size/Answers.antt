-- The numbers of the table are small.
use Rattle.std.proofs.Common.{◌+◌, ◌*◌, sym, ap, ◌∙◌, arith}
use Rattle.kinds.specs.declared.Row.{Row}
use Rattle.kinds.proofs.Rows.{chain_short}
use Rattle.compiler.proofs.ItemLaws.{item_size_law, item_bound}
use Rattle.compiler.proofs.items.item_size.Goals as goal

pub overflow_mul-result : goal.overflow_mul-result
overflow_mul-result c = omega (arith, ap (λ (r : Row). r.each) c.row_of-row.ensures, chain_short c.args.section)

pub overflow_add-result : goal.overflow_add-result
overflow_add-result c = omega (arith, ap (λ (r : Row). r.each) c.row_of-row.ensures, chain_short c.args.section)

pub overflow_mul-result-2 : goal.overflow_mul-result-2
overflow_mul-result-2 c =
    omega (arith, ap (λ (r : Row). r.chains * (5 + 5 * r.each)) c.row_of-row.ensures, item_size_law c.args.section, item_bound c.args.section)

pub returns : goal.returns
returns c = ap (λ (r : Row). r.chains * (5 + 5 * r.each)) c.row_of-row.ensures ∙ sym (item_size_law c.args.section)
