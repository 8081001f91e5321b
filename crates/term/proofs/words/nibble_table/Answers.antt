-- The table is a product over the lines.
use Rattle.std.proofs.Common.{◌%◌, arith}
use Rattle.term.proofs.Hits.{nibble_lt}
use Rattle.term.proofs.Product.{lows_small, table_product}
use Rattle.term.proofs.words.nibble_table.Goals as goal

pub overflow_sub-ones : goal.overflow_sub-ones
overflow_sub-ones c = lows_small c.args.p.target c.args.p.mask

pub overflow_mul-result : goal.overflow_mul-result
overflow_mul-result c =
    let p = c.args.p in
    omega (arith, table_product p.target p.mask, nibble_lt (p.target % 16) (p.mask % 16))

pub returns : goal.returns
returns c = table_product c.args.p.target c.args.p.mask
