-- Each turn appends the line below.
use Rattle.std.proofs.Common.{eqb, sym, arith}
use Rattle.lut.proofs.Tables.{one_lt}
use Rattle.range.proofs.Compared.{from_one_if}
use Rattle.range.proofs.Found.{above_none, found_fits, found_more, found_all}
use Rattle.range.proofs.back.lines_with.Goals as goal

pub loop-i-init : goal.loop-i-init
loop-i-init c = sym (above_none c.args.table c.args.chain.now)

pub overflow_mul-found : goal.overflow_mul-found
overflow_mul-found c = omega (arith, found_fits _ _ _ _ c.loop-i.invariant (omega arith) (omega arith))

pub overflow_add-found : goal.overflow_add-found
overflow_add-found c =
    let room = found_fits _ _ _ _ c.loop-i.invariant (omega arith) (omega arith) in
    omega (arith, c.from.ensures, from_one_if (eqb c.table_at.result c.args.table), one_lt (eqb c.table_at.result c.args.table))

pub loop-i-preserved : goal.loop-i-preserved
loop-i-preserved c = found_more _ _ _ _ c.loop-i.invariant _ (omega arith) (omega arith) (rw (c.from.ensures, from_one_if, c.table_at.ensures))

pub returns : goal.returns
returns c = found_all _ _ _ _ c.loop-i.invariant (omega arith)
