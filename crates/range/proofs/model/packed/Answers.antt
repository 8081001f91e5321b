-- Two numbers side by side, of the low and of the high tables.
use Rattle.std.proofs.Common.{refl, get_or, arith}
use lib.Bits.{and_le_r}
use Rattle.range.proofs.Packed.{quads, packed_fits, packed_more, packed_low, packed_high}
use Rattle.range.proofs.model.packed.Goals as goal

pub loop-word-init : goal.loop-word-init
unfolding quads
loop-word-init c = refl

pub overflow_mul-r : goal.overflow_mul-r
overflow_mul-r c =
    let h = packed_fits c.args.words.now _ c.loop-word.word-index c.loop-word.invariant (omega arith) in
    omega arith

pub overflow_add-r : goal.overflow_add-r
overflow_add-r c =
    let h = packed_fits c.args.words.now _ c.loop-word.word-index c.loop-word.invariant (omega arith) in
    omega (arith, and_le_r (get_or c.args.words.now c.loop-word.word-index 0) 0x30003)

pub loop-word-preserved : goal.loop-word-preserved
loop-word-preserved c = packed_more _ _ _ c.loop-word.invariant

pub returns-clause-low_tables : goal.returns-clause-low_tables
returns-clause-low_tables c = packed_low _ _ _ c.loop-word.invariant (omega arith)

pub returns-clause-high_tables : goal.returns-clause-high_tables
returns-clause-high_tables c = packed_high _ _ _ c.loop-word.invariant (omega arith)
