-- The lowest line at which the masks differ is masked in one of the two.
use Rattle.std.proofs.Common.{arith, eq-eqb, ne_eqb}
use Rattle.range_telling.specs.Telling.{tell_masks}
use Rattle.range_telling.proofs.Apart.{first_differ_law, differ_within, differ_lines}
use Rattle.range_telling.proofs.telling.tell_masks.Goals as goal

pub tell_line-requires-else-line_value-eq1-clause-within : goal.tell_line-requires-else-line_value-eq1-clause-within
tell_line-requires-else-line_value-eq1-clause-within c =
    differ_within c.args.a.mask c.args.b.mask (omega arith) (omega arith) c.requires.differ

pub tell_line-requires-else-line_value-eq1-clause-masked : goal.tell_line-requires-else-line_value-eq1-clause-masked
tell_line-requires-else-line_value-eq1-clause-masked c =
    omega (arith, differ_lines c.args.a.mask c.args.b.mask (omega arith) (omega arith) c.requires.differ)

pub returns-then-line_value-eq1 : goal.returns-then-line_value-eq1
unfolding tell_masks
returns-then-line_value-eq1 c =
    rw (first_differ_law 32 c.args.a.mask c.args.b.mask, ← c.line_value.ensures, eq-eqb _ _ c.if-line_value-eq1.true) c.tell_line.ensures

pub returns-else-line_value-eq1 : goal.returns-else-line_value-eq1
unfolding tell_masks
returns-else-line_value-eq1 c =
    rw (first_differ_law 32 c.args.a.mask c.args.b.mask, ← c.line_value.ensures, ne_eqb _ _ c.if-line_value-eq1.false) c.tell_line-else-line_value-eq1.ensures
