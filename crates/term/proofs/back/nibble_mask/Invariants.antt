-- After j turns the mask has the lines below j.
use Rattle.std.proofs.Common.{◌≡◌}
use Rattle.lut.specs.Table.{table_of}
use Rattle.term.specs.Back.{line_masked}
use Rattle.term.proofs.back.nibble_mask.Given as goal

abbrev pub invariant-loop-j : goal.invariant-loop-j
invariant-loop-j l = l.mask ≡ table_of (line_masked l.table l.a) l.j
