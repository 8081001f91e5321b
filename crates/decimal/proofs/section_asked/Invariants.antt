-- `cli::section_asked` meets its contract. The loop's invariant: the digits from i on, behind the capped number so far, decide the answer.
-- Assumes nothing.
use Prim.Native.Nat.{◌-◌, ◌≤◌, min}
use mathlib.Core.Path.{◌≡◌}
use lib.ListN.{length, drop}
use Rattle.records.specs.Sections.{sections}
use Rattle.decimal.specs.Decimal.{decimal_from, section_asked}
use Rattle.decimal.proofs.section_asked.Given as goal

abbrev pub invariant-loop-i : goal.invariant-loop-i
invariant-loop-i l = (l.i ≤ length l.word) × (l.number ≤ sections) × (section_asked l.word ≡ min (decimal_from l.number (drop l.i l.word)) sections)

abbrev pub decreases-loop-i : goal.decreases-loop-i
decreases-loop-i l = length l.word - l.i
