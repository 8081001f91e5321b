-- The entry of a detector in the table that a bench makes of a sheet: the numbers by which it asks the plain rule.
use Rattle.std.specs.Prelude.{ℕ, List, [], ◌∷◌}
use Rattle.std.specs.Int.Bits.{bit_and}
use Rattle.lines.specs.Gather.{scattered}
use Rattle.term.specs.declared.Pattern.{Pattern}
use Rattle.range.specs.declared.Range.{Range}
use Rattle.edge.specs.declared.Edge.{Edge}

-- a pattern: the target cut to the mask, and the mask [R11]
abbrev pub pattern_entry : Pattern → List ℕ
pattern_entry p = bit_and p.target p.mask ∷ p.mask ∷ []

-- a range: its bounds, each put on the masked lines, and the mask [R11]
abbrev pub range_entry : Range → List ℕ
range_entry r = scattered 32 r.lower r.mask ∷ scattered 32 r.upper r.mask ∷ r.mask ∷ []

-- an edge: rise, fall and neither [R11]
abbrev pub edge_entry : Edge → List ℕ
edge_entry e = e.rise ∷ e.fall ∷ e.neither ∷ []
