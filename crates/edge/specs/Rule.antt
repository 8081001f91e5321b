-- The plain rule of an edge, line by line, and which edges are accepted.
-- A description is three numbers of 32 lines: the lines on which a rise, a fall, or neither of the two is asked for.
use Rattle.std.specs.Prelude.{ℕ, ◌^◌, ◌<◌, ◌≡◌, Bool, true, not, ◌&&◌, ◌||◌, eqb}
use Rattle.lines.specs.Line.{line, any_line, every_line}
use Rattle.lut.specs.Input.{on_samples}
use Rattle.lut.specs.declared.Input.{Input}
use Rattle.edge.specs.declared.Edge.{Edge}
use Rattle.edge.specs.declared.Event.{Event}
use Rattle.edge.specs.declared.Event.TheVariants.{Rise, Fall, Neither}

-- rise, fall or neither, by a line's earlier and later value [P7]
abbrev pub happens : Event → (earlier later : ℕ) → Bool
happens Rise e l = eqb e 0 && eqb l 1
happens Fall e l = eqb e 1 && eqb l 0
happens Neither e l = eqb e l

-- a line shows something that it asks for; r f n are 1 where it asks for rise, fall, neither [P8]
abbrev pub line_hit : (r f n earlier later : ℕ) → Bool
line_hit r f n e l = (eqb r 1 && happens Rise e l) || ((eqb f 1 && happens Fall e l) || (eqb n 1 && happens Neither e l))

-- one or more of the lowest k lines do so [P8]
abbrev pub lines_hit : (k rise fall neither earlier later : ℕ) → Bool
lines_hit k r f n e l = any_line k (λ i. line_hit (line r i) (line f i) (line n i) (line e i) (line l i))

-- one or more of the 32 lines do so; where nothing is asked for, none does [P8, P9]
abbrev pub edge_hit : (rise fall neither earlier later : ℕ) → Bool
edge_hit = lines_hit 32

-- a line does not ask for all three: rise, fall and neither [P10, F9]
abbrev pub line_accepted : (r f n : ℕ) → Bool
line_accepted r f n = not (eqb r 1 && (eqb f 1 && eqb n 1))

-- none of the lowest k lines asks for all three [P10, F9]
abbrev pub lines_accepted : (k rise fall neither : ℕ) → Bool
lines_accepted k r f n = every_line k (λ i. line_accepted (line r i) (line f i) (line n i))

-- none of the 32 lines does: what refusal 9 leaves [P10, F9]
abbrev pub edge_accepted : (rise fall neither : ℕ) → Bool
edge_accepted = lines_accepted 32

-- an accepted edge: three numbers of 32 lines that refusal 9 leaves [P10, G2]
pub record EdgeAccepted (rise fall neither : ℕ) : Type 0 where
  pub ok : edge_accepted rise fall neither ≡ true
  pub rise_fits : rise < 2 ^ 32
  pub fall_fits : fall < 2 ^ 32
  pub neither_fits : neither < 2 ^ 32

-- the same of an edge as one value: when it hits on an earlier and a later sample [P8]
abbrev pub hit_of : Edge → (earlier later : ℕ) → Bool
hit_of d = edge_hit d.rise d.fall d.neither

-- which edges are accepted, as one value [P10, G2]
abbrev pub Accepted : Edge → Type 0
Accepted d = EdgeAccepted d.rise d.fall d.neither

-- when an edge hits, over any input [P8, G5]
abbrev pub hit : Edge → Input → Bool
hit d = on_samples (hit_of d)
