-- Two samples that tell two accepted edges apart (*telling sample* is the buyer's term), as they are computed: on each
-- line where one asks for an event and the other does not, show that event; on every other line show something that the
-- other does not ask for, which there is, since no line asks for all three.
-- A procedure, not a meaning: nothing here has to be believed. What it answers is pinned by lut's `Says`: telling-says
-- in proofs/Theorems [D3.6].
use Rattle.std.specs.Prelude.{ℕ, cond, eqb}
use Rattle.std.specs.Int.Bits.{bit_and, bit_or, bit_xor}
use Rattle.lut.specs.declared.Telling.{Telling}
use Rattle.lut.specs.declared.Telling.TheVariants.{Alike, Apart}
use Rattle.lut.specs.declared.Input.TheVariants.{Samples}
use Rattle.edge.specs.declared.Edge.{Edge}
use Rattle.edge.specs.declared.Event.{Event}
use Rattle.edge.specs.declared.Event.TheVariants.{Rise, Fall, Neither}

-- the lines on which an edge asks for an event [P8]
abbrev pub asked : Event → Edge → ℕ
asked Rise d = d.rise
asked Fall d = d.fall
asked Neither d = d.neither

-- computed: the lines of a that are not lines of b [B6, N9]
unfoldable pub without : (a b : ℕ) → ℕ
without a b = bit_xor a (bit_and a b)

-- computed: the earlier of two samples that show the event on the lines d. Of the edge that is to miss, r are the lines
-- with rise, n those with neither. Its other lines stay 0; a line with neither rises, or falls where it has rise too
-- [B6, N9]
abbrev pub earlier_of : Event → (d r n : ℕ) → ℕ
earlier_of Rise d r n = without (bit_and n r) d
earlier_of Fall d r n = bit_or (without (bit_and n r) d) d
earlier_of Neither d r n = without (bit_and n r) d

-- computed: the later one [B6, N9]
abbrev pub later_of : Event → (d r n : ℕ) → ℕ
later_of Rise d r n = bit_or (without (without n r) d) d
later_of Fall d r n = without (without n r) d
later_of Neither d r n = without (without n r) d

-- computed: the two samples, given the edge that they make miss [B6, N9]
abbrev pub showing : Event → (d : ℕ) → Edge → Telling
showing t d missed = Apart (Samples (earlier_of t d missed.rise missed.neither) (later_of t d missed.rise missed.neither))

-- computed: by an event that a asks for on lines on which b does not, if there are such lines [B6, N9]
unfoldable pub tell_by : Event → (a b : Edge) → Telling → Telling
tell_by t a b others = cond (eqb (without (asked t a) (asked t b)) 0) others (showing t (without (asked t a) (asked t b)) b)

-- computed: by something that a asks for and b does not [B6, N9]
abbrev pub tell_one : (a b : Edge) → Telling
tell_one a b = tell_by Rise a b (tell_by Fall a b (tell_by Neither a b Alike))

-- computed: the first answer that has samples [B6, N9]
abbrev pub or_else : Telling → Telling → Telling
or_else Alike other = other
or_else (Apart input) other = Apart input

-- computed: two samples that tell, or that there are none; its meaning is Says, theorem telling_says [B6, K2, N6, N9]
abbrev pub edge_telling : (old new : Edge) → Telling
edge_telling old new = or_else (tell_one old new) (tell_one new old)
