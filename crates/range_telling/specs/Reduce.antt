-- The range without the lines that cannot matter, computed line by line from the lowest.
-- A procedure, not a meaning: nothing that is marked computed has to be believed. What it answers is pinned by
-- `Reduces` below: reduces and dropped_exactly in proofs/Theorems [D3.4].
use Rattle.std.specs.Prelude.{Bool, cond, ◌&&◌, ℕ, zero, suc, ◌/◌, ◌%◌, eqb}
use Rattle.lines.specs.Gather.{drop_lowest}
use Rattle.lut.specs.Telling.{HitAlike}
use Rattle.range.specs.declared.Range.{Range}
use Rattle.range.specs.Rule.{hit, Accepted}
use Rattle.range.specs.Words.{words_of}
use Rattle.range_telling.specs.Matter.{DroppedWords}

-- computed: the lowest masked line cannot matter, as lower is even and upper is odd [B6, G11]
abbrev pub idle : Range → Bool
idle r = eqb (r.lower % 2) 0 && eqb (r.upper % 2) 1

-- computed: the range without its lowest masked line [B6, G11]
abbrev pub halved : Range → Range
halved r = record { lower = r.lower / 2; upper = r.upper / 2; mask = drop_lowest 32 r.mask }

-- computed: with at most n lines dropped [B6, G11]
unfoldable pub reduce_from : ℕ → Range → Range
reduce_from zero r = r
reduce_from (suc n) r = cond (idle r) (reduce_from n (halved r)) r

-- computed: with all such lines dropped; its meaning is Reduces, theorem reduces [B6, G11, G12]
unfoldable pub reduce_of : Range → Range
reduce_of r = reduce_from 32 r

-- q is r without the lines that cannot matter: accepted, hitting alike, r's words less these lines [G6, G11, G12, D3.4]
pub record Reduces (r q : Range) : Type 0 where
  pub accepted : Accepted q
  pub alike : HitAlike (hit r) (hit q)
  pub words : DroppedWords r (words_of q)
