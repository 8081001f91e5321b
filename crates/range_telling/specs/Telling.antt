-- What tells two ranges apart (*telling sample* is the buyer's term), as it is computed.
-- A procedure, not a meaning: nothing here has to be believed. What it answers is pinned by lut's `Says`: telling-says
-- in proofs/Theorems [D3.6].
use Rattle.std.specs.Prelude.{cond, ◌&&◌, ℕ, zero, suc, ◌+◌, ◌-◌, ◌/◌, ◌%◌, ◌^◌, min, max, eqb, leb}
use Rattle.std.specs.Bool.{beq}
use Rattle.std.specs.Int.Count.{ones_in}
use Rattle.lines.specs.Line.{line, flip_line}
use Rattle.lines.specs.Gather.{scattered}
use Rattle.lut.specs.declared.Telling.{Telling}
use Rattle.lut.specs.declared.Telling.TheVariants.{Alike, Apart}
use Rattle.lut.specs.declared.Input.TheVariants.{Sample}
use Rattle.range.specs.declared.Range.{Range}
use Rattle.range.specs.Rule.{hit_of}
use Rattle.range_telling.specs.Reduce.{reduce_of}

-- computed: a number at which turning bit j over changes whether it lies within the bounds, for an odd lower bound: the
-- lower bound, unless it still lies within them when turned, and then the number below it [B6, N9]
abbrev pub turn_lower : (lower upper j : ℕ) → ℕ
turn_lower lower upper j = cond (eqb (line lower j) 0 && leb (2 ^ j) (upper - lower)) (lower - 1) lower

-- computed: the same for an even lower bound: the upper bound, or the number above it [B6, N9]
abbrev pub turn_upper : (lower upper j : ℕ) → ℕ
turn_upper lower upper j = cond (eqb (line upper j) 1 && leb (2 ^ j) (upper - lower)) (upper + 1) upper

-- computed: such a number for any accepted bounds that cannot be halved [B6, N9]
unfoldable pub turn_value : (lower upper j : ℕ) → ℕ
turn_value lower upper j = cond (eqb (lower % 2) 1) (turn_lower lower upper j) (turn_upper lower upper j)

-- computed: a sample at which turning over the masked line i changes the hit [B6, N9]
unfoldable pub turn_sample : Range → (i : ℕ) → ℕ
turn_sample r i = scattered 32 (turn_value r.lower r.upper (ones_in i r.mask)) r.mask

-- computed: line i is masked in a and not in b, so b hits alike with the line turned over, and a does not [B6, N9]
unfoldable pub tell_line : (a b : Range) (i : ℕ) → ℕ
tell_line a b i = cond (beq (hit_of a (turn_sample a i)) (hit_of b (turn_sample a i))) (flip_line i (turn_sample a i)) (turn_sample a i)

-- computed: the lowest of n lines at which two masks differ [B6, N9]
unfoldable pub first_differ : (n m m' : ℕ) → ℕ
first_differ zero m m' = 0
first_differ (suc n) m m' = cond (eqb (m % 2) (m' % 2)) (suc (first_differ n (m / 2) (m' / 2))) 0

-- computed: a telling sample where line i is masked in just one of the two [B6, N9]
unfoldable pub tell_masks : (a b : Range) (i : ℕ) → ℕ
tell_masks a b i = cond (eqb (line a.mask i) 1) (tell_line a b i) (tell_line b a i)

-- computed: with one mask, the lesser of two lower bounds, or the greater of two upper ones [B6, N9]
unfoldable pub tell_bounds : (a b : Range) → Telling
tell_bounds a b =
    cond (eqb a.lower b.lower)
    (cond (eqb a.upper b.upper) Alike (Apart (Sample (scattered 32 (max a.upper b.upper) a.mask))))
    (Apart (Sample (scattered 32 (min a.lower b.lower) a.mask)))

-- computed: of two ranges without the lines that cannot matter [B6, N9]
unfoldable pub tell_reduced : (a b : Range) → Telling
tell_reduced a b = cond (eqb a.mask b.mask) (tell_bounds a b) (Apart (Sample (tell_masks a b (first_differ 32 a.mask b.mask))))

-- computed: a sample that tells, or that there is none; its meaning is Says, theorem telling_says [B6, K2, N6, N9, N10]
unfoldable pub range_telling : (old new : Range) → Telling
range_telling old new = tell_reduced (reduce_of old) (reduce_of new)
