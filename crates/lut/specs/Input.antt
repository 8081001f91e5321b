-- What a description is asked with, whatever its kind.
use Rattle.std.specs.Prelude.{Bool, false, ℕ, ◌^◌, ◌<◌}
use Rattle.lut.specs.Table.{one_if}
use Rattle.lut.specs.declared.Input.{Input}
use Rattle.lut.specs.declared.Input.TheVariants.{Nothing, Sample, Samples, Sources}

-- samples have 32 lines, and there are sixteen sources [G5, G15, B1]
abbrev pub Fits : Input → Type 0
Fits Nothing = Unit
Fits (Sample s) = s < 2 ^ 32
Fits (Samples earlier later) = (earlier < 2 ^ 32) × (later < 2 ^ 32)
Fits (Sources s) = s < 2 ^ 16

-- the rule of a kind that is shown one sample, over any input: it misses on those of another kind [G5, G15]
abbrev pub on_sample : (ℕ → Bool) → Input → Bool
on_sample f Nothing = false
on_sample f (Sample s) = f s
on_sample f (Samples earlier later) = false
on_sample f (Sources s) = false

-- the same of a kind that is shown an earlier and a later sample [G5, G15]
abbrev pub on_samples : (ℕ → ℕ → Bool) → Input → Bool
on_samples f Nothing = false
on_samples f (Sample s) = false
on_samples f (Samples earlier later) = f earlier later
on_samples f (Sources s) = false

-- the same of a kind that is shown sixteen sources [G15, M6]
abbrev pub on_sources : (ℕ → Bool) → Input → Bool
on_sources f Nothing = false
on_sources f (Sample s) = false
on_sources f (Samples earlier later) = false
on_sources f (Sources s) = f s

-- what a hit shows, 1, and what a miss shows, 0 [G16]
abbrev pub in_numbers : (Input → Bool) → Input → ℕ
in_numbers f i = one_if (f i)

-- what is shown by a kind that is asked with nothing; on every other input it shows 0 [G16]
abbrev pub on_nothing : ℕ → Input → ℕ
on_nothing n Nothing = n
on_nothing n (Sample s) = 0
on_nothing n (Samples earlier later) = 0
on_nothing n (Sources s) = 0
