-- What tells two sums apart, over the bytes of their descriptions.
use Rattle.std.specs.Prelude.{ℕ, List}
use Rattle.lut.specs.declared.Telling.{Telling}
use Rattle.sum.specs.Description.{from_bytes}
use Rattle.sum_telling.specs.Telling.{sum_telling}

-- the least pattern of the sources that tells two descriptions apart, if one does [N6, N9]
unfoldable pub telling : (old new : List ℕ) → Telling
telling old new = sum_telling (from_bytes old) (from_bytes new)
