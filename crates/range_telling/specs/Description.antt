-- What tells two ranges apart, over the bytes of their descriptions.
use Rattle.std.specs.Prelude.{ℕ, List}
use Rattle.lut.specs.declared.Telling.{Telling}
use Rattle.range.specs.Description.{from_bytes}
use Rattle.range_telling.specs.Telling.{range_telling}

-- computed: a sample that tells two descriptions apart, if one does; theorem telling_says [B6, N6, N9]
unfoldable pub telling : (old new : List ℕ) → Telling
telling old new = range_telling (from_bytes old) (from_bytes new)
