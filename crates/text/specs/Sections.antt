-- Which sections have a name.
use Rattle.std.specs.Prelude.{Bool, true, false, Option, Some, None}
use Rattle.text.specs.declared.Section.{Section}

-- whether it is a section that sheets have [T9]
abbrev pub is_named : Option Section → Bool
is_named (Some section) = true
is_named None = false
