-- What it is that some input tells two descriptions of one section apart.
use Rattle.std.specs.Prelude.{List, ℕ}
use Rattle.lut.specs.declared.Input.{Input}
use Rattle.lut.specs.Telling.{TellsApart}
use Rattle.kinds.specs.Table.{shows_of}

-- some input tells the two descriptions of section k apart [G7, D3.5]
pub record SomeInputTells (k : ℕ) (old new : List ℕ) : Type 0 where
  pub input : Input
  pub tells : TellsApart (shows_of k old) (shows_of k new) input
