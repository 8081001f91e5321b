-- What stands in the room of a notice, line by line.
use Rattle.std.specs.Prelude.{ℕ, take}
use mathlib.Core.List.{List, Memᴰ}
use Rattle.lut.specs.declared.Input.{Input}
use Rattle.lut.specs.Input.{Fits}
use Rattle.lut.specs.declared.Telling.TheVariants.{Apart}
use Rattle.findings.specs.declared.Finding.{Finding}
use Rattle.findings.specs.declared.Finding.TheVariants.{Changed}
use Rattle.findings.specs.Findings.{line}
use Rattle.notice.specs.Text.{render}
unfoldable pub use Rattle.notice.specs.Split.{split_from}
pub use Rattle.notice.specs.Split.{lines_in}
use Rattle.notice.specs.declared.Noticed.{Noticed}
use Rattle.notice.specs.Notice.{noticed_place}

-- what the notice's call wrote: as many bytes, from the room's start on, as its answer says [A1, A5]
abbrev pub written : (r : Noticed) (room : List ℕ) → List ℕ
written r room = take (noticed_place r) room

-- the text has the line with this finding for a slot of section k [N3]
abbrev pub Stands : (text : List ℕ) (k slot : ℕ) → Finding → Type 0
Stands text k slot f = Memᴰ (render (line k slot f)) (lines_in text)

-- the text has an *alteration line*, the buyer's term: one with ALTR, for a slot; and the input that it shows [G10]
pub record AlterationIn (text : List ℕ) (k slot : ℕ) : Type 0 where
  pub input : Input
  pub fits : Fits input
  pub there : Stands text k slot (Changed (Apart input))
