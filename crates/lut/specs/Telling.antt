-- What it is to hit alike and to be told apart, for two descriptions of one kind given by what they show on an input: a
-- detector whether it hits, a state its word. Hit alike, tell apart and telling sample are the buyer's terms.
use Rattle.std.specs.Prelude.{◌≡◌, ℕ, ◌<◌}
use Rattle.lut.specs.declared.Input.{Input}
use Rattle.lut.specs.declared.Input.TheVariants.{Nothing, Sample, Samples, Sources}
use Rattle.lut.specs.declared.Telling.{Telling}
use Rattle.lut.specs.declared.Telling.TheVariants.{Alike, Apart}
use Rattle.lut.specs.Input.{Fits}

-- the two hit alike on every input: what is promised of equal chain words [G6, G16, D3.1, D3.2, D3.3]
abbrev pub HitAlike : {A : Type 0} (f g : Input → A) → Type 0
HitAlike f g = (i : Input) → Fits i → f i ≡ g i

-- on this input one hits and the other misses: it is a telling sample [G7, G8, G16, D3.6]
pub record TellsApart {A : Type 0} (f g : Input → A) (i : Input) : Type 0 where
  pub fits : Fits i
  pub tells : f i ≡ g i → ⊥

-- what an answer says of two descriptions: no input tells them apart, or this one does [N6, D3.5]
abbrev pub Says : {A : Type 0} (f g : Input → A) → Telling → Type 0
Says f g Alike = HitAlike f g
Says f g (Apart i) = TellsApart f g i

-- no lesser sample, and no lesser pattern of sources, tells them apart; of two samples nothing is asked [N9, D3.7]
abbrev pub NoneLess : {A : Type 0} (f g : Input → A) → Input → Type 0
NoneLess f g Nothing = Unit
NoneLess f g (Sample s) = (r : ℕ) → r < s → f (Sample r) ≡ g (Sample r)
NoneLess f g (Samples earlier later) = Unit
NoneLess f g (Sources s) = (r : ℕ) → r < s → f (Sources r) ≡ g (Sources r)

-- what an answer that shows the least one says besides [N9, D3.7]
abbrev pub Least : {A : Type 0} (f g : Input → A) → Telling → Type 0
Least f g Alike = Unit
Least f g (Apart i) = NoneLess f g i
