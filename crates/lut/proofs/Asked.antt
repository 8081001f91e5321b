-- What holds of every kind, whatever it is asked with. Assumes nothing.
use mathlib.Core.Bool.{Bool, true, false}
use mathlib.Core.Logic.{◌↔◌}
use mathlib.Core.Path.{◌≡◌, refl, ap, subst}
use native.Mathlib.Omega.{arith}
use Prim.Native.Nat.{ℕ, ◌^◌, ◌<◌}
use Rattle.lut.specs.declared.Input.{Input}
use Rattle.lut.specs.declared.Input.TheVariants.{Nothing, Sample, Samples, Sources}
use Rattle.lut.specs.declared.Telling.{Telling}
use Rattle.lut.specs.declared.Telling.TheVariants.{Alike, Apart}
use Rattle.lut.specs.Table.{one_if}
use Rattle.lut.specs.Input.{on_sample, on_samples, on_sources, in_numbers}
use Rattle.lut.specs.Telling.{HitAlike, TellsApart, Says}

-- descriptions that are asked with a sample hit alike on every input if they do on every sample
pub alike_on_samples : (f g : ℕ → Bool) → ((s : ℕ) → s < 2 ^ 32 → f s ≡ g s) → HitAlike (on_sample f) (on_sample g)
alike_on_samples f g h Nothing i = refl
alike_on_samples f g h (Sample s) i = h s i
alike_on_samples f g h (Samples earlier later) i = refl
alike_on_samples f g h (Sources s) i = refl

-- and those that are asked with two
pub alike_on_pairs : (f g : ℕ → ℕ → Bool) → ((e l : ℕ) → e < 2 ^ 32 → l < 2 ^ 32 → f e l ≡ g e l) → HitAlike (on_samples f) (on_samples g)
alike_on_pairs f g h Nothing i = refl
alike_on_pairs f g h (Sample s) i = refl
alike_on_pairs f g h (Samples earlier later) i = h earlier later i.0 i.1
alike_on_pairs f g h (Sources s) i = refl

-- and those that are asked with sixteen sources
pub alike_on_sources : (f g : ℕ → Bool) → ((s : ℕ) → s < 2 ^ 16 → f s ≡ g s) → HitAlike (on_sources f) (on_sources g)
alike_on_sources f g h Nothing i = refl
alike_on_sources f g h (Sample s) i = refl
alike_on_sources f g h (Samples earlier later) i = refl
alike_on_sources f g h (Sources s) i = h s i

-- the answer is Alike exactly where no input tells the two apart
pub alike_iff : {A : Type 0} (f g : Input → A) (t : Telling) → Says f g t → (t ≡ Alike) ↔ HitAlike f g
alike_iff f g t says = (λ e. subst (Says f g) e says, λ alike. go t says alike)
  where
    go : (t : Telling) → Says f g t → HitAlike f g → t ≡ Alike
    go Alike says alike = refl
    go (Apart i) says alike = absurd (says.tells (alike i says.fits))

-- ---- a hit as a number tells what the hit tells

pub one_inj : (a b : Bool) → one_if a ≡ one_if b → a ≡ b
one_inj true true e = refl
one_inj true false e = absurd (omega arith)
one_inj false true e = absurd (omega arith)
one_inj false false e = refl

module _ (f g : Input → Bool) where
  pub alike_in_numbers : HitAlike (in_numbers f) (in_numbers g) ↔ HitAlike f g
  alike_in_numbers = (λ h i fits. one_inj (f i) (g i) (h i fits), λ h i fits. ap one_if (h i fits))

  pub apart_in_numbers : (i : Input) → TellsApart (in_numbers f) (in_numbers g) i ↔ TellsApart f g i
  apart_in_numbers i = (
    λ t. record { fits = t.fits; tells = λ e. t.tells (ap one_if e) },
    λ t. record { fits = t.fits; tells = λ e. t.tells (one_inj (f i) (g i) e) },
  )

  pub says_in_numbers : (t : Telling) → Says f g t → Says (in_numbers f) (in_numbers g) t
  says_in_numbers Alike h = alike_in_numbers.1 h
  says_in_numbers (Apart i) h = (apart_in_numbers i).1 h
