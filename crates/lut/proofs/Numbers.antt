-- A way back in numbers: what reads a description, and what refuses. Assumes nothing.
use mathlib.Core.Bool.{Bool, true, false, cond, true≢false}
use mathlib.Core.List.{List}
use mathlib.Core.Logic.{◌↔◌}
use mathlib.Core.Path.{◌≡◌, refl}
use native.Mathlib.Omega.{arith}
use Prim.Native.Nat.{ℕ}
use Rattle.lut.specs.Back.{Written, ReadNumbered}

module _ {D : Type 0} (Accepted : D → Type 0) (words_of : D → List ℕ) (words : List ℕ) where
  -- number 0 beside an accepted description that has the words
  pub numbered_read : Written Accepted words_of words → ReadNumbered Accepted words_of words 0 0
  numbered_read w = record { read = (λ e. w, λ v. refl); refused = (λ e. absurd (omega (arith, e)), λ none. absurd (none w)); first = refl }

  -- number 16 where none has
  pub numbered_refused : (Written Accepted words_of words → ⊥) → ReadNumbered Accepted words_of words 16 0
  numbered_refused none = record { read = (λ e. absurd (omega (arith, e)), λ w. absurd (none w)); refused = (λ e. none, λ n. refl); first = refl }

  -- of an answer that says beside its description whether there is one: it says so exactly where one has the words
  pub ok_iff_written : (ok : Bool) → ReadNumbered Accepted words_of words (cond ok 0 16) 0 → (ok ≡ false → ⊥) ↔ Written Accepted words_of words
  ok_iff_written true n = (λ _. n.read.0 refl, λ w e. true≢false e)
  ok_iff_written false n = (λ f. absurd (f refl), λ w e. n.refused.0 refl w)
