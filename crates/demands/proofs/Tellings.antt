-- What tells two descriptions of one section apart: where some input does, one is shown, and a pattern's is the least.
-- Assumes nothing.
use Prim.Native.Nat.{ℕ}
use mathlib.Core.Path.{◌≡◌, refl, ap, subst}
use mathlib.Core.Bool.{Bool}
use mathlib.Core.List.{List}
use native.Mathlib.Omega.{arith}
use Rattle.lut.specs.declared.Input.{Input}
use Rattle.lut.specs.declared.Input.TheVariants.{Nothing, Sample, Samples, Sources}
use Rattle.lut.specs.Table.{one_if}
use Rattle.lut.specs.Input.{in_numbers}
use Rattle.lut.specs.declared.Telling.{Telling}
use Rattle.lut.specs.declared.Telling.TheVariants.{Alike, Apart}
use Rattle.lut.specs.Telling.{NoneLess, Says, Least}
use Rattle.peek.specs.Bytes.{Bytes}
use Rattle.term.specs.Rule as term_rule
use Rattle.term.specs.Description as term
use Rattle.term.proofs.Theorems as term_theorems
use Rattle.term.proofs.Ways as term_ways
use Rattle.kinds.specs.Table.{TERMS, kind_of, description_fault, shows_of, telling_of}
use Rattle.demands.specs.Apart.{SomeInputTells}

-- where some input tells the two apart, one is shown
pub one_shown : (k : ℕ) (d e : List ℕ) → Says (shows_of k d) (shows_of k e) (telling_of k d e) → SomeInputTells k d e
    → (i : Input) × (telling_of k d e ≡ Apart i)
one_shown k d e says w = go (telling_of k d e) says
  where
    go : (t : Telling) → Says (shows_of k d) (shows_of k e) t → (i : Input) × (t ≡ Apart i)
    go Alike says = absurd (w.tells.tells (says w.input w.tells.fits))
    go (Apart i) says = (i, refl)

-- what is shown is what tells
shown : Telling → Input
shown Alike = Nothing
shown (Apart i) = i

less_in_numbers : (f g : Input → Bool) (i : Input) → NoneLess f g i → NoneLess (in_numbers f) (in_numbers g) i
less_in_numbers f g Nothing n = tt
less_in_numbers f g (Sample s) n = λ r l. ap one_if (n r l)
less_in_numbers f g (Samples earlier later) n = tt
less_in_numbers f g (Sources s) n = λ r l. ap one_if (n r l)

told_least : (f g : Input → Bool) (t : Telling) (i : Input) → Least f g t → t ≡ Apart i → NoneLess (in_numbers f) (in_numbers g) i
unfolding shown
told_least f g Alike i l q = let z : ◌≡◌ {A = ℕ} 0 1 = cc in absurd (omega arith)
told_least f g (Apart j) i l q = less_in_numbers f g i (subst (NoneLess f g) (ap shown q) l)

pub least : (d e : List ℕ) (i : Input) → Bytes d → Bytes e → description_fault TERMS d ≡ 0 → description_fault TERMS e ≡ 0
    → telling_of TERMS d e ≡ Apart i → NoneLess (shows_of TERMS d) (shows_of TERMS e) i
unfolding description_fault shows_of telling_of kind_of term.telling
least d e i bd be fd fe =
    told_least (term_rule.hit (term.from_bytes d)) (term_rule.hit (term.from_bytes e)) (term.telling d e) i
    (term_theorems.telling_least (term.from_bytes d) (term.from_bytes e) (term_ways.accepted d bd fd) (term_ways.accepted e be fe))
