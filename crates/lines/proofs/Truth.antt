-- What tests say: a conjunction's parts, two tests that agree, and `a || b`, `a && b` as code computes them. Assumes nothing.
use mathlib.Core.Path.{◌≡◌, refl, sym, ◌∙◌}
use mathlib.Core.Bool.{Bool, true, false, ◌&&◌, ◌||◌, beq, true≢false}
use mathlib.Core.Logic.{◌⊎◌, inl, inr}
use Prim.Native.Nat.{ℕ, ◌≤◌}
use native.Mathlib.Decide.{ℕ_discrete, dec_le}
use native.Mathlib.Omega.{arith}
use borrow.Author.Tests.{eq-eqb, ne_eqb, le-leb, lt-leb}
use lib.Dec.{T, eqb, leb}

pub and_left : (a b : Bool) → T (a && b) → T a
and_left true b t = tt
and_left false b t = t

pub and_right : (a b : Bool) → T (a && b) → T b
and_right true b t = t
and_right false b t = absurd t

pub agree : (a b : Bool) → T (beq a b) → a ≡ b
agree true true t = refl
agree true false t = absurd t
agree false true t = absurd t
agree false false t = refl

-- two tests that do not agree differ
pub disagree : (a b : Bool) → beq a b ≡ false → a ≡ b → ⊥
disagree true true e p = true≢false e
disagree true false e p = true≢false p
disagree false true e p = true≢false (sym p)
disagree false false e p = true≢false e

pub T_true : (b : Bool) → b ≡ true → T b
T_true true e = tt
T_true false e = absurd (true≢false (sym e))

-- both parts of a true conjunction
pub both_true : (a b : Bool) → a && b ≡ true → (a ≡ true) × (b ≡ true)
both_true true b e = (refl, e)
both_true false b e = absurd (true≢false (sym e))

-- a part of a false one is false
pub both_false : (a b : Bool) → a && b ≡ false → (a ≡ false) ⊎ (b ≡ false)
both_false true b e = inr e
both_false false b e = inl refl

-- both parts of a false disjunction
pub neither : (a b : Bool) → a || b ≡ false → (a ≡ false) × (b ≡ false)
neither true b e = absurd (true≢false e)
neither false b e = (refl, e)

pub or_true : (b : Bool) → b || true ≡ true
or_true true = refl
or_true false = refl

-- a || b as the code computes it: the first test is true, or it is false and the second one decides
pub or_first : (a b x : Bool) → x ≡ true → x ≡ a → x ≡ a || b
or_first true b x p q = p
or_first false b x p q = absurd (true≢false (sym p ∙ q))

pub or_second : (a b x y : Bool) → y ≡ false → y ≡ a → x ≡ b → x ≡ a || b
or_second true b x y p q r = absurd (true≢false (sym q ∙ p))
or_second false b x y p q r = r

-- a && b as the code computes it
pub and_first : (a b x : Bool) → x ≡ false → x ≡ a → x ≡ a && b
and_first true b x p q = absurd (true≢false (sym q ∙ p))
and_first false b x p q = p

pub and_second : (a b x y : Bool) → y ≡ true → y ≡ a → x ≡ b → x ≡ a && b
and_second true b x y p q r = r
and_second false b x y p q r = absurd (true≢false (sym p ∙ q))

-- two tests of equality that hold together are equal
pub eqb_iff : (x y u v : ℕ) → (x ≡ y → u ≡ v) → (u ≡ v → x ≡ y) → eqb x y ≡ eqb u v
eqb_iff x y u v f g = go (ℕ_discrete x y)
  where
    go : Dec (x ≡ y) → eqb x y ≡ eqb u v
    go (yes p) = eq-eqb x y p ∙ sym (eq-eqb u v (f p))
    go (no n) = ne_eqb x y n ∙ sym (ne_eqb u v (λ q. n (g q)))

-- two orders that hold together are tested alike
pub leb_iff : (a b c d : ℕ) → (a ≤ b → c ≤ d) → (c ≤ d → a ≤ b) → leb a b ≡ leb c d
leb_iff a b c d f g = go (dec_le a b) (dec_le c d)
  where
    go : Dec (a ≤ b) → Dec (c ≤ d) → leb a b ≡ leb c d
    go (yes l) m = le-leb a b l ∙ sym (le-leb c d (f l))
    go (no n) (yes m) = absurd (n (g m))
    go (no n) (no m) = lt-leb a b (omega arith) ∙ sym (lt-leb c d (omega arith))
