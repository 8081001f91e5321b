-- What running as many words as are needed gives, and any other count; and the same in numbers. Assumes nothing.
use mathlib.Core.Path.{◌≡◌, refl, sym, subst}
use mathlib.Core.Bool.{Bool, true, false, cond}
use mathlib.Core.List.{List}
use Prim.Native.Nat.{ℕ}
use lib.Dec.{eqb}
use lib.ListN.{length}
use borrow.Author.Tests.{eq-eqb, ne_eqb}
use Rattle.lut.specs.Answer.{hit_or_miss, ran, answer_number, answer_place, RunNumbered}
use Rattle.lut.specs.declared.Answer.{Answer}
use Rattle.lut.specs.declared.Answer.TheVariants.{WrongCount}

pub run_needed : (n : ℕ) (ws : List ℕ) (hit b : Bool) → length ws ≡ n → hit ≡ b → ran n ws hit ≡ hit_or_miss b
run_needed n ws hit b e h = simp (eq-eqb _ _ e, h)

pub run_other : (n : ℕ) (ws : List ℕ) (hit : Bool) → (length ws ≡ n → ⊥) → ran n ws hit ≡ WrongCount n
run_other n ws hit e = simp (ne_eqb _ _ e)

-- the answer in numbers, and with the answer itself as a contract has it
pub ran_numbered : (n : ℕ) (ws : List ℕ) (hit : Bool) → RunNumbered n ws (ran n ws hit)
ran_numbered n ws hit = record { number = number (eqb (length ws) n) hit; place = place (eqb (length ws) n) hit }
  where
    number : (b hit : Bool) → answer_number (cond b (hit_or_miss hit) (WrongCount n)) ≡ cond b 0 17
    number true true = refl
    number true false = refl
    number false hit = refl

    place : (b hit : Bool) → answer_place (cond b (hit_or_miss hit) (WrongCount n)) ≡ cond b 0 n
    place true true = refl
    place true false = refl
    place false hit = refl

pub run_meets : (n : ℕ) (ws : List ℕ) (hit : Bool) (r : Answer) → r ≡ ran n ws hit → (r ≡ ran n ws hit) × RunNumbered n ws r
run_meets n ws hit r e = (e, subst (RunNumbered n ws) (sym e) (ran_numbered n ws hit))
