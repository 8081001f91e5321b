-- Tests over lines: equal tests give equal answers, and the lowest k + m lines are k lines above the lowest m. Assumes nothing.
use Prim.Native.Nat.{ℕ, zero, suc, ◌+◌, ◌%◌, ◌^◌, ◌<◌}
use mathlib.Core.Path.{◌≡◌, refl, sym, ap, ap₂, ◌∙◌}
use mathlib.Core.Bool.{Bool, true, false, not, ◌&&◌, ◌||◌}
use native.Mathlib.Decide.{ℕ_discrete}
use native.Mathlib.Nat.{zero-add, suc-add, zero-div, le-suc, le_refl, le_trans, not-suc-le-zero, le_of_suc-le-suc, eq-or-lt_of_le}
use mathlib.Core.Logic.{⊎_elim}
use borrow.Author.Tests.{eq-eqb, ne_eqb, eqb-true}
use lib.Dec.{eqb}
use lib.Pow.{pow_pos}
use Rattle.lines.specs.Line.{line, over_lines, any_line, every_line}
use Rattle.lines.proofs.Digit.{lines_same}
use Rattle.lines.proofs.Truth.{both_true, or_true}

-- a test that holds at every line holds at each; one that holds at a line holds at some; one that holds at none does not
pub every_at : (k : ℕ) (p : ℕ → Bool) → every_line k p ≡ true → (i : ℕ) → i < k → p i ≡ true
unfolding over_lines
every_at zero p e i h = absurd (not-suc-le-zero h)
every_at (suc k) p e i h =
    ⊎_elim (λ q. rw q (both_true (p k) (every_line k p) e).0) (every_at k p (both_true (p k) (every_line k p) e).1 i)
    (eq-or-lt_of_le (le_of_suc-le-suc h))

pub every_all : (k : ℕ) (p : ℕ → Bool) → ((i : ℕ) → i < k → p i ≡ true) → every_line k p ≡ true
unfolding over_lines
every_all zero p h = refl
every_all (suc k) p h = rw (h k (le_refl (suc k))) (every_all k p (λ i g. h i (le_trans g (le-suc k))))

pub any_at : (k : ℕ) (p : ℕ → Bool) (i : ℕ) → i < k → p i ≡ true → any_line k p ≡ true
unfolding over_lines
any_at zero p i h t = absurd (not-suc-le-zero h)
any_at (suc k) p i h t =
    ⊎_elim (λ q. rw (← q, t)) (λ g. rw (any_at k p i g t) (or_true (p k))) (eq-or-lt_of_le (le_of_suc-le-suc h))

pub any_none : (k : ℕ) (p : ℕ → Bool) → ((i : ℕ) → i < k → p i ≡ false) → any_line k p ≡ false
unfolding over_lines
any_none zero p h = refl
any_none (suc k) p h = rw (h k (le_refl (suc k))) (any_none k p (λ i g. h i (le_trans g (le-suc k))))

-- a test that holds where another does holds at a line if that one does
pub any_more : (k : ℕ) (p q : ℕ → Bool) → ((i : ℕ) → i < k → p i ≡ true → q i ≡ true) → any_line k p ≡ true → any_line k q ≡ true
unfolding over_lines
any_more zero p q h e = e
any_more (suc k) p q h e = go (p k) refl e (any_more k p q (λ i g. h i (le_trans g (le-suc k))))
  where
    go : (b : Bool) → p k ≡ b → b || any_line k p ≡ true → (any_line k p ≡ true → any_line k q ≡ true) → q k || any_line k q ≡ true
    go true s t ih = rw (h k (le_refl (suc k)) s)
    go false s t ih = rw (ih t) (or_true (q k))

-- not every line passes a test exactly when some line fails it
pub not_every : (k : ℕ) (p : ℕ → Bool) → not (every_line k p) ≡ any_line k (λ i. not (p i))
unfolding over_lines
not_every zero p = refl
not_every (suc k) p = go (p k) ∙ ap (λ (b : Bool). not (p k) || b) (not_every k p)
  where
    go : (b : Bool) → not (b && every_line k p) ≡ not b || not (every_line k p)
    go true = refl
    go false = refl

module _ (join : Bool → Bool → Bool) (none : Bool) where
  pub lines_cong : (k : ℕ) (p q : ℕ → Bool) → ((i : ℕ) → i < k → p i ≡ q i) → over_lines join none k p ≡ over_lines join none k q
  unfolding over_lines
  lines_cong zero p q h = refl
  lines_cong (suc k) p q h = ap₂ join (h k (le_refl (suc k))) (lines_cong k p q (λ i g. h i (le_trans g (le-suc k))))

  module _ (unit : (b : Bool) → join none b ≡ b) (assoc : (a b c : Bool) → join (join a b) c ≡ join a (join b c)) where
    pub lines_split : (k m : ℕ) (p : ℕ → Bool)
        → over_lines join none (k + m) p ≡ join (over_lines join none k (λ j. p (j + m))) (over_lines join none m p)
    unfolding over_lines
    lines_split zero m p = ap (λ (i : ℕ). over_lines join none i p) (zero-add m) ∙ sym (unit (over_lines join none m p))
    lines_split (suc k) m p =
        ap (λ (i : ℕ). over_lines join none i p) (suc-add k m)
        ∙ ap (λ (b : Bool). join (p (k + m)) b) (lines_split k m p)
        ∙ sym (assoc (p (k + m)) (over_lines join none k (λ j. p (j + m))) (over_lines join none m p))

-- two numbers are equal when each of their lines is; a number is 0 when each of its lines is
pub same_lines : (k a b : ℕ) → a < 2 ^ k → b < 2 ^ k → eqb a b ≡ every_line k (λ i. eqb (line a i) (line b i))
same_lines k a b ha hb = go (ℕ_discrete a b)
  where
    told : (answer : Bool) → every_line k (λ i. eqb (line a i) (line b i)) ≡ answer → (a ≡ b → ⊥)
        → every_line k (λ i. eqb (line a i) (line b i)) ≡ false
    told true e n =
        absurd (n (lines_same k a b ha hb (λ i h. eqb-true (line a i) (line b i) (every_at k (λ i. eqb (line a i) (line b i)) e i h))))
    told false e n = e

    go : Dec (a ≡ b) → eqb a b ≡ every_line k (λ i. eqb (line a i) (line b i))
    go (yes p) =
        eq-eqb a b p
        ∙ sym (every_all k (λ i. eqb (line a i) (line b i)) (λ i h. eq-eqb (line a i) (line b i) (ap (λ (x : ℕ). line x i) p)))
    go (no n) = ne_eqb a b n ∙ sym (told (every_line k (λ i. eqb (line a i) (line b i))) refl n)

pub none_set : (k x : ℕ) → x < 2 ^ k → eqb x 0 ≡ every_line k (λ i. eqb (line x i) 0)
none_set k x h =
    same_lines k x 0 h (pow_pos k)
    ∙ lines_cong ◌&&◌ true k _ _ (λ i l. ap (λ (q : ℕ). eqb (line x i) (q % 2)) (zero-div (2 ^ i)))
