-- A run cut in two, a run that has ended, and what is taken. Each holds of any machine. Assumes nothing.
use Prim.Native.Nat.{ℕ, ◌≤◌}
use mathlib.Core.Path.{◌≡◌, refl, sym, ap, ◌∙◌}
use mathlib.Core.Bool.{Bool, true, false, cond, not, ◌&&◌, true≢false}
use mathlib.Core.List.{List, [], ◌∷◌, ◌++◌}
use native.Mathlib.Omega.{arith}
use lib.ListN.{length}
use Rattle.programme.specs.Machine.{Machine}
use Rattle.bench.specs.declared.Run.{Run}
use Rattle.bench.specs.Run.{takes, step, captures, next, handed_on, taken, Subsequence, done, kept, left}

module _ (m : Machine) where
  pub handed_pieces : (r : Run) (xs ys : List ℕ) → handed_on m r (xs ++ ys) ≡ handed_on m (handed_on m r xs) ys
  unfolding handed_on
  handed_pieces r [] ys = refl
  handed_pieces r (x ∷ xs) ys = handed_pieces (next m r x) xs ys

  pub taken_pieces : (r : Run) (xs ys : List ℕ) → taken m r (xs ++ ys) ≡ taken m r xs ++ taken m (handed_on m r xs) ys
  unfolding handed_on taken
  taken_pieces r [] ys = refl
  taken_pieces r (x ∷ xs) ys = go (captures m r x) _ _ _ (taken_pieces (next m r x) xs ys)
    where
      go : (b : Bool) (t u v : List ℕ) → t ≡ u ++ v → cond b (x ∷ t) t ≡ cond b (x ∷ u) u ++ v
      go true t u v e = ap (λ (l : List ℕ). x ∷ l) e
      go false t u v e = e

  stays : (r : Run) (x : ℕ) → r.ended ≡ true → next m r x ≡ r
  stays r x e = go r.ended e
    where
      go : (b : Bool) → b ≡ true → cond b r (step m r x) ≡ r
      go true e = refl
      go false e = absurd (true≢false (sym e))

  pub ended_hands_on : (r : Run) (xs : List ℕ) → r.ended ≡ true → handed_on m r xs ≡ r
  unfolding handed_on
  ended_hands_on r [] e = refl
  ended_hands_on r (x ∷ xs) e = ap (λ (q : Run). handed_on m q xs) (stays r x e) ∙ ended_hands_on r xs e

  pub ended_takes_nothing : (r : Run) (xs : List ℕ) → r.ended ≡ true → taken m r xs ≡ []
  unfolding taken
  ended_takes_nothing r [] e = refl
  ended_takes_nothing r (x ∷ xs) e =
      go r.ended (takes m r x) e _ ∙ ap (λ (q : Run). taken m q xs) (stays r x e) ∙ ended_takes_nothing r xs e
    where
      go : (b t : Bool) → b ≡ true → (l : List ℕ) → cond (not b && t) (x ∷ l) l ≡ l
      go true t e l = refl
      go false t e l = absurd (true≢false (sym e))

  pub taken_subsequence : (r : Run) (xs : List ℕ) → Subsequence (taken m r xs) xs
  unfolding taken
  taken_subsequence r [] = done
  taken_subsequence r (x ∷ xs) = go (captures m r x) _ (taken_subsequence (next m r x) xs)
    where
      go : (b : Bool) (t : List ℕ) → Subsequence t xs → Subsequence (cond b (x ∷ t) t) (x ∷ xs)
      go true t s = kept x s
      go false t s = left x s

subsequence_length : {xs ys : List ℕ} → Subsequence xs ys → length xs ≤ length ys
subsequence_length done = omega arith
subsequence_length (kept x s) = let ih = subsequence_length s in omega arith
subsequence_length (left x s) = let ih = subsequence_length s in omega arith

pub taken_length : (m : Machine) (r : Run) (xs : List ℕ) → length (taken m r xs) ≤ length xs
taken_length m r xs = subsequence_length (taken_subsequence m r xs)
