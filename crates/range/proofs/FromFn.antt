-- An array made by a function of the index that changes no capture. Assumes nothing.
use Rattle.std.proofs.Common.{◌≡◌, ℕ, zero, suc, ◌+◌, ◌<◌, ◌≤◌, List, slice_index_or, subst, ◌∙◌, arith}
use native.Mathlib.Decide.{ℕ_discrete}
use Rattle.std.specs.Array.{IsFromFnResultFrom, IsFromFnResult}
use Rattle.std.specs.Fn.{Mut, Called}

module _ {F B : Type 0} (g : Mut F (ℕ × Unit {0}) B) (f : F) (made : ℕ → B) (n : ℕ)
    (calls : (i : ℕ) (b : B) (f' : F) → i < n → Called g f (i, tt) b f' → (b ≡ made i) × (f' ≡ f)) where
  from_on : (ys : List B) (i m k : ℕ) (d : B) → i + m ≡ n → IsFromFnResultFrom g f ys i m → i ≤ k → k < n → slice_index_or ys k d ≡ made k
  from_on ys i zero k d e h l u = absurd (omega arith)
  from_on ys i (suc m) k d e (q, y, at, call, later) l u =
      let now = calls i y q (omega arith) call in
      elim (ℕ_discrete i k) [
        | yes same ↦ subst (λ j. slice_index_or ys j d ≡ made j) same (at.1 d ∙ now.0)
        | no other ↦ from_on ys (i + 1) m k d (omega arith) (subst (λ p. IsFromFnResultFrom g p ys (i + 1) m) now.1 later) (omega arith) u
      ]

  -- the element at k is what the function makes of k
  pub from_fn_at : (ys : List B) → IsFromFnResult g f ys n → (k : ℕ) (d : B) → k < n → slice_index_or ys k d ≡ made k
  from_fn_at ys h k d u = from_on ys 0 n k d (omega arith) h.each (omega arith) u
