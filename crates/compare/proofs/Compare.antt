-- Two lists of numbers compared one by one, as a loop does it. Assumes nothing.
use mathlib.Core.Path.{◌≡◌, refl, sym, ap, ap₂, ◌∙◌}
use mathlib.Core.Bool.{Bool, true, false, ◌&&◌, and_assoc}
use mathlib.Core.List.{List, [], ◌∷◌, ◌++◌}
use Prim.Native.Nat.{ℕ, ◌+◌, ◌-◌, ◌<◌, ◌≤◌}
use native.Mathlib.Numerals.{add-one}
use native.Mathlib.Omega.{arith}
use lib.Dec.{eqb}
use lib.ListN.{length, get_or, take, drop, take-append-drop, drop_of_length-le}
use lib.Seq.{drop-cons, drop-drop}
use borrow.Author.Tests.{eq-eqb, ne_eqb, eqb-true}
use Rattle.compare.specs.Same.{same}
use Rattle.lines.proofs.Truth.{both_true}

pub same_refl : (xs : List ℕ) → same xs xs ≡ true
unfolding same
same_refl [] = refl
same_refl (x ∷ xs) = rw (eq-eqb x x refl) (same_refl xs)

pub same_true : (xs ys : List ℕ) → same xs ys ≡ true → xs ≡ ys
unfolding same
same_true [] [] e = refl
same_true [] (y ∷ ys) e = cc
same_true (x ∷ xs) [] e = cc
same_true (x ∷ xs) (y ∷ ys) e =
    let b = both_true (eqb x y) (same xs ys) e in
    ap₂ (λ (z : ℕ) (zs : List ℕ). z ∷ zs) (eqb-true x y b.0) (same_true xs ys b.1)

pub same_equal : (xs ys : List ℕ) → xs ≡ ys → same xs ys ≡ true
same_equal xs ys e = ap (same xs) (cc) ∙ same_refl xs

pub same_false : (xs ys : List ℕ) → (xs ≡ ys → ⊥) → same xs ys ≡ false
same_false xs ys n = go (same xs ys) refl
  where
    go : (b : Bool) → same xs ys ≡ b → same xs ys ≡ false
    go true e = absurd (n (same_true xs ys e))
    go false e = e

-- lists of two lengths differ
pub same_lengths : (xs ys : List ℕ) → (length xs ≡ length ys → ⊥) → same xs ys ≡ false
same_lengths xs ys n = same_false xs ys (λ e. n (ap length e))

-- the numbers at i, and those after them
module _ (xs ys : List ℕ) (i : ℕ) (hx : i < length xs) (hy : i < length ys) where
  same_step : same (drop i xs) (drop i ys) ≡ eqb (get_or xs i 0) (get_or ys i 0) && same (drop (i + 1) xs) (drop (i + 1) ys)
  unfolding same
  same_step = rw add-one (ap₂ same (drop-cons xs i 0 hx) (drop-cons ys i 0 hy))

  pub same_more : get_or xs i 0 ≡ get_or ys i 0 → same (drop i xs) (drop i ys) ≡ same (drop (i + 1) xs) (drop (i + 1) ys)
  same_more e = same_step ∙ simp (eq-eqb (get_or xs i 0) (get_or ys i 0) e)

  pub same_differ : (get_or xs i 0 ≡ get_or ys i 0 → ⊥) → same (drop i xs) (drop i ys) ≡ false
  same_differ n = same_step ∙ simp (ne_eqb (get_or xs i 0) (get_or ys i 0) n)

pub same_end : (xs ys : List ℕ) (i : ℕ) → length xs ≤ i → length ys ≤ i → same (drop i xs) (drop i ys) ≡ true
unfolding same
same_end xs ys i hx hy = ap₂ same (drop_of_length-le xs hx) (drop_of_length-le ys hy)

-- the walk down, from index i
pub same_down : (xs ys : List ℕ) (i : ℕ) (above : Bool) → 0 < i → i ≤ length xs → i ≤ length ys → above ≡ same (drop i xs) (drop i ys)
    → (eqb (get_or xs (i - 1) 0) (get_or ys (i - 1) 0) && above) ≡ same (drop (i - 1) xs) (drop (i - 1) ys)
same_down xs ys i above p hx hy e =
    let next : i - 1 + 1 ≡ i = omega arith in
    let step = same_step xs ys (i - 1) (omega arith) (omega arith) in
    ap (λ (b : Bool). eqb (get_or xs (i - 1) 0) (get_or ys (i - 1) 0) && b) (e ∙ ap (λ (j : ℕ). same (drop j xs) (drop j ys)) (sym next)) ∙ sym step

unlike : false ≡ true → ⊥
unlike e = let z : ◌≡◌ {A = ℕ} 0 1 = cc in omega arith

-- the first n numbers and those from k on decide, where k is at most n
pub same_ends : (xs ys : List ℕ) (n k : ℕ) (first last : Bool) → k ≤ n → first ≡ same (take n xs) (take n ys) → last ≡ same (drop k xs) (drop k ys)
    → (first && last) ≡ same xs ys
same_ends xs ys n k first last h f l = go first last f l
  where
    go : (b c : Bool) → b ≡ same (take n xs) (take n ys) → c ≡ same (drop k xs) (drop k ys) → (b && c) ≡ same xs ys
    go false c f l = sym (same_false xs ys (λ q. unlike (f ∙ same_equal _ _ (ap (take n) q))))
    go true false f l = sym (same_false xs ys (λ q. unlike (l ∙ same_equal _ _ (ap (drop k) q))))
    go true true f l =
        let sum : k + (n - k) ≡ n = omega arith in
        let front = same_true (take n xs) (take n ys) (sym f) in
        let back = ap (drop (n - k)) (same_true (drop k xs) (drop k ys) (sym l)) in
        let rest : drop n xs ≡ drop n ys = rw (drop-drop (n - k) k xs, drop-drop (n - k) k ys, sum) at back in
        sym (same_equal xs ys (sym (take-append-drop n xs) ∙ ap₂ ◌++◌ front rest ∙ take-append-drop n ys))

-- two lists joined to two of equal length are compared part by part
pub same_append : (xs ys xs' ys' : List ℕ) → length xs ≡ length ys → same (xs ++ xs') (ys ++ ys') ≡ same xs ys && same xs' ys'
unfolding same
same_append [] [] xs' ys' e = refl
same_append [] (y ∷ ys) xs' ys' e = absurd (omega arith)
same_append (x ∷ xs) [] xs' ys' e = absurd (omega arith)
same_append (x ∷ xs) (y ∷ ys) xs' ys' e =
    let ih = same_append xs ys xs' ys' (omega arith) in
    ap (λ (b : Bool). eqb x y && b) ih ∙ sym (and_assoc (eqb x y) (same xs ys) (same xs' ys'))
