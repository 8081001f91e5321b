-- Laws of `all_within`: what it says of each byte, and what each way out of the walk of `all_within` tells. Assumes nothing.
use borrow.Author.Tests.{leb-true}
use native.Mathlib.Omega.{arith}
use native.Mathlib.Nat.{not-suc-le-zero}
use native.Mathlib.Numerals.{add-one}
use Prim.Native.Nat.{ℕ, zero, suc, ◌+◌, ◌-◌, ◌≤◌, ◌<◌}
use mathlib.Core.Bool.{Bool, true, false, ◌&&◌, and_assoc, and-eq-true_iff}
use mathlib.Core.List.{List, [], ◌∷◌, ◌++◌}
use mathlib.Core.Path.{◌≡◌, refl, sym, ap, ap₂, ◌∙◌}
use lib.Dec.{leb}
use lib.ListN.{length, get_or, take, drop, take-append-drop, drop_of_length-le}
use lib.Seq.{drop-cons}
use Rattle.peek.specs.Bytes.{Bytes}
use Rattle.compare.specs.Within.{all_within}
use Rattle.peek.proofs.Numbers.{bytes_nil, bytes_cons}

-- ---- what it says

pub within_at : (low high : ℕ) (s : List ℕ) (i : ℕ) → all_within low high s ≡ true → i < length s → (low ≤ get_or s i 0) × (get_or s i 0 ≤ high)
unfolding all_within
within_at low high [] i e h = absurd (not-suc-le-zero h)
within_at low high (b ∷ s) zero e h =
    let p = (and-eq-true_iff (leb low b && leb b high) (all_within low high s)).0 e in
    let q = (and-eq-true_iff (leb low b) (leb b high)).0 p.0 in
    (leb-true low b q.0, leb-true b high q.1)
within_at low high (b ∷ s) (suc i) e h = within_at low high s i ((and-eq-true_iff (leb low b && leb b high) (all_within low high s)).0 e).1 (omega arith)

pub within_bytes : (low high : ℕ) (s : List ℕ) → high < 256 → all_within low high s ≡ true → Bytes s
unfolding all_within
within_bytes low high [] h e = bytes_nil
within_bytes low high (b ∷ s) h e =
    let p = (and-eq-true_iff (leb low b && leb b high) (all_within low high s)).0 e in
    let q = (and-eq-true_iff (leb low b) (leb b high)).0 p.0 in
    bytes_cons b s (omega (arith, leb-true b high q.1)) (within_bytes low high s h p.1)

pub within_append : (low high : ℕ) (s t : List ℕ) → all_within low high (s ++ t) ≡ (all_within low high s && all_within low high t)
unfolding all_within
within_append low high [] t = refl
within_append low high (b ∷ s) t =
    ap (λ (x : Bool). leb low b && leb b high && x) (within_append low high s t)
    ∙ sym (and_assoc (leb low b && leb b high) (all_within low high s) (all_within low high t))

-- ---- the walk, at index i

module _ (low high : ℕ) (s : List ℕ) (i : ℕ) where
  step : i < length s → all_within low high (drop i s) ≡ (leb low (get_or s i 0) && leb (get_or s i 0) high && all_within low high (drop (i + 1) s))
  unfolding all_within
  step h = rw (add-one, drop-cons s i 0 h) refl

  module _ (h : i < length s) (here : Bool) (e : here ≡ (leb low (get_or s i 0) && leb (get_or s i 0) high)) where
    pub within_not : here ≡ false → all_within low high (drop i s) ≡ false
    within_not n = step h ∙ ap (λ (b : Bool). b && all_within low high (drop (i + 1) s)) (sym e ∙ n)

    pub within_next : here ≡ true → all_within low high (drop i s) ≡ all_within low high (drop (i + 1) s)
    within_next y = step h ∙ ap (λ (b : Bool). b && all_within low high (drop (i + 1) s)) (sym e ∙ y)

  pub within_end : length s ≤ i → all_within low high (drop i s) ≡ true
  unfolding all_within
  within_end h = rw (drop_of_length-le s h) refl

-- ---- the walk down, from index i, and the first eight before the rest

pub within_down : (low high : ℕ) (s : List ℕ) (i : ℕ) (here above : Bool) → 0 < i → i ≤ length s
    → here ≡ (leb low (get_or s (i - 1) 0) && leb (get_or s (i - 1) 0) high) → above ≡ all_within low high (drop i s)
    → (here && above) ≡ all_within low high (drop (i - 1) s)
within_down low high s i here above p h e f =
    let same : i - 1 + 1 ≡ i = omega arith in
    ap₂ ◌&&◌ e (f ∙ ap (λ (j : ℕ). all_within low high (drop j s)) (sym same)) ∙ sym (step low high s (i - 1) (omega arith))

module _ (low high : ℕ) (s : List ℕ) (first : Bool) (e : first ≡ all_within low high (take 8 s)) where
  parts : all_within low high s ≡ (first && all_within low high (drop 8 s))
  parts = ap (all_within low high) (sym (take-append-drop 8 s)) ∙ within_append low high (take 8 s) (drop 8 s) ∙ ap (λ (b : Bool). b && all_within low high (drop 8 s)) (sym e)

  pub eight_not : first ≡ false → all_within low high s ≡ false
  eight_not n = parts ∙ ap (λ (b : Bool). b && all_within low high (drop 8 s)) n

  pub eight_then : first ≡ true → all_within low high s ≡ all_within low high (drop 8 s)
  eight_then y = parts ∙ ap (λ (b : Bool). b && all_within low high (drop 8 s)) y
