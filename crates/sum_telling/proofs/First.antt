-- The first number that passes a test. Assumes nothing.
use Prim.Native.Nat.{ℕ, zero, suc, ◌+◌, ◌-◌, ◌*◌, ◌/◌, ◌%◌, ◌≤◌, ◌<◌}
use mathlib.Core.Path.{◌≡◌, refl, sym, ap, ap₂, subst, ◌∙◌}
use mathlib.Core.Bool.{Bool, true, false, cond}
use mathlib.Core.List.{List}
use native.Mathlib.Decide.{ℕ_discrete, dec_lt}
use native.Mathlib.Omega.{arith}
use borrow.Author.Tests.{eq-eqb, ne_eqb}
use lib.Count.{count_trailing_zeros, under, trailing_of_zero}
use lib.Dec.{eqb}
use lib.ListN.{get_or}
use Rattle.lines.specs.Line.{line}
use Rattle.lines.proofs.Digit.{line_zero, line_half}
use Rattle.lut.specs.Table.{one_if}
use Rattle.lut.proofs.Tables.{one_is}
use Rattle.sum_telling.specs.Telling.{first_from}

pub first_is : (test : ℕ → Bool) (n s t : ℕ) → s ≤ t → t ≤ s + n → ((r : ℕ) → s ≤ r → r < t → test r ≡ false) → (t < s + n → test t ≡ true)
    → first_from test n s ≡ t
unfolding first_from
first_is test zero s t l m before passes = omega arith
first_is test (suc n) s t l m before passes =
    go (ℕ_discrete s t)
    (λ less. first_is test n (suc s) t less (omega arith) (λ r h k. before r (omega (arith, h)) k) (λ h. passes (omega (arith, h))))
  where
    go : Dec (s ≡ t) → (suc s ≤ t → first_from test n (suc s) ≡ t) → cond (test s) s (first_from test n (suc s)) ≡ t
    go (yes e) later = rw (ap test e ∙ passes (omega arith)) e
    go (no e) later = rw (before s (omega arith) (omega arith)) (later (omega (arith, e)))

-- what the first one is
pub record First (test : ℕ → Bool) (n s t : ℕ) : Type 0 where
  pub from : s ≤ t
  pub within : t ≤ s + n
  pub before : (r : ℕ) → s ≤ r → r < t → test r ≡ false
  pub passes : t < s + n → test t ≡ true

pub first_found : (test : ℕ → Bool) (n s : ℕ) → First test n s (first_from test n s)
unfolding first_from
first_found test zero s = record { from = omega arith; within = omega arith; before = λ r h k. absurd (omega (arith, h, k)); passes = λ h. absurd (omega (arith, h)) }
first_found test (suc n) s = go (test s) refl (first_found test n (suc s))
  where
    later : test s ≡ false → (t : ℕ) → First test n (suc s) t → (r : ℕ) → s ≤ r → r < t → Dec (s ≡ r) → test r ≡ false
    later e t f r h k (yes q) = ap test (sym q) ∙ e
    later e t f r h k (no q) = f.before r (omega (arith, h, q)) k

    go : (b : Bool) → test s ≡ b → First test n (suc s) (first_from test n (suc s)) → First test (suc n) s (cond b s (first_from test n (suc s)))
    go true e f = record { from = omega arith; within = omega arith; before = λ r h k. absurd (omega (arith, h, k)); passes = λ h. e }
    go false e f =
        let t = first_from test n (suc s) in
        record {
          from = omega (arith, f.from);
          within = omega (arith, f.within);
          before = λ r h k. later e t f r h k (ℕ_discrete s r);
          passes = λ h. f.passes (omega (arith, h));
        }

-- ---- the lowest line of a number is the first that is 1

-- tests that agree
pub first_same : (p q : ℕ → Bool) (n s : ℕ) → ((r : ℕ) → s ≤ r → r < s + n → p r ≡ q r) → first_from p n s ≡ first_from q n s
unfolding first_from
first_same p q zero s e = refl
first_same p q (suc n) s e =
    ap₂ (λ (b : Bool) (x : ℕ). cond b s x) (e s (omega arith) (omega arith)) (first_same p q n (suc s) (λ r h l. e r (omega (arith, h)) (omega (arith, l))))

-- a test of what comes one later
first_later : (p : ℕ → Bool) (n s : ℕ) → first_from p n (suc s) ≡ suc (first_from (λ r. p (suc r)) n s)
unfolding first_from
first_later p zero s = refl
first_later p (suc n) s = go (p (suc s)) (first_later p n (suc s))
  where
    go : (b : Bool) → first_from p n (suc (suc s)) ≡ suc (first_from (λ r. p (suc r)) n (suc s))
        → cond b (suc s) (first_from p n (suc (suc s))) ≡ suc (cond b s (first_from (λ r. p (suc r)) n (suc s)))
    go true e = refl
    go false e = e

abbrev line_test : ℕ → ℕ → Bool
line_test x k = eqb (line x k) 1

pub lowest_line_law : (d x : ℕ) → count_trailing_zeros d x ≡ first_from (line_test x) d 0
unfolding count_trailing_zeros first_from
lowest_line_law zero x = refl
lowest_line_law (suc d) x =
    go (x % 2) refl (omega arith)
    (lowest_line_law d (x / 2)
    ∙ first_same (line_test (x / 2)) (λ r. line_test x (suc r)) d 0 (λ r h l. ap (λ (y : ℕ). eqb y 1) (sym (line_half x r))))
  where
    go : (b : ℕ) → x % 2 ≡ b → b < 2 → count_trailing_zeros d (x / 2) ≡ first_from (λ r. line_test x (suc r)) d 0
        → under (x % 2) (count_trailing_zeros d (x / 2)) ≡ cond (line_test x 0) 0 (first_from (line_test x) d 1)
    go zero e h t = rw (line_zero x, e, first_later (line_test x) d 0) (ap suc t)
    go (suc zero) e h t = rw (line_zero x, e)
    go (suc (suc b)) e h t = absurd (omega arith)

-- a set of 64 is asked first, and those behind it where it has none
module _ (p : ℕ → Bool) (m start word others : ℕ) (fits : (word ≡ 0 → ⊥) → count_trailing_zeros 64 word < 64) (asks : (k : ℕ) → k < 64 → p (start + k) ≡ line_test word k)
    (e : others ≡ first_from p m (start + 64)) where
  found : First (line_test word) 64 0 (count_trailing_zeros 64 word)
  found = subst (First (line_test word) 64 0) (sym (lowest_line_law 64 word)) (first_found (line_test word) 64 0)

  no_less : (r : ℕ) → start ≤ r → r < start + count_trailing_zeros 64 word → p r ≡ false
  no_less r h l =
      let k = r - start in
      let q : start + k ≡ r = omega arith in
      ap p (sym q) ∙ asks k (omega (arith, l, found.within)) ∙ found.before k (omega arith) (omega (arith, l))

  behind : word ≡ 0 → others ≡ first_from p (64 + m) start
  behind z =
      let w = first_found p m (start + 64) in
      sym
      (first_is p (64 + m) start others (omega (arith, e, w.from)) (omega (arith, e, w.within)) (λ r h l. early w r h l (dec_lt r (start + 64)))
      (λ l. rw e (w.passes (omega (arith, l, e)))))
    where
      early : First p m (start + 64) (first_from p m (start + 64)) → (r : ℕ) → start ≤ r → r < others → Dec (r < start + 64) → p r ≡ false
      early w r h l (yes k) = no_less r h (omega (arith, k, ap (count_trailing_zeros 64) z ∙ trailing_of_zero 64))
      early w r h l (no k) = w.before r (omega (arith, k)) (omega (arith, l, e))

  here : (word ≡ 0 → ⊥) → start + count_trailing_zeros 64 word ≡ first_from p (64 + m) start
  here n =
      let z = count_trailing_zeros 64 word in
      let less : z < 64 = fits n in
      sym
      (first_is p (64 + m) start (start + z) (omega arith) (omega arith) no_less (λ l. asks z less ∙ found.passes less))

  pub first_word : cond (eqb word 0) others (start + count_trailing_zeros 64 word) ≡ first_from p (64 + m) start
  first_word = go (ℕ_discrete word 0)
    where
      go : Dec (word ≡ 0) → cond (eqb word 0) others (start + count_trailing_zeros 64 word) ≡ first_from p (64 + m) start
      go (yes z) = rw (eq-eqb word 0 z) (behind z)
      go (no n) = rw (ne_eqb word 0 n) (here n)

-- ---- a set of four words

abbrev pub set_test : List ℕ → ℕ → Bool
set_test s n = eqb (line (get_or s (n / 64) 0) (n % 64)) 1

word_asked : (s : List ℕ) (j k : ℕ) → k < 64 → set_test s (64 * j + k) ≡ line_test (get_or s j 0) k
word_asked s j k h =
    let q : (64 * j + k) / 64 ≡ j = omega arith in
    let r : (64 * j + k) % 64 ≡ k = omega arith in
    ap₂ (λ (x y : ℕ). eqb (line (get_or s x 0) y) 1) q r

module _ (s : List ℕ) where
  -- what the code makes of word j, and that its lowest line is one of 64
  abbrev pub Step : (start j others r : ℕ) → Type 0
  Step start j others r =
      (r ≡ cond (eqb (get_or s j 0) 0) others (start + count_trailing_zeros 64 (get_or s j 0))) × ((get_or s j 0 ≡ 0 → ⊥) → count_trailing_zeros 64 (get_or s j 0) < 64)

  -- no word is asked
  pub set_start : 256 ≡ first_from (set_test s) 0 256
  unfolding first_from
  set_start = refl

  -- one more word is asked, in front of those from i on
  pub set_step : (i least r : ℕ) → 0 < i → i ≤ 4 → least ≡ first_from (set_test s) (64 * (4 - i)) (64 * i)
      → Step (64 * (i - 1)) (i - 1) least r → r ≡ first_from (set_test s) (64 * (4 - (i - 1))) (64 * (i - 1))
  set_step i least r h l e step =
      let next : 64 * i ≡ 64 * (i - 1) + 64 = omega arith in
      let more : 64 + 64 * (4 - i) ≡ 64 * (4 - (i - 1)) = omega arith in
      step.0
      ∙ first_word (set_test s) (64 * (4 - i)) (64 * (i - 1)) (get_or s (i - 1) 0) least step.1 (word_asked s (i - 1))
      (e ∙ ap (first_from (set_test s) (64 * (4 - i))) next)
      ∙ ap (λ (m : ℕ). first_from (set_test s) m (64 * (i - 1))) more

-- what the loop over the words needs
pub ruleset words = (set_start, set_step)

-- a set of those that pass a test, by lines that say so
pub first_passes : (s : List ℕ) (p : ℕ → Bool) → ((n : ℕ) → n < 256 → line (get_or s (n / 64) 0) (n % 64) ≡ one_if (p n))
    → first_from (set_test s) 256 0 ≡ first_from p 256 0
first_passes s p e = first_same (set_test s) p 256 0 (λ n z h. ap (λ (x : ℕ). eqb x 1) (e n h) ∙ one_is (p n))
