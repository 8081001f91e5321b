-- The answer in numbers means what it should, and its cases as the code meets them. Assumes nothing.
use Prim.Native.Nat.{ℕ, ◌≤◌, ◌<◌}
use mathlib.Core.Path.{◌≡◌, refl, sym, ap, ap₂, ◌∙◌}
use mathlib.Core.Bool.{Bool, true, false, cond, ◌&&◌, true≢false}
use mathlib.Core.List.{List}
use mathlib.Core.Logic.{◌↔◌}
use native.Mathlib.Omega.{arith}
use borrow.Author.Tests.{eq-eqb, eqb-true, lt-ltb, le-ltb, ltb-true, ltb-false}
use lib.Dec.{eqb, ltb}
use lib.ListN.{length}
use Rattle.lines.proofs.Truth.{both_true}
use Rattle.lut.specs.declared.Input.TheVariants.{Sources}
use Rattle.lut.specs.Telling.{HitAlike, TellsApart, NoneLess}
use Rattle.sum.specs.Operation.{codes_accepted, Accepted}
use Rattle.sum.specs.Words.{words_of}
use Rattle.sum.specs.Model.{hit}
use Rattle.sum.specs.Description.{from_bytes, fault}
use Rattle.sum.proofs.Ways.{from_whole}
use Rattle.sum_telling.specs.declared.Told.{Told}
use Rattle.sum_telling.specs.Telling.{patterns, least_pattern}
use Rattle.sum_telling.specs.Numbers.{is_sum, BothSums, no_sum, in_numbers, sum_told, ToldMeans}
use Rattle.sum_telling.proofs.Theorems.{least_tells, none_less, none_tells}

-- ---- whether bytes are a sum

pub is_sum_iff : (ops : List ℕ) → (is_sum ops ≡ true) ↔ Accepted ops
is_sum_iff ops = (
  (λ e. let b = both_true (eqb (length ops) 11) (codes_accepted ops) e in record { eleven = eqb-true (length ops) 11 b.0; codes = b.1 }),
  (λ a. ap₂ ◌&&◌ (eq-eqb (length ops) 11 a.eleven) a.codes),
)

-- by the number of a fault
pub is_sum_by_fault : (ops : List ℕ) (f : ℕ) → length ops ≡ 11 → f ≡ fault ops → eqb f 0 ≡ is_sum ops
unfolding fault
is_sum_by_fault ops f l e =
    ap (λ (x : ℕ). eqb x 0) e ∙ go (codes_accepted ops) ∙ ap (λ (b : Bool). b && codes_accepted ops) (sym (eq-eqb (length ops) 11 l))
  where
    go : (b : Bool) → eqb (cond b 0 10) 0 ≡ b
    go true = refl
    go false = refl

-- ---- what the answer means

module _ (old new : List ℕ) where
  means_apart : BothSums old new → (s : ℕ) → TellsApart (hit old) (hit new) (Sources s) → NoneLess (hit old) (hit new) (Sources s)
      → ToldMeans old new (record { number = 1; sources = s })
  means_apart both s t n =
      record {
        alike = ((λ e. absurd (omega (arith, e))), (λ g. absurd (t.tells (g.1 (Sources s) t.fits))));
        apart = ((λ e. (both, t)), (λ g. refl));
        refused = ((λ e. absurd (omega (arith, e))), (λ r. absurd (r both)));
        least = λ e. n;
        nothing = λ e. absurd (e refl);
      }

  means_alike : BothSums old new → HitAlike (hit old) (hit new) → ToldMeans old new (record { number = 0; sources = 0 })
  means_alike both h =
      record {
        alike = ((λ e. (both, h)), (λ g. refl));
        apart = ((λ e. absurd (omega (arith, e))), (λ g. absurd (g.1.tells (h (Sources 0) g.1.fits))));
        refused = ((λ e. absurd (omega (arith, e))), (λ r. absurd (r both)));
        least = λ e. absurd (omega (arith, e));
        nothing = λ e. refl;
      }

  means_refused : (BothSums old new → ⊥) → ToldMeans old new no_sum
  means_refused n =
      record {
        alike = ((λ e. absurd (omega (arith, e))), (λ g. absurd (n g.0)));
        apart = ((λ e. absurd (omega (arith, e))), (λ g. absurd (n g.0)));
        refused = ((λ e. n), (λ r. refl));
        least = λ e. absurd (omega (arith, e));
        nothing = λ e. refl;
      }

  abbrev found : ℕ
  found = least_pattern (words_of old) (words_of new)

  found_means : BothSums old new → (b : Bool) → ltb found patterns ≡ b
      → ToldMeans old new (cond b (record { number = 1; sources = found }) (record { number = 0; sources = 0 }))
  found_means both true e = means_apart both found (least_tells old new (ltb-true found patterns e)) (none_less old new)
  found_means both false e = means_alike both (none_tells old new (ltb-false found patterns e))

  -- the answer in numbers means what it should [N6, F10]
  pub told_means : ToldMeans old new (sum_told old new)
  unfolding sum_told
  told_means = go (is_sum old) refl (is_sum new) refl
    where
      go : (a : Bool) → is_sum old ≡ a → (b : Bool) → is_sum new ≡ b → ToldMeans old new (cond (a && b) (in_numbers found) no_sum)
      go true e true f = found_means ((is_sum_iff old).0 e, (is_sum_iff new).0 f) (ltb found patterns) refl
      go true e false f = means_refused (λ both. true≢false (sym ((is_sum_iff new).1 both.1) ∙ f))
      go false e b f = means_refused (λ both. true≢false (sym ((is_sum_iff old).1 both.0) ∙ e))

  pub told_meets : (t : Told) → t ≡ sum_told old new → record { value : t ≡ sum_told old new; meaning : ToldMeans old new t }
  told_meets t e = record { value = e; meaning = rw e told_means }

  -- ---- as the code meets it: the operations are the bytes, b and d, and v and w their words

  module _ (e : is_sum old ≡ true) (f : is_sum new ≡ true) (b d v w : List ℕ) (n : ℕ) (hb : b ≡ from_bytes old) (hd : d ≡ from_bytes new)
      (hv : v ≡ words_of b) (hw : w ≡ words_of d) (h : n ≡ least_pattern v w) where
    told : in_numbers n ≡ sum_told old new
    unfolding sum_told
    told =
        let o : b ≡ old = hb ∙ from_whole old ((is_sum_iff old).0 e).eleven in
        let p : d ≡ new = hd ∙ from_whole new ((is_sum_iff new).0 f).eleven in
        let z : n ≡ found = cc in
        rw (e, f, z)

    pub sums_apart : n < patterns → ◌≡◌ {A = Told} (record { number = 1; sources = n }) (sum_told old new)
    sums_apart l = rw (lt-ltb n patterns l) at told

    pub sums_alike : patterns ≤ n → ◌≡◌ {A = Told} (record { number = 0; sources = 0 }) (sum_told old new)
    sums_alike l = rw (le-ltb n patterns l) at told
