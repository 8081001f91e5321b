-- What is promised of what tells two sums apart. Assumes nothing.
use Prim.Native.Nat.{ℕ, ◌+◌, ◌*◌, ◌≤◌, ◌<◌}
use mathlib.Core.Path.{◌≡◌, refl, sym, ap, ap₂, ◌∙◌}
use mathlib.Core.Bool.{Bool, true, false, cond, beq}
use mathlib.Core.List.{List}
use mathlib.Core.Logic.{◌↔◌}
use native.Mathlib.Omega.{arith}
use borrow.Author.Tests.{lt-ltb, ltb-true, ltb-false, not-true, not-false}
use lib.Dec.{eqb, ltb}
use lib.ListN.{get_or}
use Rattle.lines.proofs.Truth.{agree, disagree, T_true}
use Rattle.lut.specs.Table.{answer_at, high, low}
use Rattle.lut.specs.declared.Input.TheVariants.{Sources}
use Rattle.lut.specs.declared.Telling.{Telling}
use Rattle.lut.specs.declared.Telling.TheVariants.{Alike, Apart}
use Rattle.lut.specs.Telling.{HitAlike, TellsApart, Says, NoneLess, Least}
use Rattle.lut.proofs.Asked.{alike_on_sources, alike_iff}
use Rattle.sum.specs.Words.{words_of}
use Rattle.sum.specs.Model.{first_pairs, last_pairs, first_mid, last_mid, sum_hit, hit}
use Rattle.sum_telling.specs.Telling.{patterns, differ_at, least_pattern, answer_of, sum_telling}
use Rattle.sum_telling.specs.Halves.{found_least}
use Rattle.sum_telling.proofs.First.{First, first_found}
use Rattle.sum_telling.proofs.Split.{Seen, inputs_by_sources}
use Rattle.sum_telling.proofs.Found.{found_is_least, found_none}

-- a sum's hit depends on the sources through its two mids alone [M8]
pub hit_by_mids : (w : List ℕ) (s r : ℕ) → first_mid w s ≡ first_mid w r → last_mid w s ≡ last_mid w r → sum_hit w s ≡ sum_hit w r
unfolding sum_hit
hit_by_mids w s r e f = ap₂ (λ (x y : ℕ). eqb (answer_at (low (get_or w 0 0)) (x + 2 * y)) 1) e f

-- and each mid on the eight sources that its four pairs read [M6, M8]
pub first_mid_by_its_half : (w : List ℕ) (s r : ℕ) → Seen first_pairs s first_pairs r → first_mid w s ≡ first_mid w r
first_mid_by_its_half w s r e = ap (answer_at (low (get_or w 1 0))) (inputs_by_sources first_pairs first_pairs (get_or w 5 0) (get_or w 4 0) s r e)

pub last_mid_by_its_half : (w : List ℕ) (s r : ℕ) → Seen last_pairs s last_pairs r → last_mid w s ≡ last_mid w r
last_mid_by_its_half w s r e = ap (answer_at (high (get_or w 1 0))) (inputs_by_sources last_pairs last_pairs (get_or w 3 0) (get_or w 2 0) s r e)

module _ (old new : List ℕ) where
  abbrev v : List ℕ
  v = words_of old

  abbrev w : List ℕ
  w = words_of new

  hits_alike : (s : ℕ) → differ_at v w s ≡ false → sum_hit v s ≡ sum_hit w s
  hits_alike s e = agree (sum_hit v s) (sum_hit w s) (T_true _ (not-false (beq (sum_hit v s) (sum_hit w s)) e))

  hits_differ : (s : ℕ) → differ_at v w s ≡ true → sum_hit v s ≡ sum_hit w s → ⊥
  hits_differ s e = disagree (sum_hit v s) (sum_hit w s) (not-true (beq (sum_hit v s) (sum_hit w s)) e)

  least_is_first : First (differ_at v w) patterns 0 (least_pattern v w)
  unfolding least_pattern
  least_is_first = first_found (differ_at v w) patterns 0

  -- a least pattern below 65,536 tells the two apart, and where it is not below, none does
  pub least_tells : least_pattern v w < patterns → TellsApart (hit old) (hit new) (Sources (least_pattern v w))
  least_tells l = record { fits = l; tells = hits_differ (least_pattern v w) (least_is_first.passes l) }

  pub none_less : NoneLess (hit old) (hit new) (Sources (least_pattern v w))
  none_less s h = hits_alike s (least_is_first.before s (omega arith) h)

  pub none_tells : patterns ≤ least_pattern v w → HitAlike (hit old) (hit new)
  none_tells l = alike_on_sources (sum_hit v) (sum_hit w) (λ s h. hits_alike s (least_is_first.before s (omega arith) (omega (arith, h, l))))

  -- the pattern that is shown tells the two apart; none is shown where none does [D3.6, N6]
  pub telling_says : Says (hit old) (hit new) (sum_telling old new)
  unfolding sum_telling
  telling_says = go (ltb (least_pattern v w) patterns) refl
    where
      go : (b : Bool) → ltb (least_pattern v w) patterns ≡ b → Says (hit old) (hit new) (cond b (Apart (Sources (least_pattern v w))) Alike)
      go true e = least_tells (ltb-true (least_pattern v w) patterns e)
      go false e = none_tells (ltb-false (least_pattern v w) patterns e)

  -- and it is the least that does, which is more than the rules ask [N9]
  pub telling_least : Least (hit old) (hit new) (sum_telling old new)
  unfolding sum_telling
  telling_least = go (ltb (least_pattern v w) patterns)
    where
      go : (b : Bool) → Least (hit old) (hit new) (cond b (Apart (Sources (least_pattern v w))) Alike)
      go true = none_less
      go false = tt

  -- Alike is said exactly where all 65,536 patterns hit alike [N6]
  pub alike_exactly : (sum_telling old new ≡ Alike) ↔ HitAlike (hit old) (hit new)
  alike_exactly = alike_iff (hit old) (hit new) (sum_telling old new) telling_says

  -- an answer that is the definition's says what it should
  pub telling_meets : (t : Telling) → t ≡ sum_telling old new
      → record { value : t ≡ sum_telling old new; meaning : Says (hit old) (hit new) t; least : Least (hit old) (hit new) t }
  telling_meets t e = record { value = e; meaning = rw e telling_says; least = rw e telling_least }

  -- found by halves it is the same, with some hundreds of look-ups
  pub found_apart : (n : ℕ) → found_least v w ≡ n → n < patterns → sum_telling old new ≡ Apart (Sources n)
  unfolding sum_telling
  found_apart n e h =
      let l : least_pattern v w ≡ n = sym (found_is_least v w (rw e h)) ∙ e in
      rw (l, lt-ltb n patterns h)

  pub found_alike : patterns ≤ found_least v w → sum_telling old new ≡ Alike
  unfolding sum_telling
  found_alike h = ap answer_of (sym (found_none v w h))
