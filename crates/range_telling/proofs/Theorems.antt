-- What is promised of lines that cannot matter in a range and of what tells two ranges apart. Assumes nothing.
use Rattle.std.proofs.Common.{◌≡◌, sym, ap, subst, ◌∙◌, List, ◌↔◌, ℕ, suc, ◌+◌, ◌^◌, ◌<◌}
use Prim.Native.Nat.{◌∣◌}
use lib.Count.{ones_in}
use Rattle.lines.specs.Line.{line}
use Rattle.lut.specs.Telling.{HitAlike, Says}
use Rattle.lut.specs.declared.Telling.{Telling}
use Rattle.range.specs.declared.Range.{Range}
use Rattle.range.specs.Rule.{hit, Accepted}
use Rattle.range.specs.Words.{words_of}
use Rattle.range_telling.specs.Matter.{CannotMatter, DroppedWords}
use Rattle.range_telling.specs.Reduce.{reduce_of, Reduces}
use Rattle.range_telling.specs.Telling.{range_telling}
use Rattle.range_telling.proofs.Apart.{flip_hit, reduced, reduced_alike, tells, alike_reduced}
use Rattle.range_telling.proofs.Dropped.{dropped_words, dropped_only}
use Rattle.range_telling.proofs.Divides.{cannot_matter_iff}
use Rattle.range.proofs.Theorems.{equal_words_alike}

-- a masked line, with j masked lines below it, cannot matter exactly if 2^(j + 1) divides lower and upper + 1 [G11]
pub line_cannot_matter : (r : Range) (i : ℕ) → Accepted r → i < 32 → line r.mask i ≡ 1
    → CannotMatter r i ↔ ((2 ^ suc (ones_in i r.mask) ∣ r.lower) × (2 ^ suc (ones_in i r.mask) ∣ r.upper + 1))
line_cannot_matter = cannot_matter_iff

-- a line that is not masked never matters [G11]
pub unmasked_cannot_matter : (r : Range) (i : ℕ) → line r.mask i ≡ 0 → CannotMatter r i
unmasked_cannot_matter r i e sample h = flip_hit r i sample e

-- the words with those lines dropped are exactly those of the reduced range [G12, D3.4]
pub dropped_exactly : (r : Range) → Accepted r → (words : List ℕ) → DroppedWords r words ↔ (words ≡ words_of (reduce_of r))
dropped_exactly r a words = (
  λ d. dropped_only r a words (words_of (reduce_of r)) d (dropped_words r a),
  λ e. subst (DroppedWords r) (sym e) (dropped_words r a),
)

-- the reduced range is accepted, hits alike, and writes the words with those lines dropped [G12, D3.4]
pub reduces : (r : Range) → Accepted r → Reduces r (reduce_of r)
reduces r a = record { accepted = (reduced r a).accepted; alike = λ i h. sym (reduced_alike r i); words = dropped_words r a }

-- the same of what equals it
pub answer_reduces : (r q : Range) → q ≡ reduce_of r → Accepted r → Reduces r q
answer_reduces r q e a = rw e (reduces r a)

-- with those lines dropped, two ranges have the same words exactly when no sample tells them apart [D3.4]
pub equal_dropped_words_iff_alike : (a b : Range) → Accepted a → Accepted b → (v w : List ℕ) → DroppedWords a v → DroppedWords b w
    → (v ≡ w) ↔ HitAlike (hit a) (hit b)
equal_dropped_words_iff_alike a b aa ab v w dv dw = (equal_alike, alike_equal)
  where
    v_words : v ≡ words_of (reduce_of a)
    v_words = (dropped_exactly a aa v).0 dv

    w_words : w ≡ words_of (reduce_of b)
    w_words = (dropped_exactly b ab w).0 dw

    equal_alike : v ≡ w → HitAlike (hit a) (hit b)
    equal_alike e i h =
        sym (reduced_alike a i)
        ∙ equal_words_alike (reduce_of a) (reduce_of b) (reduced a aa).accepted (reduced b ab).accepted (sym v_words ∙ e ∙ w_words) i h
        ∙ reduced_alike b i

    alike_equal : HitAlike (hit a) (hit b) → v ≡ w
    alike_equal alike = v_words ∙ ap words_of (alike_reduced a b aa ab alike) ∙ sym w_words

-- the sample that is shown tells the two apart; none is shown where none does [D3.6, N6]
pub telling_says : (old new : Range) → Accepted old → Accepted new → Says (hit old) (hit new) (range_telling old new)
telling_says = tells

-- the same of what equals it
pub answer_says : (old new : Range) (t : Telling) → t ≡ range_telling old new → Accepted old → Accepted new → Says (hit old) (hit new) t
answer_says old new t e ao an = rw e (telling_says old new ao an)
