-- The walk over the samples of any machine: what holds before each sample, and at the end. Assumes nothing.
use Prim.Native.Nat.{ℕ, ◌+◌, ◌≤◌, ◌<◌}
use mathlib.Core.Path.{◌≡◌, refl, sym, ap, ap₂, ◌∙◌}
use mathlib.Core.Bool.{Bool, true, false, cond}
use mathlib.Core.List.{List, [], ◌∷◌}
use Rattle.std.proofs.Common.{Some}
use native.Mathlib.Nat.{add-zero}
use native.Mathlib.Numerals.{add-one}
use native.Mathlib.Omega.{arith}
use lib.ListN.{length, get_or, drop, set, drop_of_length-le}
use lib.Seq.{drop-cons, sets}
use Rattle.lut.specs.Table.{one_if}
use Rattle.programme.specs.Machine.{Machine}
use Rattle.bench.specs.declared.Moved.{Moved}
use Rattle.bench.specs.declared.Run.{Run}
use Rattle.bench.specs.Run.{capture_slot, moved, standing, step, takes, next, captures, handed_on, taken}
use Rattle.bench.specs.Walk.{run_from, Walks}
use Rattle.bench.proofs.Pieces.{ended_hands_on, ended_takes_nothing}
use Rattle.bench.proofs.Standing.{Stands, moved_stands}

-- the walk stands before sample i, with n samples taken
pub record Walking (m : Machine) (xs : List ℕ) (first : Run) (out₀ : List ℕ) (i n : ℕ) (r : Run) (out : List ℕ) : Type 0 where
  pub few : n ≤ i
  pub stands : Stands m r.state r.count
  pub handed : handed_on m first xs ≡ handed_on m r (drop i xs)
  pub counted : length (taken m first xs) ≡ n + length (taken m r (drop i xs))
  pub stored : sets out₀ 0 (taken m first xs) ≡ sets out n (taken m r (drop i xs))

module _ (m : Machine) (state count earlier x src : ℕ) (v : Moved) (b : Bool)
    (es : src ≡ m.sources earlier x) (eb : b ≡ m.matches (capture_slot state) src) (ev : v ≡ moved m state count src) where
  next_is : next m (run_from state count earlier) x ≡ standing v x
  unfolding step
  next_is = ap (λ (u : Moved). standing u x) (sym (ev ∙ ap (moved m state count) es))

  captures_is : captures m (run_from state count earlier) x ≡ b
  unfolding takes
  captures_is = sym (eb ∙ ap (m.matches (capture_slot state)) es)

  handed_turn : (ys : List ℕ) → handed_on m (run_from state count earlier) (x ∷ ys) ≡ handed_on m (standing v x) ys
  unfolding handed_on
  handed_turn ys = ap (λ (r : Run). handed_on m r ys) next_is

  taken_turn : (ys : List ℕ) → taken m (run_from state count earlier) (x ∷ ys) ≡ cond b (x ∷ taken m (standing v x) ys) (taken m (standing v x) ys)
  unfolding taken
  taken_turn ys = ap₂ (λ (c : Bool) (r : Run). cond c (x ∷ taken m r ys) (taken m r ys)) captures_is next_is

-- taking a sample or leaving it
count_more : (b : Bool) (x n : ℕ) (t : List ℕ) → n + length (cond b (x ∷ t) t) ≡ n + one_if b + length t
count_more true x n t = omega arith
count_more false x n t = omega arith

store_more : (b : Bool) (x n : ℕ) (t out : List ℕ) → sets out n (cond b (x ∷ t) t) ≡ sets (cond b (set out n x) out) (n + one_if b) t
store_more true x n t out = ap (λ (k : ℕ). sets (set out n x) k t) (sym (add-one n))
store_more false x n t out = ap (λ (k : ℕ). sets out k t) (sym (add-zero n))

few_more : (b : Bool) (n i : ℕ) → n ≤ i → n + one_if b ≤ i + 1
few_more true n i h = omega arith
few_more false n i h = omega arith

-- where nothing more is taken, and nothing moves the run, it is over
ends : (m : Machine) (xs : List ℕ) (first : Run) (out₀ : List ℕ) (i n : ℕ) (r : Run) (out : List ℕ) → Walking m xs first out₀ i n r out
    → handed_on m r (drop i xs) ≡ r → taken m r (drop i xs) ≡ [] → Walks m xs first out₀ (record { taken = n; run = r }) out
ends m xs first out₀ i n r out w eh et = record {
  counted = sym (w.counted ∙ ap (λ (l : List ℕ). n + length l) et ∙ add-zero n);
  handed = sym (w.handed ∙ eh);
  left = sym (w.stored ∙ ap (sets out n) et);
}

-- the samples are all
pub walk_ends : (m : Machine) (xs : List ℕ) (first : Run) (out₀ : List ℕ) (i n : ℕ) (r : Run) (out : List ℕ) → Walking m xs first out₀ i n r out
    → length xs ≤ i → Walks m xs first out₀ (record { taken = n; run = r }) out
unfolding handed_on taken
walk_ends m xs first out₀ i n r out w h =
    let none : drop i xs ≡ [] = drop_of_length-le xs h in
    ends m xs first out₀ i n r out w (ap (handed_on m r) none) (ap (taken m r) none)

-- a sample is looked at: the run goes on, or it has ended
module _ (m : Machine) (xs : List ℕ) (first : Run) (out₀ : List ℕ) (i n state count earlier : ℕ) (out : List ℕ)
    (w : Walking m xs first out₀ i n (run_from state count earlier) out) (x : ℕ) (at : (i < length xs) × (x ≡ get_or xs i 0))
    (src : ℕ) (b : Bool) (n' : ℕ) (out' : List ℕ) (v : Moved)
    (es : src ≡ m.sources earlier x) (eb : b ≡ m.matches (capture_slot state) src)
    (et : (n' ≡ n + one_if b) × (out' ≡ cond b (set out n x) out)) (ev : v ≡ moved m state count src) where
  turned : (ended : Bool) → v.ended ≡ ended
      → Walking m xs first out₀ (i + 1) n' (record { state = v.state; count = v.count; earlier = Some x; ended = ended }) out'
  turned ended e =
      let r = run_from state count earlier in
      let ys = drop (i + 1) xs in
      let t = taken m (standing v x) (drop (i + 1) xs) in
      let cut : drop i xs ≡ x ∷ drop (i + 1) xs = drop-cons xs i 0 at.0 ∙ ap₂ (λ (y k : ℕ). y ∷ drop k xs) (sym at.1) (sym (add-one i)) in
      let more : taken m r (drop i xs) ≡ cond b (x ∷ t) t = ap (taken m r) cut ∙ taken_turn m state count earlier x src v b es eb ev ys in
      rw (← e) (record {
        few = rw et.0 (few_more b n i w.few);
        stands = rw ev (moved_stands m state count src w.stands);
        handed = w.handed ∙ ap (handed_on m r) cut ∙ handed_turn m state count earlier x src v b es eb ev ys;
        counted = w.counted ∙ ap (λ (l : List ℕ). n + length l) more ∙ count_more b x n t ∙ ap (λ (k : ℕ). k + length t) (sym et.0);
        stored = w.stored ∙ ap (sets out n) more ∙ store_more b x n t out ∙ ap₂ (λ (o : List ℕ) (k : ℕ). sets o k t) (sym et.1) (sym et.0);
      })

  pub walk_on : v.ended ≡ false → Walking m xs first out₀ (i + 1) n' (run_from v.state v.count x) out'
  walk_on = turned false

  pub walk_stops : v.ended ≡ true
      → Walks m xs first out₀ (record { taken = n'; run = record { state = v.state; count = v.count; earlier = Some x; ended = true } }) out'
  walk_stops e =
      let r : Run = record { state = v.state; count = v.count; earlier = Some x; ended = true } in
      ends m xs first out₀ (i + 1) n' r out' (turned true e) (ended_hands_on m r (drop (i + 1) xs) refl) (ended_takes_nothing m r (drop (i + 1) xs) refl)
