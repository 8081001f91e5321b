-- The call's answers, refusal by refusal, and what it leaves in the lent words. Holds of any machine. Assumes nothing.
use Prim.Native.Nat.{ℕ, ◌≤◌, ◌<◌}
use mathlib.Core.Path.{◌≡◌, refl, sym, ap, ap₂, ◌∙◌, subst}
use mathlib.Core.Bool.{Bool, true, false, cond, not, ◌&&◌, true≢false}
use mathlib.Core.List.{List, [], ◌∷◌}
use native.Mathlib.Omega.{arith}
use Rattle.std.specs.List.{slice_get}
use Rattle.std.specs.Option.{unwrap_or}
use Rattle.std.proofs.Common.{Option, None, Some}
use Rattle.std.proofs.lemmas.Option.{none-some, same_Some}
use borrow.Author.Tests.{lt-ltb, le-ltb}
use lib.Dec.{ltb}
use lib.ListN.{length, take, drop}
use lib.Seq.{take-append_seam}
use Rattle.buffer.specs.Room.{bytes, fill, Delivered}
use Rattle.buffer.specs.declared.Outcome.{Outcome}
use Rattle.buffer.proofs.Writing.{stored, filled}
use Rattle.programme.specs.Machine.{Machine}
use Rattle.bench.specs.declared.Run.{Run}
use Rattle.bench.specs.declared.Walked.{Walked}
use Rattle.bench.specs.declared.Benched.{Benched}
use Rattle.bench.specs.declared.Benched.TheVariants.{Done, Refused}
use Rattle.bench.specs.Run.{earlier_of, step, takes, next, captures, handed_on, taken, start_accepted}
use Rattle.bench.specs.Call.{most_samples, delivered, answered, left_by}
use Rattle.bench.specs.Walk.{run_from, Walks, Delivers, Answers}
use Rattle.bench.proofs.Pieces.{ended_hands_on, ended_takes_nothing, taken_length}

-- the refusals of the samples and of the run, in their order, before what is delivered
abbrev pub in_turn : (many starts : Bool) → Benched → Benched
in_turn many starts b = cond many (Refused 20 most_samples) (cond (not starts) (Refused 24 0) b)

-- the refusal of the room
abbrev pub in_room : (short : Bool) (words : List ℕ) → Run → Benched
in_room short words r = cond short (Refused 12 (length words)) (Done (length words) r)

-- where nothing is taken any room will do
none_delivered : (m : Machine) (xs : List ℕ) (r : Run) (room : ℕ) → taken m r xs ≡ [] → handed_on m r xs ≡ r
    → delivered m xs r room ≡ Done 0 r
unfolding delivered
none_delivered m xs r room et eh =
    ap₂ (λ (l : List ℕ) (q : Run). in_room (ltb room (length l)) l q) et eh
    ∙ ap (λ (b : Bool). in_room b [] r) (le-ltb room 0 (omega arith))

pub ended_delivered : (m : Machine) (xs : List ℕ) (r : Run) (room : ℕ) → r.ended ≡ true → delivered m xs r room ≡ Done 0 r
ended_delivered m xs r room e = none_delivered m xs r room (ended_takes_nothing m r xs e) (ended_hands_on m r xs e)

module _ (m : Machine) (xs : List ℕ) (r : Run) (out : List ℕ) where
  pub too_short : (n : ℕ) → n ≡ length (taken m r xs) → length out < n → Delivers m xs r out (Refused 12 n) out
  unfolding delivered
  too_short n e h =
      let l : length out < length (taken m r xs) = rw (← e) h in
      record { answer = simp (lt-ltb (length out) (length (taken m r xs)) l, e); left = refl }

  delivers : (n : ℕ) (r' : Run) (out' : List ℕ) → length (taken m r xs) ≤ length out → n ≡ length (taken m r xs) → r' ≡ handed_on m r xs
      → out' ≡ fill (taken m r xs) out → Delivers m xs r out (Done n r') out'
  unfolding delivered
  delivers n r' out' l et er eo = record { answer = simp (le-ltb _ _ l) (ap₂ Done et er); left = eo }

  pub refused_20 : most_samples < length xs → Answers m xs r out (Refused 20 most_samples) out
  unfolding answered
  refused_20 h = record { answer = simp (lt-ltb _ _ h); left = refl }

  pub refused_24 : length xs ≤ most_samples → start_accepted m r ≡ false → Answers m xs r out (Refused 24 0) out
  unfolding answered
  refused_24 h e = record { answer = simp (le-ltb _ _ h, e); left = refl }

  pub looked : length xs ≤ most_samples → start_accepted m r ≡ true → (b : Benched) (out' : List ℕ) → Delivers m xs r out b out'
      → Answers m xs r out b out'
  unfolding answered
  looked h e b out' d = record { answer = d.answer ∙ simp (le-ltb _ _ h, e); left = d.left }

  -- no sample is looked at, of a run that has ended
  nothing_taken : taken m r xs ≡ [] → handed_on m r xs ≡ r → Delivers m xs r out (Done 0 r) out
  nothing_taken et eh =
      record { answer = sym (none_delivered m xs r (length out) et eh); left = ap (λ (l : List ℕ). fill l out) (sym et) }

  pub ended_looked : r.ended ≡ true → Delivers m xs r out (Done 0 r) out
  ended_looked e = nothing_taken (ended_takes_nothing m r xs e) (ended_hands_on m r xs e)

-- nor where there is none
pub none_looked : (m : Machine) (xs : List ℕ) (r : Run) (out : List ℕ) → None ≡ slice_get xs 0 → Delivers m xs r out (Done 0 r) out
unfolding taken handed_on
none_looked m [] r out e = nothing_taken m [] r out refl refl
none_looked m (x ∷ xs) r out e = absurd (none-some x e)

-- the walk over all samples of a run that looks at one
module _ (m : Machine) (xs : List ℕ) (r : Run) (room : List ℕ) (w : Walked) (room' : List ℕ) (walks : Walks m xs r room w room') where
  pub walk_few : w.taken ≤ length xs
  walk_few = rw walks.counted (taken_length m r xs)

  -- right into the lent words
  pub walked_into : length xs ≤ length room → Delivers m xs r room (Done w.taken w.run) room'
  walked_into h =
      let t = taken_length m r xs in
      delivers m xs r room w.taken w.run room' (omega arith) walks.counted walks.handed (walks.left ∙ stored (taken m r xs) room (omega arith))

  -- into other room, of which what was taken is copied
  pub walked_apart : (out out' : List ℕ) (o : Outcome) → length xs ≤ length room → w.taken ≤ length out
      → Delivered (bytes (take w.taken room')) out o out' → Delivers m xs r out (Done w.taken w.run) out'
  walked_apart out out' o h f d =
      let t = taken_length m r xs in
      let n = walks.counted in
      let src : take w.taken room' ≡ taken m r xs =
      ap₂ take n (walks.left ∙ stored (taken m r xs) room (omega arith)) ∙ take-append_seam (taken m r xs) (drop (length (taken m r xs)) room) in
      delivers m xs r out w.taken w.run out' (omega arith) n walks.handed
      (filled (taken m r xs) out o out' (omega arith) (subst (λ (l : List ℕ). Delivered (bytes l) out o out') src d))

-- a run that has not ended does with the first sample as it does with the earlier word of that sample
module _ (m : Machine) (r : Run) (x : ℕ) (e : r.ended ≡ false) where
  first : Run
  first = run_from r.state r.count (earlier_of r.earlier x)

  next_first : next m r x ≡ next m first x
  unfolding step first
  next_first = go r.ended e
    where
      go : (b : Bool) → b ≡ false → cond b r (step m r x) ≡ step m r x
      go true f = absurd (true≢false f)
      go false f = refl

  captures_first : captures m r x ≡ captures m first x
  unfolding takes first
  captures_first = ap (λ (b : Bool). not b && takes m r x) e

  handed_first : (ys : List ℕ) → handed_on m r (x ∷ ys) ≡ handed_on m first (x ∷ ys)
  unfolding handed_on
  handed_first ys = ap (λ (q : Run). handed_on m q ys) next_first

  taken_first : (ys : List ℕ) → taken m r (x ∷ ys) ≡ taken m first (x ∷ ys)
  unfolding taken
  taken_first ys = ap₂ (λ (b : Bool) (q : Run). cond b (x ∷ taken m q ys) (taken m q ys)) captures_first next_first

-- so the run under way that is made of it does the same
pub from_first : (m : Machine) (xs : List ℕ) (r : Run) (out : List ℕ) (x earlier : ℕ) (b : Benched) (out' : List ℕ)
    → r.ended ≡ false → Some x ≡ slice_get xs 0 → earlier ≡ unwrap_or r.earlier x
    → Delivers m xs (run_from r.state r.count earlier) out b out' → Delivers m xs r out b out'
unfolding first delivered
from_first m [] r out x earlier b out' e h ee d = absurd (none-some x (sym h))
from_first m (y ∷ ys) r out x earlier b out' e h ee d =
    let f = run_from r.state r.count in
    let w : earlier ≡ earlier_of r.earlier y = ee ∙ ap (unwrap_or r.earlier) (same_Some x y h) ∙ or_itself r.earlier y in
    let t : taken m (f earlier) (y ∷ ys) ≡ taken m r (y ∷ ys) = ap (λ (w : ℕ). taken m (f w) (y ∷ ys)) w ∙ sym (taken_first m r y e ys) in
    let k : handed_on m (f earlier) (y ∷ ys) ≡ handed_on m r (y ∷ ys) = ap (λ (w : ℕ). handed_on m (f w) (y ∷ ys)) w ∙ sym (handed_first m r y e ys) in
    record {
      answer = d.answer ∙ ap₂ (λ (l : List ℕ) (q : Run). in_room (ltb (length out) (length l)) l q) t k;
      left = d.left ∙ ap (λ (l : List ℕ). left_by b l out) t;
    }
  where
    or_itself : (o : Option ℕ) (x : ℕ) → unwrap_or o x ≡ earlier_of o x
    or_itself None x = refl
    or_itself (Some w) x = refl

-- given room, the call is done
pub given_room : (m : Machine) (xs : List ℕ) (r : Run) (room : ℕ) → length xs ≤ most_samples → start_accepted m r ≡ true
    → length (taken m r xs) ≤ room → answered m xs r room ≡ Done (length (taken m r xs)) (handed_on m r xs)
unfolding answered delivered
given_room m xs r room h e f = simp (le-ltb _ _ h, e, le-ltb _ _ f)

-- what a call leaves depends on what is taken only where the start is accepted
pub left_alike : (m : Machine) (xs : List ℕ) (r : Run) (out : List ℕ) (b : Benched) (words : List ℕ) → b ≡ answered m xs r (length out)
    → (start_accepted m r ≡ true → taken m r xs ≡ words) → left_by b (taken m r xs) out ≡ left_by b words out
unfolding answered
left_alike m xs r out b words e f = go (start_accepted m r) refl (ltb most_samples (length xs)) refl
  where
    go : (a : Bool) → start_accepted m r ≡ a → (l : Bool) → ltb most_samples (length xs) ≡ l → left_by b (taken m r xs) out ≡ left_by b words out
    go true ea l el = ap (λ (ws : List ℕ). left_by b ws out) (f ea)
    go false ea true el =
        let q : b ≡ Refused 20 most_samples = e ∙ simp el in rw q
    go false ea false el =
        let q : b ≡ Refused 24 0 = e ∙ simp (el, ea) in rw q
