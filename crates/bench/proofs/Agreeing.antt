-- Two machines that answer alike run alike from every accepted start. Assumes nothing.
use Prim.Native.Nat.{ℕ, ◌+◌, ◌*◌, ◌<◌}
use mathlib.Core.Path.{◌≡◌, refl, sym, ap, ap₂, ◌∙◌}
use mathlib.Core.Bool.{Bool, true, false, cond, not, ◌&&◌}
use mathlib.Core.List.{List, [], ◌∷◌}
use native.Mathlib.Decide.{dec_lt}
use native.Mathlib.Omega.{arith}
use borrow.Author.Tests.{le-ltb}
use lib.Dec.{ltb}
use lib.ListN.{length}
use Rattle.programme.specs.Machine.{Machine, Agree}
use Rattle.bench.specs.declared.Moved.{Moved}
use Rattle.bench.specs.declared.Run.{Run}
use Rattle.bench.specs.declared.Benched.{Benched}
use Rattle.bench.specs.Run.{number_of, earlier_of, capture_slot, moved, standing, sources_on, step, takes, next, captures, handed_on, taken, start_accepted}
use Rattle.bench.specs.Call.{most_samples, delivered, answered}
use Rattle.bench.proofs.Calling.{in_turn, in_room}
use Rattle.bench.proofs.Standing.{Stands, next_stands, accepted_stands}

module _ (m k : Machine) (agree : Agree m k) where
  moved_alike : (state count sources : ℕ) → state < 16 → moved m state count sources ≡ moved k state count sources
  unfolding moved
  moved_alike state count sources h =
      rw (agree.on_sums (3 * state + 0) sources (omega arith), agree.on_sums (3 * state + 1) sources (omega arith), agree.on_words state h)

  sources_alike : (r : Run) (x : ℕ) → sources_on m r x ≡ sources_on k r x
  sources_alike r x = agree.on_sources (earlier_of r.earlier x) x

  step_alike : (r : Run) (x : ℕ) → r.state < 16 → step m r x ≡ step k r x
  unfolding step
  step_alike r x hs =
      ap (λ (v : Moved). standing v x)
      (ap (moved m r.state r.count) (sources_alike r x) ∙ moved_alike r.state r.count (sources_on k r x) hs)

  takes_alike : (r : Run) (x : ℕ) → r.state < 16 → takes m r x ≡ takes k r x
  unfolding takes
  takes_alike r x hs =
      ap (m.matches (capture_slot r.state)) (sources_alike r x) ∙ agree.on_sums (capture_slot r.state) (sources_on k r x) (omega arith)

  next_alike : (r : Run) (x : ℕ) → r.state < 16 → next m r x ≡ next k r x
  next_alike r x hs = ap (cond r.ended r) (step_alike r x hs)

  captures_alike : (r : Run) (x : ℕ) → r.state < 16 → captures m r x ≡ captures k r x
  captures_alike r x hs = ap (λ (b : Bool). not r.ended && b) (takes_alike r x hs)

  handed_alike : (r : Run) (xs : List ℕ) → Stands m r.state r.count → handed_on m r xs ≡ handed_on k r xs
  unfolding handed_on
  handed_alike r [] s = refl
  handed_alike r (x ∷ xs) s =
      handed_alike (next m r x) xs (next_stands m r x s)
      ∙ ap (λ (q : Run). handed_on k q xs) (next_alike r x s.0)

  pub taken_alike : (r : Run) (xs : List ℕ) → Stands m r.state r.count → taken m r xs ≡ taken k r xs
  unfolding taken
  taken_alike r [] s = refl
  taken_alike r (x ∷ xs) s =
      let rest : taken m (next m r x) xs ≡ taken k (next k r x) xs =
      taken_alike (next m r x) xs (next_stands m r x s) ∙ ap (λ (q : Run). taken k q xs) (next_alike r x s.0) in
      ap₂ (λ (b : Bool) (t : List ℕ). cond b (x ∷ t) t) (captures_alike r x s.0) rest

  start_alike : (r : Run) → start_accepted m r ≡ start_accepted k r
  unfolding start_accepted
  start_alike r = go (dec_lt r.state 16)
    where
      go : Dec (r.state < 16) → ltb r.state 16 && ltb r.count (number_of (m.word r.state))
          ≡ ltb r.state 16 && ltb r.count (number_of (k.word r.state))
      go (yes h) = ap (λ (w : ℕ). ltb r.state 16 && ltb r.count (number_of w)) (agree.on_words r.state h)
      go (no n) = let e = le-ltb r.state 16 (omega arith) in simp e

  -- the call answers alike
  pub answers_alike : (xs : List ℕ) (r : Run) (room : ℕ) → answered m xs r room ≡ answered k xs r room
  unfolding answered delivered
  answers_alike xs r room = go (start_accepted m r) refl
    where
      answer : Bool → List ℕ → Run → Benched
      answer ok t q = in_turn (ltb most_samples (length xs)) ok (in_room (ltb room (length t)) t q)

      go : (b : Bool) → start_accepted m r ≡ b
          → answer (start_accepted m r) (taken m r xs) (handed_on m r xs) ≡ answer (start_accepted k r) (taken k r xs) (handed_on k r xs)
      go true e =
          let s = accepted_stands m r e in
          ap₂ (answer (start_accepted m r)) (taken_alike r xs s) (handed_alike r xs s)
          ∙ ap (λ (b : Bool). answer b (taken k r xs) (handed_on k r xs)) (start_alike r)
      go false e =
          ap (λ (b : Bool). answer b (taken m r xs) (handed_on m r xs)) e
          ∙ ap (λ (b : Bool). answer b (taken k r xs) (handed_on k r xs)) (sym e ∙ start_alike r)
