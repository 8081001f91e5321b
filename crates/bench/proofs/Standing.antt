-- What is handed on from an accepted start is an accepted start. Holds of any machine. Assumes nothing.
use Prim.Native.Nat.{ℕ, ◌+◌, ◌%◌, ◌≤◌, ◌<◌}
use mathlib.Core.Path.{◌≡◌, refl}
use mathlib.Core.Bool.{Bool, true, false, cond, ◌||◌}
use mathlib.Core.List.{List, [], ◌∷◌}
use native.Mathlib.Omega.{arith}
use borrow.Author.Tests.{ltb-true, eqb-false, lt-ltb}
use lib.Dec.{eqb, ltb}
use Rattle.lines.proofs.Truth.{both_true}
use Rattle.programme.specs.Machine.{Machine}
use Rattle.bench.specs.declared.Moved.{Moved}
use Rattle.bench.specs.declared.Run.{Run}
use Rattle.bench.specs.Run.{number_of, else_of, is_last, hit_slot, else_slot, after_hit, moved, sources_on, step, next, handed_on, start_accepted}

-- a number is at least 1 and has 20 bits
pub number_within : (w : ℕ) → (1 ≤ number_of w) × (number_of w < 1048576)
unfolding number_of
number_within w = go (eqb (w % 1048576) 0) refl
  where
    go : (b : Bool) → eqb (w % 1048576) 0 ≡ b → (1 ≤ cond b 1 (w % 1048576)) × (cond b 1 (w % 1048576) < 1048576)
    go true e = (omega arith, omega arith)
    go false e = (omega (arith, eqb-false (w % 1048576) 0 e), omega arith)

module _ (m : Machine) where
  -- what 24 leaves, as facts
  abbrev pub Stands : (state count : ℕ) → Type 0
  Stands state count = (state < 16) × (count < number_of (m.word state))

  cleared : (state : ℕ) → state < 16 → Stands state 0
  cleared state h = (h, (number_within (m.word state)).0)

  abbrev StandsAt : Moved → Type 0
  StandsAt v = Stands v.state v.count

  hit_stands : (state count : ℕ) → Stands state count → StandsAt (after_hit (m.word state) state count)
  unfolding after_hit
  hit_stands state count (hs, hc) = go (ltb (count + 1) (number_of w)) (is_last w || eqb state 15) refl refl
    where
      w : ℕ
      w = m.word state

      go : (b l : Bool) → ltb (count + 1) (number_of (m.word state)) ≡ b → is_last (m.word state) || eqb state 15 ≡ l → StandsAt (
          cond b
          (record { state = state; count = count + 1; ended = false })
          (cond l (record { state = state; count = 0; ended = true }) (record { state = state + 1; count = 0; ended = false }))
          )
      go true l e f = (hs, ltb-true _ _ e)
      go false true e f = cleared state hs
      go false false e f = cleared (state + 1) (omega (arith, eqb-false state 15 (second (is_last (m.word state)) (eqb state 15) f)))
        where
          second : (a b : Bool) → a || b ≡ false → b ≡ false
          second true b e = let z : ◌≡◌ {A = Bool} true false = e in absurd (let y : ◌≡◌ {A = ℕ} 0 1 = cc in omega arith)
          second false b e = e

  pub moved_stands : (state count sources : ℕ) → Stands state count → StandsAt (moved m state count sources)
  unfolding moved
  moved_stands state count sources h = go (m.matches (hit_slot state) sources) (m.matches (else_slot state) sources)
    where
      go : (a b : Bool) → StandsAt (
          cond a (after_hit (m.word state) state count)
          (cond b (record { state = else_of (m.word state); count = 0; ended = false }) (record { state = state; count = count; ended = false }))
          )
      go true b = hit_stands state count h
      go false true = cleared (else_of (m.word state)) (omega arith)
      go false false = h

  pub next_stands : (r : Run) (x : ℕ) → Stands r.state r.count → Stands (next m r x).state (next m r x).count
  unfolding step
  next_stands r x h = go r.ended
    where
      go : (b : Bool) → Stands (cond b r (step m r x)).state (cond b r (step m r x)).count
      go true = h
      go false = moved_stands r.state r.count (sources_on m r x) h

  pub handed_stands : (r : Run) (xs : List ℕ) → Stands r.state r.count → Stands (handed_on m r xs).state (handed_on m r xs).count
  unfolding handed_on
  handed_stands r [] h = h
  handed_stands r (x ∷ xs) h = handed_stands (next m r x) xs (next_stands r x h)

  pub accepted_stands : (r : Run) → start_accepted m r ≡ true → Stands r.state r.count
  unfolding start_accepted
  accepted_stands r e =
      let both = both_true (ltb r.state 16) (ltb r.count (number_of (m.word r.state))) e in
      (ltb-true _ _ both.0, ltb-true _ _ both.1)

  pub stands_accepted : (r : Run) → Stands r.state r.count → start_accepted m r ≡ true
  unfolding start_accepted
  stands_accepted r (hs, hc) = rw (lt-ltb r.state 16 hs, lt-ltb r.count (number_of (m.word r.state)) hc)

  pub handed_accepted : (r : Run) (xs : List ℕ) → start_accepted m r ≡ true → start_accepted m (handed_on m r xs) ≡ true
  handed_accepted r xs e = stands_accepted (handed_on m r xs) (handed_stands r xs (accepted_stands r e))
