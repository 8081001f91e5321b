-- A text that is written piece by piece from an index on: `rest` of it is left, to be written at `at`. Assumes nothing.
use Prim.Native.Nat.{ℕ, zero-le, ◌+◌, ◌-◌, ◌≤◌, ◌<◌}
use mathlib.Core.Path.{◌≡◌, refl, ap, ◌∙◌}
use mathlib.Core.List.{List, [], ◌++◌}
use native.Mathlib.Omega.{arith}
use borrow.Rule.Slice.PartMut.{mid_of, put_mid}
use lib.ListN.{length, length-append}
use Rattle.buffer.specs.declared.Outcome.{Outcome}
use Rattle.buffer.specs.Room.{bytes, write, Delivered, Wrote}
use Rattle.buffer.proofs.Writing.{Pending, pending_start, pending_write, pending_end, lent}

pub record Left (from : ℕ) (text out₀ out : List ℕ) (at : ℕ) (rest : List ℕ) : Type 0 where
  pub pending : Pending out₀ (write from text out₀) at rest out
  pub count : at + length rest ≡ from + length text

pub left_start : (from : ℕ) (text out : List ℕ) → from + length text ≤ length out → Left from text out out from text
left_start from text out h = record { pending = pending_start from text out h; count = refl }

module _ (from : ℕ) (text out₀ out : List ℕ) (at : ℕ) (rest : List ℕ) (l : Left from text out₀ out at rest) where
  -- the next piece fits
  pub left_room : (now later : List ℕ) → rest ≡ now ++ later → at + length now ≤ length out
  left_room now later e =
      let r : at + length (now ++ later) ≤ length out = rw e at l.pending.room in
      omega (arith, length-append now later)

  pub left_turn : (now later out' : List ℕ) (at' : ℕ) → rest ≡ now ++ later → Wrote at now out out' at' → Left from text out₀ out' at' later
  left_turn now later out' at' e w =
      let c : at + length (now ++ later) ≡ from + length text = rw e at l.count in
      record {
        pending = pending_write out₀ _ at at' rest now later out out' e w.next l.pending w.left;
        count = omega (arith, w.next, length-append now later);
      }

  pub left_end : rest ≡ [] → Wrote from text out₀ out at
  left_end e =
      let c : at + 0 ≡ from + length text = rw e at l.count in
      record { next = omega arith; left = pending_end out₀ (write from text out₀) at out (rw e at l.pending) }

-- a writer that was lent the rest of the room from an index on wrote its text there
pub wrote_lent : (at : ℕ) (text out : List ℕ) (r : Outcome) (out' : List ℕ) (at' : ℕ) → at + length text ≤ length out → at' ≡ at + length text
    → Delivered (bytes text) (mid_of at (length out - at) out) r out' → Wrote at text out (put_mid at (length out - at) out out') at'
wrote_lent at text out r out' at' h e d = record { next = e; left = lent at text out r out' h d }

-- a text of so many pieces, one for each number below n: those from i on are left
pub record Stepping (from : ℕ) (rest : ℕ → List ℕ) (n : ℕ) (out₀ out : List ℕ) (at i : ℕ) : Type 0 where
  pub below : i ≤ n
  pub left : Left from (rest 0) out₀ out at (rest i)

module _ (from : ℕ) (rest : ℕ → List ℕ) (n : ℕ) where
  pub stepping_start : (out : List ℕ) → from + length (rest 0) ≤ length out → Stepping from rest n out out from 0
  stepping_start out h = record { below = zero-le; left = left_start from (rest 0) out h }

  module _ (out₀ out : List ℕ) (at i : ℕ) (s : Stepping from rest n out₀ out at i) where
    -- the next piece fits, and then there is one less
    pub stepping_room : (piece : List ℕ) → rest i ≡ piece ++ rest (i + 1) → at + length piece ≤ length out
    stepping_room piece e = left_room from (rest 0) out₀ out at (rest i) s.left piece (rest (i + 1)) e

    pub stepping_turn : (piece : List ℕ) → rest i ≡ piece ++ rest (i + 1) → i < n → (out' : List ℕ) (at' : ℕ) → Wrote at piece out out' at'
        → Stepping from rest n out₀ out' at' (i + 1)
    stepping_turn piece e h out' at' w =
        record { below = omega arith; left = left_turn from (rest 0) out₀ out at (rest i) s.left piece (rest (i + 1)) out' at' e w }

    pub stepping_end : rest n ≡ [] → n ≤ i → Wrote from (rest 0) out₀ out at
    stepping_end e h =
        let b = s.below in
        let all : i ≡ n = omega arith in
        left_end from (rest 0) out₀ out at (rest i) s.left (ap rest all ∙ e)
