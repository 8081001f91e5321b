-- Laws of the checks and of the words that are read, as loops over a stream ask for them. Assumes nothing.
use Prim.Native.Nat.{ℕ, zero, suc, zero-le, ◌+◌, ◌-◌, ◌*◌, ◌≤◌, ◌<◌}
use mathlib.Core.Path.{◌≡◌, refl, sym, ap, ◌∙◌}
use mathlib.Core.Bool.{Bool, true, false, not}
use mathlib.Core.List.{List, [], ◌∷◌, ◌++◌}
use native.Mathlib.Omega.{arith}
use native.Mathlib.Nat.{zero-add, not-suc-le-zero}
use borrow.Author.Tests.{lt-ltb, le-ltb, eq-eqb, ne_eqb, ltb-false, eqb-true, not-false}
use lib.Dec.{ltb, eqb, lit<}
use lib.ListN.{length, drop, length-drop}
use lib.Seq.{drop-drop}
use Rattle.peek.specs.Bytes.{Bytes}
use Rattle.buffer.specs.Verdict.{and_then, refuse_if, verdict_number, verdict_place, VerdictNumbered}
use Rattle.buffer.specs.declared.Verdict.{Verdict}
use Rattle.buffer.specs.declared.Verdict.TheVariants.{Accepted, Refused}
use Rattle.buffer.proofs.Faults.{and_then_accepted, refuse_if_accepted}
use Rattle.peek.proofs.Numbers.{bytes_drop, u32_small}
use Rattle.command.specs.Command.{load_op, Words}
use Rattle.command.specs.Reading.{opcode, number, command_verdict, loads_verdict, words_in}

-- ---- one command: which verdict it has, by the tests that hold of it

module _ (op at : ℕ) (s : List ℕ) where
  pub command_short : length s < 5 → command_verdict op at s ≡ Refused 13 at
  unfolding command_verdict
  command_short h = simp (lt-ltb (length s) 5 h)

  pub command_other : 5 ≤ length s → (opcode s ≡ op → ⊥) → command_verdict op at s ≡ Refused 14 at
  unfolding command_verdict
  command_other h n = simp (le-ltb (length s) 5 h, ne_eqb (opcode s) op n)

  pub command_there : 5 ≤ length s → opcode s ≡ op → command_verdict op at s ≡ Accepted
  unfolding command_verdict
  command_there h e = simp (le-ltb (length s) 5 h, eq-eqb (opcode s) op e)

  -- and an accepted command is there whole, with the opcode due
  pub command_ok : command_verdict op at s ≡ Accepted → (5 ≤ length s) × (opcode s ≡ op)
  unfolding command_verdict
  command_ok e =
      let p = and_then_accepted (refuse_if (ltb (length s) 5) 13 at) (refuse_if (not (eqb (opcode s) op)) 14 at) e in
      let w = refuse_if_accepted (ltb (length s) 5) 13 at p.0 in
      let d = refuse_if_accepted (not (eqb (opcode s) op)) 14 at p.1 in
      (ltb-false (length s) 5 w, eqb-true (opcode s) op (not-false (eqb (opcode s) op) d))

  -- an answer that is its verdict has its numbers: 13 and 14 are not 0
  pub command_meets : (r : Verdict) → r ≡ command_verdict op at s → (r ≡ command_verdict op at s) × VerdictNumbered (command_verdict op at s) r
  unfolding command_verdict
  command_meets r e =
      let number = ap verdict_number e in (
        e,
        record {
          number = number;
          place = ap verdict_place e;
          none = (λ z. accepted (ltb (length s) 5) (not (eqb (opcode s) op)) (sym number ∙ z), λ a. number ∙ ap verdict_number a);
        },
      )
    where
      accepted : (short other : Bool) → let v = and_then (refuse_if short 13 at) (refuse_if other 14 at) in verdict_number v ≡ 0 → v ≡ Accepted
      accepted true other z = absurd (omega arith)
      accepted false true z = absurd (omega arith)
      accepted false false z = refl

-- ---- a run of load commands

pub loads_none : (k at : ℕ) (s : List ℕ) → k ≡ 0 → loads_verdict k at s ≡ Accepted
unfolding loads_verdict
loads_none k at s z = rw z

-- the next command, then those behind it
pub loads_turn : (k at : ℕ) (s : List ℕ) → 0 < k
    → loads_verdict k at (drop at s) ≡ and_then (command_verdict load_op at (drop at s)) (loads_verdict (k - 1) (at + 5) (drop (at + 5) s))
unfolding loads_verdict
loads_turn zero at s h = absurd (not-suc-le-zero h)
loads_turn (suc k) at s h = let m : suc k - 1 ≡ k = omega arith in rw (m, drop-drop 5 at s)

pub loads_whole : (k at : ℕ) (s : List ℕ) → loads_verdict k at s ≡ Accepted → 5 * k ≤ length s
unfolding loads_verdict
loads_whole zero at s e = zero-le
loads_whole (suc k) at s e =
    let p = and_then_accepted (command_verdict load_op at s) (loads_verdict k (at + 5) (drop 5 s)) e in
    omega (arith, (command_ok load_op at s p.0).0, loads_whole k (at + 5) (drop 5 s) p.1, length-drop 5 s)

-- ---- the words that are read

pub length_words : (k : ℕ) (s : List ℕ) → length (words_in k s) ≡ k
unfolding words_in
length_words zero s = refl
length_words (suc k) s = ap suc (length_words k (drop 5 s))

pub words_none : (k : ℕ) (s : List ℕ) → k ≡ 0 → words_in k s ≡ []
unfolding words_in
words_none k s z = rw z

pub words_turn : (k : ℕ) (s : List ℕ) → 0 < k → words_in k s ≡ number s ∷ words_in (k - 1) (drop 5 s)
unfolding words_in
words_turn zero s h = absurd (not-suc-le-zero h)
words_turn (suc k) s h = let m : suc k - 1 ≡ k = omega arith in rw m

-- the words of two runs, one behind the other
pub words_add : (j k : ℕ) (s : List ℕ) → words_in (j + k) s ≡ words_in j s ++ words_in k (drop (5 * j) s)
unfolding words_in
words_add zero k s = rw zero-add
words_add (suc j) k s =
    let e : suc j + k ≡ suc (j + k) = omega arith in
    let m : 5 + 5 * j ≡ 5 * suc j = omega arith in
    rw (e, ← m, ← drop-drop (5 * j) 5 s) (ap (λ (ws : List ℕ). number s ∷ ws) (words_add j k (drop 5 s)))

pub words_small : (k : ℕ) (s : List ℕ) → Bytes s → Words (words_in k s)
unfolding words_in
words_small zero s h i = lit< tt
words_small (suc k) s h zero = u32_small s 1 h
words_small (suc k) s h (suc i) = words_small k (drop 5 s) (bytes_drop 5 s h) i
