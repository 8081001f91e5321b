-- Which verdict a select, a chain, an item and a stream have, by the tests that hold: as the checks of the code go.
-- Assumes nothing.
use Prim.Native.Nat.{ℕ, suc, ◌+◌, ◌*◌, ◌≤◌, ◌<◌, ◌-◌}
use mathlib.Core.Path.{◌≡◌, refl, sym, ap, ◌∙◌}
use mathlib.Core.Bool.{not}
use mathlib.Core.List.{List, [], ◌∷◌}
use native.Mathlib.Nat.{sub_self}
use native.Mathlib.Omega.{arith}
use borrow.Author.Tests.{lt-leb, le-leb, lt-ltb, le-ltb, eq-eqb, ne_eqb}
use lib.Dec.{eqb}
use lib.ListN.{length, drop, replicate, length-drop}
use lib.Seq.{drop-drop}
use Rattle.buffer.specs.Verdict.{and_then, refuse_if}
use Rattle.buffer.specs.declared.Verdict.{Verdict}
use Rattle.buffer.specs.declared.Verdict.TheVariants.{Accepted, Refused}
use Rattle.buffer.proofs.Faults.{and_then_assoc}
use Rattle.command.specs.Command.{select_op}
use Rattle.command.specs.Reading.{number, command_verdict, loads_verdict}
use Rattle.command.proofs.Checked.{command_ok}
use Rattle.records.specs.Sections.{sections}
use Rattle.compiler.specs.Items.{size_of}
use Rattle.kinds.specs.Table.{section_at}
use Rattle.reader.specs.Judging.{first_verdict, chains_verdict, item_verdict, step_size, rests, items_verdict}
use Rattle.reader.proofs.Cutting.{rests_none, rests_some}
use Rattle.reader.proofs.Chains.{chains_whole}

-- nothing follows
alone : (v : Verdict) → and_then v Accepted ≡ v
alone Accepted = refl
alone (Refused number place) = refl

-- ---- an item's first select

module _ (low at : ℕ) (s : List ℕ) where
  pub first_refused_law : (n p : ℕ) → command_verdict select_op at s ≡ Refused n p → first_verdict low at s ≡ Refused n p
  unfolding first_verdict
  first_refused_law n p e = rw e

  module _ (e : command_verdict select_op at s ≡ Accepted) where
    pub first_unknown : sections ≤ section_at (number s) → first_verdict low at s ≡ Refused 15 at
    unfolding first_verdict
    first_unknown h = rw e (simp (le-leb sections (section_at (number s)) h))

    pub first_below : section_at (number s) < sections → number s < low → first_verdict low at s ≡ Refused 15 at
    unfolding first_verdict
    first_below h l = rw e (simp (lt-leb sections (section_at (number s)) h, lt-ltb (number s) low l))

    pub first_known : section_at (number s) < sections → low ≤ number s → first_verdict low at s ≡ Accepted
    unfolding first_verdict
    first_known h l = rw e (simp (lt-leb sections (section_at (number s)) h, le-ltb (number s) low l))

-- ---- chains

module _ (words : ℕ) (lengths : List ℕ) (due at : ℕ) (s : List ℕ) where
  pub chain_refused : (n p : ℕ) → command_verdict select_op at s ≡ Refused n p → chains_verdict (words ∷ lengths) due at s ≡ Refused n p
  unfolding chains_verdict
  chain_refused n p e = rw e

  pub chain_other : command_verdict select_op at s ≡ Accepted → (number s ≡ due → ⊥) → chains_verdict (words ∷ lengths) due at s ≡ Refused 15 at
  unfolding chains_verdict
  chain_other e n = rw e (simp (ne_eqb (number s) due n))

  -- one chain, then those behind it
  pub chains_next : chains_verdict (words ∷ lengths) due at s
      ≡ and_then (chains_verdict (words ∷ []) due at s) (chains_verdict lengths (due + 1) (at + (5 + 5 * words)) (drop (5 + 5 * words) s))
  unfolding chains_verdict
  chains_next =
      let select = command_verdict select_op at s in
      let right = refuse_if (not (eqb (number s) due)) 15 at in
      let loads = loads_verdict words (at + 5) (drop 5 s) in
      let rest = chains_verdict lengths (due + 1) (at + (5 + 5 * words)) (drop (5 + 5 * words) s) in
      sym
      (and_then_assoc select (and_then right (and_then loads Accepted)) rest
      ∙ ap (and_then select)
      (and_then_assoc right (and_then loads Accepted) rest ∙ ap (λ (v : Verdict). and_then right (and_then v rest)) (alone loads)))

pub chain_due : (words due at : ℕ) (s : List ℕ) → command_verdict select_op at (drop at s) ≡ Accepted → number (drop at s) ≡ due
    → loads_verdict words (at + 5) (drop (at + 5) s) ≡ chains_verdict (words ∷ []) due at (drop at s)
unfolding chains_verdict
chain_due words due at s e d =
    rw e (simp (eq-eqb (number (drop at s)) due d) (rw (drop-drop 5 at s) (sym (alone (loads_verdict words (at + 5) (drop (at + 5) s))))))

-- a command that is there lies within the stream
pub command_within : (op at : ℕ) (s : List ℕ) → command_verdict op at (drop at s) ≡ Accepted → at + 5 ≤ length s
command_within op at s e = omega (arith, (command_ok op at (drop at s) e).0, length-drop at s)

-- ---- so many chains of as many words each

module _ (words due from : ℕ) (s : List ℕ) where
  -- of `count` chains from number i on
  pub chains_turn : (count i : ℕ) → i < count → chains_verdict (replicate (count - i) words) due from (drop from s)
      ≡ and_then (chains_verdict (words ∷ []) due from (drop from s))
      (chains_verdict (replicate (count - (i + 1)) words) (due + 1) (from + (5 + 5 * words)) (drop (from + (5 + 5 * words)) s))
  chains_turn count i h =
      let m : count - i ≡ suc (count - (i + 1)) = omega arith in
      rw (m, ← drop-drop (5 + 5 * words) from s) (chains_next words (replicate (count - (i + 1)) words) due from (drop from s))

  pub chains_end : (count : ℕ) → chains_verdict (replicate (count - count) words) due from (drop from s) ≡ Accepted
  unfolding chains_verdict
  chains_end count = rw (sub_self count)

  pub chain_within : chains_verdict (words ∷ []) due from (drop from s) ≡ Accepted → from + (5 + 5 * words) ≤ length s
  unfolding size_of
  chain_within e = omega (arith, chains_whole (words ∷ []) due from (drop from s) e, length-drop from s)

-- ---- a stream, item by item

module _ (low at : ℕ) (s : List ℕ) where
  pub items_turn : at < length s → items_verdict low at (rests (drop at s))
      ≡ and_then (item_verdict low at (drop at s))
      (items_verdict (number (drop at s) + 1) (at + step_size (drop at s)) (rests (drop (at + step_size (drop at s)) s)))
  unfolding items_verdict
  items_turn h = rw (rests_some (drop at s) (rw length-drop (omega arith)), drop-drop (step_size (drop at s)) at s)

  pub items_end : length s ≤ at → items_verdict low at (rests (drop at s)) ≡ Accepted
  unfolding items_verdict
  items_end h = rw (rests_none (drop at s) (rw length-drop (omega arith)))
