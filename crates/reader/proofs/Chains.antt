-- The chains of an item, there and back: as they are written they are accepted, and accepted ones are what their reading writes.
-- Assumes nothing.
use Prim.Native.Nat.{ℕ, zero-le, ◌+◌, ◌*◌, ◌≤◌, ◌<◌, ◌^◌}
use mathlib.Core.Path.{◌≡◌, refl, sym, ap, ap₂, ◌∙◌}
use mathlib.Core.Bool.{not}
use mathlib.Core.List.{List, [], ◌∷◌, ◌++◌, append_assoc, map, flatten}
use native.Mathlib.Nat.{not-suc-le-zero}
use native.Mathlib.Omega.{arith}
use borrow.Author.Tests.{eq-eqb, eqb-true, not-false}
use lib.Dec.{eqb}
use lib.ListN.{length, take, drop, length-drop}
use lib.Seq.{take-add, take-append_seam, drop-append_seam, take_at, drop_at}
use Rattle.peek.specs.Bytes.{Bytes}
use Rattle.buffer.specs.Verdict.{refuse_if}
use Rattle.buffer.specs.declared.Verdict.TheVariants.{Accepted}
use Rattle.buffer.proofs.Faults.{and_then_accepted, and_then_both, refuse_if_accepted}
use Rattle.peek.proofs.Numbers.{bytes_drop}
use Rattle.command.specs.Command.{select_op, chain}
use Rattle.command.specs.Reading.{number, command_verdict, loads_verdict, words_in}
use Rattle.command.proofs.Checked.{command_ok, loads_whole, length_words}
use Rattle.command.proofs.RoundTrip.{chain_selects, chain_address, chain_loads, chain_past, chain_written}
use Rattle.compiler.specs.Items.{size_of}
use Rattle.compiler.proofs.Joined.{chains_from}
use Rattle.compiler.specs.Chains.{words_read}
use Rattle.reader.specs.Judging.{chains_verdict}

-- ---- as they are written

-- one chain more
module _ (address : ℕ) (ws tail : List ℕ) (fits : address < 2 ^ 32) (ns : List ℕ) where
  chain_accepted : (at : ℕ) → chains_verdict ns (address + 1) (at + (5 + 5 * length ws)) tail ≡ Accepted
      → chains_verdict (length ws ∷ ns) address at (chain address ws ++ tail) ≡ Accepted
  unfolding chains_verdict
  chain_accepted at later =
      let s = chain address ws ++ tail in
      let due : number s ≡ address = chain_address address ws tail fits in
      let right : refuse_if (not (eqb (number s) address)) 15 at ≡ Accepted = rw (eq-eqb (number s) address due) in
      let rest = rw (← chain_past address ws tail (length ws) refl) at later in
      and_then_both _ _ (chain_selects address ws tail at)
      (and_then_both _ _ right (and_then_both _ _ (chain_loads address ws tail (length ws) refl (at + 5)) rest))

pub chains_accepted : (address at : ℕ) (chains : List (List ℕ)) (rest : List ℕ) → address + length chains ≤ 2 ^ 32
    → chains_verdict (map length chains) address at (chains_from address chains ++ rest) ≡ Accepted
unfolding chains_from chains_verdict
chains_accepted address at [] rest h = refl
chains_accepted address at (ws ∷ more) rest h =
    rw (append_assoc (chain address ws) (chains_from (address + 1) more) rest)
    (chain_accepted address ws (chains_from (address + 1) more ++ rest) (omega arith) (map length more) at
    (chains_accepted (address + 1) (at + (5 + 5 * length ws)) more rest (omega arith)))

pub chains_number : (address : ℕ) (chains : List (List ℕ)) (rest : List ℕ) → 0 < length chains → address < 2 ^ 32
    → number (chains_from address chains ++ rest) ≡ address
unfolding chains_from
chains_number address [] rest h fits = absurd (not-suc-le-zero h)
chains_number address (ws ∷ more) rest h fits =
    rw (append_assoc (chain address ws) (chains_from (address + 1) more) rest)
    (chain_address address ws (chains_from (address + 1) more ++ rest) fits)

pub chains_select : (lengths : List ℕ) (address at : ℕ) (s : List ℕ) → 0 < length lengths → chains_verdict lengths address at s ≡ Accepted
    → command_verdict select_op at s ≡ Accepted
unfolding chains_verdict
chains_select [] address at s h e = absurd (not-suc-le-zero h)
chains_select (n ∷ ns) address at s h e = (and_then_accepted (command_verdict select_op at s) _ e).0

-- ---- as they are read

-- chains of so many words each
pub chains_in : (lengths s : List ℕ) → List (List ℕ)
chains_in [] s = []
chains_in (n ∷ ns) s = words_in n (drop 5 s) ∷ chains_in ns (drop (5 + 5 * n) s)

in_words : (lengths s : List ℕ) → flatten (chains_in lengths s) ≡ words_read lengths s
unfolding chains_in words_read flatten
in_words [] s = refl
in_words (n ∷ ns) s = ap (λ (ws : List ℕ). words_in n (drop 5 s) ++ ws) (in_words ns (drop (5 + 5 * n) s))

in_lengths : (lengths s : List ℕ) → map length (chains_in lengths s) ≡ lengths
unfolding chains_in
in_lengths [] s = refl
in_lengths (n ∷ ns) s = ap₂ (λ (m : ℕ) (ms : List ℕ). m ∷ ms) (length_words n (drop 5 s)) (in_lengths ns (drop (5 + 5 * n) s))

-- chains are known by their lengths and by all their words
same_chains : (xs ys : List (List ℕ)) → map length xs ≡ map length ys → flatten xs ≡ flatten ys → xs ≡ ys
unfolding flatten
same_chains [] [] l e = refl
same_chains [] (y ∷ ys) l e = let z : ◌≡◌ {A = ℕ} 0 1 = cc in absurd (omega arith)
same_chains (x ∷ xs) [] l e = let z : ◌≡◌ {A = ℕ} 0 1 = cc in absurd (omega arith)
same_chains (x ∷ xs) (y ∷ ys) l e =
    let n : length x ≡ length y = cc in
    let ns : map length xs ≡ map length ys = cc in
    let first : x ≡ y = sym (take-append_seam x (flatten xs)) ∙ ap (take (length x)) e ∙ take_at y (flatten ys) (length x) (sym n) in
    let later : flatten xs ≡ flatten ys = sym (drop-append_seam x (flatten xs)) ∙ ap (drop (length x)) e ∙ drop_at y (flatten ys) (length x) (sym n) in
    ap₂ (λ (w : List ℕ) (ws : List (List ℕ)). w ∷ ws) first (same_chains xs ys ns later)

-- an accepted chain, and what its reading writes
module _ (n : ℕ) (ns : List ℕ) (address at : ℕ) (s : List ℕ) (e : chains_verdict (n ∷ ns) address at s ≡ Accepted) where
  select_ok : command_verdict select_op at s ≡ Accepted
  unfolding chains_verdict
  select_ok = (and_then_accepted (command_verdict select_op at s) _ e).0

  address_due : number s ≡ address
  unfolding chains_verdict
  address_due =
      let p = (and_then_accepted (command_verdict select_op at s) _ e).1 in
      let q = (and_then_accepted (refuse_if (not (eqb (number s) address)) 15 at) _ p).0 in
      eqb-true (number s) address (not-false (eqb (number s) address) (refuse_if_accepted (not (eqb (number s) address)) 15 at q))

  loads_ok : (loads_verdict n (at + 5) (drop 5 s) ≡ Accepted)
      × (chains_verdict ns (address + 1) (at + (5 + 5 * n)) (drop (5 + 5 * n) s) ≡ Accepted)
  unfolding chains_verdict
  loads_ok =
      let p = (and_then_accepted (command_verdict select_op at s) _ e).1 in
      let q = (and_then_accepted (refuse_if (not (eqb (number s) address)) 15 at) _ p).1 in
      and_then_accepted (loads_verdict n (at + 5) (drop 5 s)) _ q

  chain_whole : 5 + 5 * n ≤ length s
  chain_whole =
      omega (arith, (command_ok select_op at s select_ok).0, loads_whole n (at + 5) (drop 5 s) loads_ok.0, length-drop 5 s)

pub chains_whole : (lengths : List ℕ) (address at : ℕ) (s : List ℕ) → chains_verdict lengths address at s ≡ Accepted → size_of lengths ≤ length s
unfolding size_of
chains_whole [] address at s e = zero-le
chains_whole (n ∷ ns) address at s e =
    let whole = chain_whole n ns address at s e in
    let later = chains_whole ns (address + 1) (at + (5 + 5 * n)) (drop (5 + 5 * n) s) (loads_ok n ns address at s e).1 in
    omega (arith, length-drop (5 + 5 * n) s)

in_written : (lengths : List ℕ) (address at : ℕ) (s : List ℕ) → Bytes s → chains_verdict lengths address at s ≡ Accepted
    → take (size_of lengths) s ≡ chains_from address (chains_in lengths s)
unfolding size_of chains_in chains_from
in_written [] address at s h e = refl
in_written (n ∷ ns) address at s h e =
    let ok = loads_ok n ns address at s e in
    let due = address_due n ns address at s e in
    let here : take (5 + 5 * n) s ≡ chain address (words_in n (drop 5 s)) =
    chain_written n at s h (select_ok n ns address at s e) ok.0 ∙ ap (λ (a : ℕ). chain a (words_in n (drop 5 s))) due in
    take-add (5 + 5 * n) (size_of ns) s
    ∙ ap₂ (λ (a b : List ℕ). a ++ b) here
    (in_written ns (address + 1) (at + (5 + 5 * n)) (drop (5 + 5 * n) s) (bytes_drop (5 + 5 * n) s h) ok.1)

-- accepted chains are those that have their words
pub chains_written : (chains : List (List ℕ)) (address at : ℕ) (s : List ℕ) → Bytes s → chains_verdict (map length chains) address at s ≡ Accepted
    → flatten chains ≡ words_read (map length chains) s → take (size_of (map length chains)) s ≡ chains_from address chains
chains_written chains address at s h e w =
    let lengths = map length chains in
    in_written lengths address at s h e
    ∙ ap (chains_from address) (same_chains (chains_in lengths s) chains (in_lengths lengths s) (in_words lengths s ∙ sym w))
