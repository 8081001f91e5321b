-- What is written is read back, and an accepted run of commands is what its reading writes. Assumes nothing.
use Prim.Native.Nat.{ℕ, zero, suc, ◌+◌, ◌*◌, ◌^◌, ◌<◌}
use mathlib.Core.Path.{◌≡◌, refl, sym, ap, ap₂, ◌∙◌}
use mathlib.Core.List.{List, [], ◌∷◌, ◌++◌}
use native.Mathlib.Omega.{arith}
use lib.ListN.{length, take, drop}
use lib.Seq.{take-add, drop_at}
use Rattle.peek.specs.Bytes.{Bytes, u32_bytes}
use Rattle.buffer.specs.declared.Verdict.TheVariants.{Accepted}
use Rattle.buffer.proofs.Faults.{and_then_accepted, and_then_both}
use Rattle.peek.proofs.Numbers.{bytes_tail, bytes_drop, u32_drop, u32_read, u32_written}
use Rattle.command.specs.Command.{select_op, load_op, command, loads, chain, Words}
use Rattle.command.specs.Reading.{number, command_verdict, loads_verdict, words_in}
use Rattle.command.proofs.Written.{length_chain, words_tail}
use Rattle.command.proofs.Checked.{command_there, command_ok}

-- ---- what is written is read back, whatever stands behind it

pub command_read : (op n at : ℕ) (rest : List ℕ) → command_verdict op at (command op n ++ rest) ≡ Accepted
command_read op n at rest = command_there op at (command op n ++ rest) (omega arith) refl

pub number_read : (op n : ℕ) (rest : List ℕ) → n < 2 ^ 32 → number (command op n ++ rest) ≡ n
number_read op n rest h = u32_drop (command op n ++ rest) 1 ∙ u32_read n rest h

pub loads_read : (ws : List ℕ) (k at : ℕ) (rest : List ℕ) → k ≡ length ws → loads_verdict k at (loads ws ++ rest) ≡ Accepted
unfolding loads loads_verdict
loads_read [] k at rest e = rw e
loads_read (w ∷ ws) k at rest e =
    rw e (and_then_both (command_verdict load_op at (command load_op w ++ (loads ws ++ rest))) (loads_verdict (length ws) (at + 5) (loads ws ++ rest))
    (command_read load_op w at (loads ws ++ rest))
    (loads_read ws (length ws) (at + 5) rest refl))

pub words_read_law : (ws : List ℕ) (k : ℕ) (rest : List ℕ) → k ≡ length ws → Words ws → words_in k (loads ws ++ rest) ≡ ws
unfolding loads words_in
words_read_law [] k rest e h = rw e
words_read_law (w ∷ ws) k rest e h =
    rw e (ap₂ (λ (x : ℕ) (xs : List ℕ). x ∷ xs) (number_read load_op w (loads ws ++ rest) (h 0)) (words_read_law ws (length ws) rest refl (words_tail w ws h)))

-- a chain, with anything behind it: its select command, and its k words
module _ (a : ℕ) (ws rest : List ℕ) where
  pub chain_selects : (at : ℕ) → command_verdict select_op at (chain a ws ++ rest) ≡ Accepted
  chain_selects at = command_read select_op a at (loads ws ++ rest)

  pub chain_address : a < 2 ^ 32 → number (chain a ws ++ rest) ≡ a
  chain_address h = number_read select_op a (loads ws ++ rest) h

  module _ (k : ℕ) (count : k ≡ length ws) where
    pub chain_loads : (at : ℕ) → loads_verdict k at (drop 5 (chain a ws ++ rest)) ≡ Accepted
    chain_loads at = loads_read ws k at rest count

    pub chain_words_law : Words ws → words_in k (drop 5 (chain a ws ++ rest)) ≡ ws
    chain_words_law h = words_read_law ws k rest count h

    pub chain_past : drop (5 + 5 * k) (chain a ws ++ rest) ≡ rest
    chain_past = drop_at (chain a ws) rest (5 + 5 * k) (length_chain a ws ∙ ap (λ (n : ℕ). 5 + 5 * n) (sym count))

-- ---- what is accepted is what its reading writes

pub command_written : (op at : ℕ) (s : List ℕ) → Bytes s → command_verdict op at s ≡ Accepted → take 5 s ≡ command op (number s)
command_written op at [] h e = absurd (omega (arith, (command_ok op at [] e).0))
command_written op at (o ∷ t) h e =
    let ok = command_ok op at (o ∷ t) e in
    let four : take 4 t ≡ u32_bytes (number (o ∷ t)) =
    sym (u32_written t (bytes_tail o t h) (omega (arith, ok.0))) ∙ ap u32_bytes (sym (u32_drop (o ∷ t) 1)) in
    ap₂ (λ (x : ℕ) (xs : List ℕ). x ∷ xs) ok.1 four

pub loads_written : (k at : ℕ) (s : List ℕ) → Bytes s → loads_verdict k at s ≡ Accepted → take (5 * k) s ≡ loads (words_in k s)
unfolding loads loads_verdict words_in
loads_written zero at s h e = refl
loads_written (suc k) at s h e =
    let p = and_then_accepted (command_verdict load_op at s) (loads_verdict k (at + 5) (drop 5 s)) e in
    let m : 5 * suc k ≡ 5 + 5 * k = omega arith in
    rw (m, take-add 5 (5 * k) s)
    (ap₂ (λ (xs ys : List ℕ). xs ++ ys) (command_written load_op at s h p.0) (loads_written k (at + 5) (drop 5 s) (bytes_drop 5 s h) p.1))

pub chain_written : (k at : ℕ) (s : List ℕ) → Bytes s → command_verdict select_op at s ≡ Accepted → loads_verdict k (at + 5) (drop 5 s) ≡ Accepted
    → take (5 + 5 * k) s ≡ chain (number s) (words_in k (drop 5 s))
chain_written k at s h e f =
    take-add 5 (5 * k) s
    ∙ ap₂ (λ (xs ys : List ℕ). xs ++ ys) (command_written select_op at s h e) (loads_written k (at + 5) (drop 5 s) (bytes_drop 5 s h) f)
