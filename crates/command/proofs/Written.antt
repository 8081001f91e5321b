-- Laws of commands and chains as they are written: how long they are, and how a loop over the words goes through one.
-- Assumes nothing.
use Prim.Native.Nat.{ℕ, suc, ◌+◌, ◌*◌, ◌≤◌, ◌<◌}
use mathlib.Core.Path.{◌≡◌, refl, ap}
use mathlib.Core.List.{List, [], ◌∷◌, ◌++◌}
use native.Mathlib.Numerals.{add-one}
use native.Mathlib.Omega.{arith}
use lib.Dec.{lit<}
use lib.ListN.{length, drop, get_or, drop_of_length-le}
use lib.Seq.{drop-cons}
use Rattle.peek.specs.Bytes.{Bytes, u32_bytes}
use Rattle.peek.proofs.Numbers.{bytes_nil, bytes_cons, bytes_append, bytes_u32}
use Rattle.command.specs.Command.{load_op, command, loads, chain, Words}

-- ---- lengths

pub length_loads : (ws : List ℕ) → length (loads ws) ≡ 5 * length ws
unfolding loads
length_loads [] = refl
length_loads (w ∷ ws) = omega (arith, length_loads ws)

pub length_chain : (a : ℕ) (ws : List ℕ) → length (chain a ws) ≡ 5 + 5 * length ws
length_chain a ws = omega (arith, length_loads ws)

-- ---- the words one after the other

pub loads_append : (xs ys : List ℕ) → loads (xs ++ ys) ≡ loads xs ++ loads ys
unfolding loads
loads_append [] ys = refl
loads_append (x ∷ xs) ys = ap (λ (r : List ℕ). command load_op x ++ r) (loads_append xs ys)

-- the words from i on: the i-th, then those after it
pub loads_from : (ws : List ℕ) (i : ℕ) → i < length ws → loads (drop i ws) ≡ command load_op (get_or ws i 0) ++ loads (drop (i + 1) ws)
unfolding loads
loads_from ws i h = rw (add-one, drop-cons ws i 0)

pub loads_end : (ws : List ℕ) (i : ℕ) → length ws ≤ i → loads (drop i ws) ≡ []
unfolding loads
loads_end ws i h = rw (drop_of_length-le ws {i = i} h)

-- ---- what is written consists of bytes

pub bytes_command : (op n : ℕ) → op < 256 → Bytes (command op n)
bytes_command op n h = bytes_cons op (u32_bytes n) h (bytes_u32 n)

pub bytes_loads : (ws : List ℕ) → Bytes (loads ws)
unfolding loads
bytes_loads [] = bytes_nil
bytes_loads (w ∷ ws) = bytes_append (command load_op w) (loads ws) (bytes_command load_op w (lit< tt)) (bytes_loads ws)

-- ---- words

pub words_tail : (w : ℕ) (ws : List ℕ) → Words (w ∷ ws) → Words ws
words_tail w ws h i = h (suc i)
