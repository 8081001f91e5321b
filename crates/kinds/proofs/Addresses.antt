-- Addresses: each is small, and in sending order they rise from slot to slot and from section to section, and never meet. The table is
-- looked at by computed tests alone. Assumes nothing.
use Prim.Native.Nat.{ℕ, suc, ◌+◌, ◌≤◌, ◌<◌}
use mathlib.Core.Path.{◌≡◌, refl, sym}
use mathlib.Core.Bool.{Bool, true, false, cond, not, ◌&&◌, ◌||◌, true≢false}
use mathlib.Core.List.{List, [], ◌∷◌}
use native.Mathlib.Omega.{arith}
use borrow.Author.Tests.{lt-ltb, eq-eqb}
use lib.Dec.{T, eqb, ltb, leb, eqb→eq, ltb→lt, leb→le}
use lib.ListN.{length, get_or}
use Rattle.lines.proofs.Computed.{every_below, every_below_law}
use Rattle.lines.proofs.Truth.{and_left, and_right, or_true}
use Rattle.kinds.specs.Table.{sections, kind_of, most_of, address_of, chain_count, chain_length, lengths_of, sending_order}

pub address_small : (k slot : ℕ) → k < sections → slot < most_of k → address_of k slot < 128
unfolding address_of kind_of most_of
address_small k slot hk hs =
    ltb→lt _ _
    (every_below_law (most_of k) (λ s. ltb (address_of k s) 128)
    (every_below_law sections (λ k. every_below (most_of k) (λ s. ltb (address_of k s) 128)) tt k hk) slot hs)

-- every section has a chain
pub chains_some : (k : ℕ) → k < sections → 0 < length (lengths_of k)
unfolding lengths_of chain_count chain_length kind_of
chains_some k h = ltb→lt _ _ (every_below_law sections (λ k. ltb 0 (length (lengths_of k))) tt k h)

-- the section that is sent as number i, and as which number section k is sent
abbrev pub sent_as : ℕ → ℕ
sent_as i = get_or sending_order i 0

abbrev pub place_in : List ℕ → ℕ → ℕ
place_in [] k = 0
place_in (x ∷ xs) k = cond (eqb x k) 0 (suc (place_in xs k))

abbrev pub place_of : ℕ → ℕ
place_of k = place_in sending_order k

-- each has its place there
abbrev sent_once : ℕ → Bool
sent_once k = ltb (place_of k) (length sending_order) && eqb (sent_as (place_of k)) k

sent_once_law : (k : ℕ) → k < sections → T (sent_once k)
sent_once_law k h = every_below_law sections sent_once tt k h

pub place_below : (k : ℕ) → k < sections → place_of k < length sending_order
place_below k h = ltb→lt _ _ (and_left (ltb (place_of k) (length sending_order)) (eqb (sent_as (place_of k)) k) (sent_once_law k h))

pub place_sent : (k : ℕ) → k < sections → sent_as (place_of k) ≡ k
place_sent k h = eqb→eq _ _ (and_right (ltb (place_of k) (length sending_order)) (eqb (sent_as (place_of k)) k) (sent_once_law k h))

-- only sections of the sheet are sent
pub sent_known : (i : ℕ) → i < length sending_order → sent_as i < sections
sent_known i h = ltb→lt _ _ (every_below_law (length sending_order) (λ i. ltb (sent_as i) sections) tt i h)

-- the item of slot a in the section sent as number i goes before that of slot b in the section sent as number j
abbrev before : (i a j b : ℕ) → Bool
before i a j b = ltb i j || (eqb i j && ltb a b)

-- then all its addresses are below: one test for all the slots of all the sections
abbrev rises : (i a j b : ℕ) → Bool
rises i a j b = not (before i a j b) || leb (address_of (sent_as i) a + length (lengths_of (sent_as i))) (address_of (sent_as j) b)

risen : (i a j b : ℕ) → i < length sending_order → a < most_of (sent_as i) → j < length sending_order → b < most_of (sent_as j) → T (rises i a j b)
unfolding address_of lengths_of chain_count chain_length kind_of most_of
risen i a j b hi ha hj hb =
    let n = length sending_order in
    every_below_law (most_of (sent_as j)) (rises i a j)
    (every_below_law n (λ j. every_below (most_of (sent_as j)) (rises i a j))
    (every_below_law (most_of (sent_as i)) (λ a. every_below n (λ j. every_below (most_of (sent_as j)) (rises i a j)))
    (every_below_law n (λ i. every_below (most_of (sent_as i)) (λ a. every_below n (λ j. every_below (most_of (sent_as j)) (rises i a j)))) tt i hi)
    a ha) j hj) b hb

by_test : (b : Bool) (m n : ℕ) → b ≡ true → T (not b || leb m n) → m ≤ n
by_test true m n e t = leb→le m n t
by_test false m n e t = absurd (true≢false (sym e))

-- in one section
pub address_rises : (k a b : ℕ) → k < sections → a < b → b < most_of k → address_of k a + length (lengths_of k) ≤ address_of k b
address_rises k a b hk hab hb =
    let i = place_of k in
    let hi = place_below k hk in
    rw (place_sent k hk) at
    (by_test (before i a i b) (address_of (sent_as i) a + length (lengths_of (sent_as i))) (address_of (sent_as i) b)
    (simp (eq-eqb i i refl, lt-ltb a b hab) (or_true (ltb i i)))
    (risen i a i b hi (rw (place_sent k hk) (omega arith)) hi (rw (place_sent k hk) hb)))

-- from one section to a later one
pub address_later : (i j a b : ℕ) → i < j → j < length sending_order → a < most_of (sent_as i) → b < most_of (sent_as j)
    → address_of (sent_as i) a + length (lengths_of (sent_as i)) ≤ address_of (sent_as j) b
address_later i j a b hij hj ha hb =
    by_test (before i a j b) (address_of (sent_as i) a + length (lengths_of (sent_as i))) (address_of (sent_as j) b) (simp (lt-ltb i j hij))
    (risen i a j b (omega arith) ha hj hb)
