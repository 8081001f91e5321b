-- Addresses in sending order: they rise from slot to slot and from section to section. Assumes nothing.
use Prim.Native.Nat.{ℕ, zero, suc, ◌+◌, ◌≤◌, ◌<◌}
use mathlib.Core.Path.{◌≡◌, refl, sym, ap}
use mathlib.Core.List.{List, [], ◌∷◌, Memᴰ}
use native.Mathlib.Decide.{dec_lt}
use native.Mathlib.Nat.{not-suc-le-zero}
use native.Mathlib.Omega.{arith}
use lib.ListN.{length, get_or}
use Rattle.records.specs.Sections.{sections, most_of}
use Rattle.compiler.specs.Items.{address_of}
use Rattle.kinds.specs.Table.{sending_order}
use Rattle.kinds.proofs.Addresses.{chains_some, place_of, place_below, place_sent, address_rises, address_later, sent_known}

-- in a section addresses rise with the slots
pub addresses_rise : (k slot : ℕ) → k < sections → slot < most_of k → (j : ℕ) → j < slot → address_of k j < address_of k slot
addresses_rise k slot hk hs j h = omega (arith, address_rises k j slot hk h hs, chains_some k hk)

-- so slots rise with the addresses
pub slots_rise : (k i j : ℕ) → k < sections → i < most_of k → j < most_of k → address_of k i < address_of k j → i < j
slots_rise k i j hk hi hj h =
    elim (dec_lt i j) [
      | yes l ↦ l
      | no n ↦ absurd (later (dec_lt j i) n)
    ]
  where
    later : Dec (j < i) → (i < j → ⊥) → ⊥
    later (yes l) n = omega (arith, addresses_rise k i hk hi j l)
    later (no m) n = let e : i ≡ j = omega arith in omega (arith, ap (address_of k) e)

-- ---- sending order

-- every address of these sections is at least low
abbrev pub Clear : (low : ℕ) (order : List ℕ) → Type 0
Clear low order = (k slot : ℕ) → Memᴰ k order → slot < most_of k → low ≤ address_of k slot

-- addresses rise: every address of a section lies below those of the sections that are sent after it [W17]
pub data Ranked : List ℕ → Type 0 where
  done : Ranked []
  next : {k : ℕ} {ks : List ℕ} → k < sections → ((slot : ℕ) → slot < most_of k → Clear (address_of k slot + 1) ks) → Ranked ks → Ranked (k ∷ ks)

-- the place of a section in such an order
placed : (k : ℕ) (order : List ℕ) → Memᴰ k order → (i : ℕ) × (i < length order) × (get_or order i 0 ≡ k)
placed k order (Memᴰ.head e) = (0, omega arith, sym e)
placed k order (Memᴰ.tail {xs = ks} m) = let (i, h, e) = placed k ks m in (suc i, omega arith, e)

member : (order : List ℕ) (i : ℕ) → i < length order → Memᴰ (get_or order i 0) order
member [] i h = absurd (not-suc-le-zero h)
member (k ∷ ks) zero h = Memᴰ.head refl
member (k ∷ ks) (suc i) h = Memᴰ.tail (member ks i (omega arith))

is_ranked : (order : List ℕ) → ((i : ℕ) → i < length order → get_or order i 0 < sections)
    → ((i j a b : ℕ) → i < j → j < length order → a < most_of (get_or order i 0) → b < most_of (get_or order j 0)
    → address_of (get_or order i 0) a < address_of (get_or order j 0) b)
    → Ranked order
is_ranked [] known up = Ranked.done
is_ranked (k ∷ ks) known up =
    Ranked.next (known 0 (omega arith))
    (λ slot hs j b m hb.
    let (i, h, e) = placed j ks m in
    let z = up 0 (suc i) slot b (omega arith) (omega arith) hs (rw e hb) in
    let y = rw e at z in
    omega arith)
    (is_ranked ks (λ i h. known (suc i) (omega arith)) (λ i j a b l h. up (suc i) (suc j) a b (omega arith) (omega arith)))

pub sending_ranked : Ranked sending_order
sending_ranked =
    is_ranked sending_order sent_known
    (λ i j a b l h ha hb. omega (arith, address_later i j a b l h ha hb, chains_some (get_or sending_order i 0) (sent_known i (omega arith))))

-- every section is sent
pub sent_all : (k : ℕ) → k < sections → Memᴰ k sending_order
sent_all k h = rw (place_sent k h) at (member sending_order (place_of k) (place_below k h))
