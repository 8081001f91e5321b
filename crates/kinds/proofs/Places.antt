-- The way back from an address: each slot of each section has an address of its own, which leads back to it, and an
-- address that no slot has leads nowhere. The table is looked at by computed tests alone. Assumes nothing.
use Prim.Native.Nat.{ℕ, zero, suc, ◌+◌, ◌≤◌, ◌<◌}
use mathlib.Core.Path.{◌≡◌, sym, ap, ap₂, ◌∙◌}
use mathlib.Core.Bool.{Bool}
use native.Mathlib.Decide.{dec_lt, ℕ_discrete}
use native.Mathlib.Omega.{arith}
use borrow.Author.Tests.{eq-eqb, ne_eqb, lt-ltb, le-ltb}
use lib.Dec.{T, eqb, eqb→eq}
use Rattle.lines.proofs.Computed.{every_below, every_below_law}
use Rattle.kinds.specs.Table.{Kind, kinds, sections, kind_of, most_of, address_of, slot_from, slot_at, section_from, section_at}
use Rattle.kinds.proofs.Rows.{Each, of_kind}
use Rattle.kinds.proofs.Addresses.{address_small}

-- ---- what a search finds

slot_found : (n slot k a : ℕ) → slot_from n slot k a < slot + n → address_of k (slot_from n slot k a) ≡ a
unfolding slot_from
slot_found zero slot k a h = absurd (omega arith)
slot_found (suc n) slot k a h =
    elim (ℕ_discrete (address_of k slot) a) [
      | yes e ↦ let t = eq-eqb (address_of k slot) a e in rw t e
      | no d ↦ let t = ne_eqb (address_of k slot) a d in rw t (slot_found n (slot + 1) k a (omega (arith, rw t at h)))
    ]

section_found : (n k a : ℕ) → section_from n k a < k + n → slot_at (section_from n k a) a < most_of (section_from n k a)
unfolding section_from
section_found zero k a h = absurd (omega arith)
section_found (suc n) k a h =
    elim (dec_lt (slot_at k a) (most_of k)) [
      | yes l ↦ let t = lt-ltb (slot_at k a) (most_of k) l in rw t l
      | no d ↦ let t = le-ltb (slot_at k a) (most_of k) (omega arith) in rw t (section_found n (k + 1) a (omega (arith, rw t at h)))
    ]

section_bound : (n k a : ℕ) → section_from n k a ≤ k + n
unfolding section_from
section_bound zero k a = omega arith
section_bound (suc n) k a =
    elim (dec_lt (slot_at k a) (most_of k)) [
      | yes l ↦ let t = lt-ltb (slot_at k a) (most_of k) l in rw t (omega arith)
      | no d ↦ let t = le-ltb (slot_at k a) (most_of k) (omega arith) in rw t (omega (arith, section_bound n (k + 1) a))
    ]

-- an address that a section has: its slot, and the slot's address
module _ (a : ℕ) (known : section_at a < sections) where
  pub slot_fits : slot_at (section_at a) a < most_of (section_at a)
  unfolding section_at
  slot_fits = section_found sections 0 a known

  pub slot_address : address_of (section_at a) (slot_at (section_at a) a) ≡ a
  unfolding slot_at
  slot_address = slot_found (most_of (section_at a)) 0 (section_at a) a (omega (arith, slot_fits))

  pub known_small : a < 128
  known_small = rw slot_address at (address_small (section_at a) (slot_at (section_at a) a) known slot_fits)

-- ---- the slots of the table: one test at each slot of each section

abbrev every_slot : (ℕ → ℕ → Bool) → Bool
every_slot test = every_below sections (λ k. every_below (most_of k) (test k))

every_slot_law : (test : ℕ → ℕ → Bool) → T (every_slot test) → (k slot : ℕ) → k < sections → slot < most_of k → T (test k slot)
every_slot_law test t k slot hk hs =
    every_below_law (most_of k) (test k) (every_below_law sections (λ k. every_below (most_of k) (test k)) t k hk) slot hs

module _ (k slot : ℕ) (hk : k < sections) (hs : slot < most_of k) where
  pub section_of_slot : section_at (address_of k slot) ≡ k
  unfolding section_at section_from slot_at slot_from most_of kind_of address_of
  section_of_slot = eqb→eq _ _ (every_slot_law (λ k slot. eqb (section_at (address_of k slot)) k) tt k slot hk hs)

  pub slot_of_address : slot_at k (address_of k slot) ≡ slot
  unfolding slot_at slot_from most_of kind_of address_of
  slot_of_address = eqb→eq _ _ (every_slot_law (λ k slot. eqb (slot_at k (address_of k slot)) slot) tt k slot hk hs)

-- ---- by arithmetic, as the code finds them

-- this place is what the address starts
abbrev pub Starts : (a k slot : ℕ) → Type 0
Starts a k slot = (k ≡ section_at a) × (slot ≡ slot_at (section_at a) a)

-- an address of section k's slot
pub starts : (k slot a : ℕ) → k < sections → slot < most_of k → address_of k slot ≡ a → Starts a k slot
starts k slot a hk hs e =
    let s : section_at a ≡ k = ap section_at (sym e) ∙ section_of_slot k slot hk hs in
    (sym s, sym (ap₂ slot_at s (sym e) ∙ slot_of_address k slot hk hs))

-- an address that no slot has
abbrev pub Missed : ℕ → Kind → Type 0
Missed a x = (slot : ℕ) → slot < x.most → x.address slot ≡ a → ⊥

pub starts_none : (a : ℕ) → Each (Missed a) kinds → Starts a sections 0
unfolding section_at slot_at slot_from most_of kind_of address_of
starts_none a missed = (sym none, ap (λ (k : ℕ). slot_at k a) (sym none))
  where
    none : section_at a ≡ sections
    none =
        elim (dec_lt (section_at a) sections) [
          | yes h ↦ absurd (of_kind (Missed a) missed (section_at a) h (slot_at (section_at a) a) (slot_fits a h) (slot_address a h))
          | no h ↦ omega (arith, section_bound sections 0 a)
        ]
