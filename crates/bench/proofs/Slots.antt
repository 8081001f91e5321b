-- The sums of a state in the table. Assumes nothing.
use Prim.Native.Nat.{ℕ, ◌+◌, ◌*◌}
use mathlib.Core.Path.{◌≡◌, sym, ap₂, ◌∙◌}
use mathlib.Core.Bool.{Bool}
use mathlib.Core.List.{List}
use Rattle.programme.specs.Table.{six_at, plain}
use Rattle.bench.specs.Asking.{addresses_of, sum_asked}
use Rattle.bench.proofs.Asking.{sum_asked_law}

-- the six words from an index on, asked at the addresses of sources, match as the slot does
pub slot_matches : (table : List ℕ) (slot at addresses sources : ℕ) (b : Bool) → b ≡ sum_asked (six_at table at) addresses
    → at ≡ 32 + 6 * slot → addresses ≡ addresses_of sources → b ≡ (plain table).matches slot sources
unfolding plain
slot_matches table slot at addresses sources b e h a =
    e ∙ ap₂ (λ (i x : ℕ). sum_asked (six_at table i) x) h a ∙ sum_asked_law (six_at table (32 + 6 * slot)) sources

-- and it is known whether they match
pub slot_is : (table : List ℕ) (slot at addresses sources : ℕ) (b c : Bool) → b ≡ sum_asked (six_at table at) addresses
    → at ≡ 32 + 6 * slot → addresses ≡ addresses_of sources → b ≡ c → (plain table).matches slot sources ≡ c
slot_is table slot at addresses sources b c e h a k = sym (slot_matches table slot at addresses sources b e h a) ∙ k
