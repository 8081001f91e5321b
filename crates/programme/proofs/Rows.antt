-- The entry of a slot: how long it is, and which it is by the record's length. Assumes nothing.
use Prim.Native.Nat.{ℕ}
use mathlib.Core.Path.{◌≡◌, refl}
use mathlib.Core.List.{List, [], ◌∷◌}
use native.Mathlib.Omega.{arith}
use lib.ListN.{length}
use Rattle.kinds.specs.Table.{entry_of, missing_of, entry_size}
use Rattle.kinds.proofs.Ways.{entry_count}
use Rattle.records.specs.Sections.{description_of}
use Rattle.programme.specs.Table.{entry_for}

pub entry_length : (k : ℕ) (r : List ℕ) → length (entry_for k r) ≡ entry_size k
unfolding entry_for entry_size
entry_length k [] = refl
entry_length k (b ∷ bs) = entry_count k (description_of (b ∷ bs))

-- of no record, and of a record
pub entry_none : (k : ℕ) (r : List ℕ) → length r ≡ 0 → missing_of k ≡ entry_for k r
unfolding entry_for
entry_none k [] e = refl
entry_none k (b ∷ bs) e = absurd (omega arith)

pub entry_some : (k : ℕ) (r : List ℕ) → (length r ≡ 0 → ⊥) → entry_of k (description_of r) ≡ entry_for k r
unfolding entry_for
entry_some k [] n = absurd (n refl)
entry_some k (b ∷ bs) n = refl
