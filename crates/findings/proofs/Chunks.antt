-- A section's part in chunks of a record's size: they are its records, and the first with a slot is what is found.
-- Assumes nothing.
use Rattle.std.proofs.Common.{ℕ, ◌≤◌, ◌≡◌, refl, sym, ap, ◌∙◌, Bool, true, false, cond, eqb, List, [], ◌∷◌, ◌++◌, Option, None, Some, Bor, length, length-append, arith}
use Rattle.std.specs.Iterator.{AlwaysYields}
use Rattle.std.specs.Slice.Iter.{chunks_exact_steps, chunks_exact_rest, chunks_exact_size}
use Rattle.std.specs.declared.slice.ChunksExact.{ChunksExact}
use Rattle.std.specs.List as list
use Rattle.std.specs.Option.{option_map, unwrap_or}
use Rattle.std.proofs.lemmas.Iterator.{YieldsList}
use lib.Seq.{take_at, drop_at}
use Rattle.records.specs.Sections.{record_size, slot_of}
use Rattle.records.specs.Records.{records_in, find}
use Rattle.records.proofs.Records.{records_cons, records_none}

module _ (k : ℕ) where
  -- a chunk at the front is the first record
  first : (rest x others : List ℕ) → rest ≡ x ++ others → length x ≡ record_size k → records_in k rest ≡ x ∷ records_in k others
  first rest x others e l =
      let whole : record_size k ≤ length (x ++ others) = omega (arith, length-append x others) in
      rw (e, records_cons k (x ++ others) whole, take_at x others (record_size k) l, drop_at x others (record_size k) l)

  yields : (rs : List (List ℕ)) (s : ChunksExact ℕ) → chunks_exact_size s ≡ record_size k → records_in k (chunks_exact_rest s) ≡ rs
      → AlwaysYields chunks_exact_steps (λ x. x.now) s rs
  yields [] s e q = λ x t p. let z = sym q ∙ first _ x.now _ p.1.0 (p.1.1 ∙ e) in cc
  yields (r ∷ rs) s e q = (
    (λ t p. let z = sym q ∙ records_none k (chunks_exact_rest s) (rw e at p.1.0) in cc),
    (λ x t p.
        let z : r ∷ rs ≡ x.now ∷ records_in k (chunks_exact_rest t) = sym q ∙ first _ x.now _ p.1.0 (p.1.1 ∙ e) in
        (cc, yields rs t (p.0 ∙ e) cc)),
  )

  pub chunked : {s : ChunksExact ℕ} (part : List ℕ) → chunks_exact_size s ≡ record_size k → chunks_exact_rest s ≡ part
      → YieldsList chunks_exact_steps (λ x. x.now) s (records_in k part)
  chunked part e f = record { runs = yields (records_in k part) _ e (ap (records_in k) f) }

-- what is found, if anything is, and no bytes otherwise
find_is : (slot : ℕ) (rs : List (List ℕ)) → unwrap_or (list.find (λ r. eqb (slot_of r) slot) rs) [] ≡ find slot rs
unfolding find
find_is slot [] = refl
find_is slot (r ∷ rs) = by_slot (eqb (slot_of r) slot) (find_is slot rs)
  where
    by_slot : (b : Bool) → unwrap_or (list.find (λ x. eqb (slot_of x) slot) rs) [] ≡ find slot rs
        → unwrap_or (cond b (Some r) (list.find (λ x. eqb (slot_of x) slot) rs)) [] ≡ cond b r (find slot rs)
    by_slot true e = refl
    by_slot false e = e

pub found_is : (slot : ℕ) (rs : List (List ℕ)) (r : Option (Bor (List ℕ))) (other : Bor (List ℕ))
    → option_map (λ x. x.now) r ≡ list.find (λ x. eqb (slot_of x) slot) rs → other.now ≡ [] → (unwrap_or r other).now ≡ find slot rs
found_is slot rs None other e n = n ∙ ap (λ (o : Option (List ℕ)). unwrap_or o []) e ∙ find_is slot rs
found_is slot rs (Some r) other e n = ap (λ (o : Option (List ℕ)). unwrap_or o []) e ∙ find_is slot rs
