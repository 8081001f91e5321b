-- The record that an accepted sheet has in a slot: its bytes, and that it is without fault. Assumes nothing.
use Prim.Native.Nat.{ℕ, ◌+◌, ◌<◌}
use mathlib.Core.Path.{◌≡◌, subst}
use mathlib.Core.List.{List, []}
use native.Mathlib.Omega.{arith}
use lib.ListN.{length, get_or, length-drop}
use Rattle.peek.specs.Bytes.{Bytes}
use Rattle.peek.proofs.Numbers.{bytes_drop}
use Rattle.buffer.specs.declared.Verdict.TheVariants.{Accepted}
use Rattle.kinds.specs.Table as kinds
use Rattle.kinds.proofs.Ways.{faultless_iff_accepted}
use Rattle.records.specs.Sections.{sections, most_of, label_size, description_size, description_of}
use Rattle.sheet.specs.Reading.{verdict}
use Rattle.sheet.specs.Parsed.{Faultless, parse, record_with}
use Rattle.sheet.proofs.Descriptions.{bytes_parsed, bytes_found}
use Rattle.sheet.proofs.Found.{find_found}
use Rattle.sheet.proofs.Records.{section_ordered, record_faultless}

module _ (s : List ℕ) (b : Bytes s) (ok : verdict s ≡ Accepted) (k slot : ℕ) (hk : k < sections) where
  pub description_bytes : Bytes (description_of (record_with k slot s))
  description_bytes = bytes_drop (1 + label_size) (record_with k slot s) (bytes_found slot (get_or (parse s) k []) (bytes_parsed s k hk b))

  module _ (has : record_with k slot s ≡ [] → ⊥) where
    pub record_sound : Faultless k 0 (record_with k slot s)
    record_sound =
        let f = find_found slot (get_or (parse s) k []) has in
        subst (Faultless k 0) f.is (record_faultless (section_ordered s k hk ok) f.place f.within)

    pub description_whole : length (description_of (record_with k slot s)) ≡ description_size k
    description_whole = omega (arith, length-drop (1 + label_size) (record_with k slot s), record_sound.whole)

    pub has_below : slot < most_of k
    has_below =
        let f = find_found slot (get_or (parse s) k []) has in
        let l = record_sound.slot_fits in
        omega (arith, f.has)

    -- its description is accepted, by meaning [G2]
    pub description_sound : kinds.Accepted k (description_of (record_with k slot s))
    description_sound =
        (faultless_iff_accepted k hk (description_of (record_with k slot s)) description_bytes description_whole).0 record_sound.description_fits
