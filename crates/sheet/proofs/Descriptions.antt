-- Which descriptions an accepted sheet can have, and that a sheet of bytes has records of bytes. Assumes nothing.
use Prim.Native.Nat.{ℕ, zero, suc, ◌+◌, ◌*◌, ◌<◌}
use mathlib.Core.Bool.{Bool, true, false, cond}
use mathlib.Core.List.{List, [], ◌∷◌, ◌++◌}
use mathlib.Core.Path.{◌≡◌, refl, ap, ◌∙◌}
use native.Mathlib.Decide.{dec_lt}
use native.Mathlib.Nat.{add-zero, zero-add, zero-div}
use native.Mathlib.Omega.{arith}
use lib.Dec.{ltb, eqb}
use lib.ListN.{length, get_or, take, drop, replicate, length-drop, length-replicate}
use Rattle.peek.specs.Bytes.{Bytes}
use Rattle.compare.specs.Within.{all_within}
use Rattle.buffer.specs.Verdict.{is_accepted}
use Rattle.buffer.specs.declared.Verdict.TheVariants.{Accepted}
use Rattle.peek.proofs.Numbers.{bytes_nil, bytes_cons, bytes_append, bytes_take, bytes_drop}
use Rattle.records.specs.Sections.{sections, label_size, description_size, description_fault, record_size, slot_of, description_of}
use Rattle.sheet.specs.Reading.{verdict}
use Rattle.records.specs.Records.{record_at, record_count, records_from, find}
use Rattle.sheet.specs.Parts.{offset_of, count_of, section_unchecked, section_of}
use Rattle.sheet.specs.Parsed.{joined, render, Faultless, Ordered, LabelsDiffer, Sections, WellFormed, parse, AcceptedDescription}
use mathlib.Core.Logic.{◌↔◌}
use Rattle.kinds.specs.Table as kinds
use Rattle.kinds.proofs.Rows.{most_byte, most_positive}
use Rattle.kinds.proofs.Ways.{faultless_iff_accepted}
use Rattle.sheet.proofs.Parsed.{ordered_count, render_accepted, parse_render}
use Rattle.sheet.proofs.Reading.{section_unknown}
use Rattle.sheet.proofs.Records.{section_parsed, section_ordered, section_joined, record_of_law, count_of_law, record_faultless}

-- ---- bytes

bytes_cond : (b : Bool) (s t : List ℕ) → Bytes s → Bytes t → Bytes (cond b s t)
bytes_cond true s t h g = h
bytes_cond false s t h g = g

pub bytes_section : (s : List ℕ) (k : ℕ) → Bytes s → Bytes (section_of s k)
unfolding section_of section_unchecked
bytes_section s k h =
    let n = count_of s k * record_size k in
    let rest = drop (offset_of s k + 1) s in
    bytes_cond (is_accepted (verdict s)) (section_unchecked s k) []
    (bytes_cond (ltb k sections) (take n rest) [] (bytes_take n rest (bytes_drop (offset_of s k + 1) s h)) bytes_nil)
    bytes_nil

pub bytes_record : (k i : ℕ) (part : List ℕ) → Bytes part → Bytes (record_at k part i)
unfolding record_at
bytes_record k i part h = bytes_take (record_size k) (drop (i * record_size k) part) (bytes_drop (i * record_size k) part h)

bytes_records : (k n : ℕ) (rest : List ℕ) → Bytes rest → (i : ℕ) → Bytes (get_or (records_from k n rest) i [])
unfolding records_from
bytes_records k zero rest h i = bytes_nil
bytes_records k (suc n) rest h zero = bytes_take (record_size k) rest h
bytes_records k (suc n) rest h (suc i) = bytes_records k n (drop (record_size k) rest) (bytes_drop (record_size k) rest h) i

-- the records of a sheet of bytes are bytes
pub bytes_parsed : (s : List ℕ) (k : ℕ) → k < sections → Bytes s → (i : ℕ) → Bytes (get_or (get_or (parse s) k []) i [])
bytes_parsed s k l h i = rw (section_parsed s k l) (bytes_records k (count_of s k) (drop (offset_of s k + 1) s) (bytes_drop (offset_of s k + 1) s h) i)

-- what is found by its slot is bytes too
pub bytes_found : (slot : ℕ) (rs : List (List ℕ)) → ((i : ℕ) → Bytes (get_or rs i [])) → Bytes (find slot rs)
unfolding find
bytes_found slot [] h = bytes_nil
bytes_found slot (r ∷ rs) h = bytes_cond (eqb (slot_of r) slot) r (find slot rs) (h 0) (bytes_found slot rs (λ i. h (suc i)))

pub bytes_joined : (rs : List (List ℕ)) → ((i : ℕ) → Bytes (get_or rs i [])) → Bytes (joined rs)
unfolding joined
bytes_joined [] h = bytes_nil
bytes_joined (r ∷ rs) h = bytes_append r (joined rs) (h 0) (bytes_joined rs (λ i. h (suc i)))

-- and sections whose records are bytes render to bytes
pub bytes_rendered : {k : ℕ} {p : List (List (List ℕ))} → Sections k p → ((j i : ℕ) → Bytes (get_or (get_or p j []) i [])) → Bytes (render p)
unfolding render
bytes_rendered Sections.done h = bytes_nil
bytes_rendered {k} (Sections.next {rs = rs} {ss = ss} o d g) h =
    bytes_cons (length rs) (joined rs ++ render ss) (omega (arith, ordered_count o (omega arith), most_byte k))
    (bytes_append (joined rs) (render ss) (bytes_joined rs (h 0)) (bytes_rendered g (λ j. h (suc j))))

-- ---- a sheet with one record, at slot 0 under a blank label

unfoldable pub record_with : List ℕ → List ℕ
record_with d = 0 ∷ (replicate label_size 0x20 ++ d)

-- n sections, of which section j has these records and the others none
unfoldable pub only_section : ℕ → ℕ → List (List ℕ) → List (List (List ℕ))
only_section zero j rs = []
only_section (suc n) zero rs = rs ∷ replicate n []
only_section (suc n) (suc j) rs = [] ∷ only_section n j rs

unfoldable pub sheet_with : ℕ → List ℕ → List ℕ
sheet_with k d = render (only_section sections k (record_with d ∷ []))

none_differ : LabelsDiffer []
none_differ i j l h = absurd (omega arith)

no_records : (n k : ℕ) → Sections k (replicate n [])
no_records zero k = Sections.done
no_records (suc n) k = Sections.next Ordered.done none_differ (no_records n (k + 1))

only_good : (n j k : ℕ) (rs : List (List ℕ)) → Ordered (k + j) 0 rs → LabelsDiffer rs → Sections k (only_section n j rs)
unfolding only_section
only_good zero j k rs o d = Sections.done
only_good (suc n) zero k rs o d = Sections.next (rw (add-zero k) at o) d (no_records n (k + 1))
only_good (suc n) (suc j) k rs o d =
    let e : k + suc j ≡ k + 1 + j = omega arith in
    Sections.next Ordered.done none_differ (only_good n j (k + 1) rs (rw e at o) d)

only_count : (n j : ℕ) (rs : List (List ℕ)) → length (only_section n j rs) ≡ n
unfolding only_section
only_count zero j rs = refl
only_count (suc n) zero rs = ap suc (length-replicate n [])
only_count (suc n) (suc j) rs = ap suc (only_count n j rs)

only_at : (n j : ℕ) (rs : List (List ℕ)) → j < n → get_or (only_section n j rs) j [] ≡ rs
unfolding only_section
only_at zero j rs h = absurd (omega arith)
only_at (suc n) zero rs h = refl
only_at (suc n) (suc j) rs h = only_at n j rs (omega arith)

none_bytes : (n j i : ℕ) → Bytes (get_or (get_or (replicate n []) j []) i [])
none_bytes zero j i = bytes_nil
none_bytes (suc n) zero i = bytes_nil
none_bytes (suc n) (suc j) i = none_bytes n j i

only_bytes : (n k : ℕ) (rs : List (List ℕ)) → ((i : ℕ) → Bytes (get_or rs i [])) → (j i : ℕ) → Bytes (get_or (get_or (only_section n k rs) j []) i [])
unfolding only_section
only_bytes zero k rs h j i = bytes_nil
only_bytes (suc n) zero rs h zero i = h i
only_bytes (suc n) zero rs h (suc j) i = none_bytes n j i
only_bytes (suc n) (suc k) rs h zero i = bytes_nil
only_bytes (suc n) (suc k) rs h (suc j) i = only_bytes n k rs h j i

blank_bytes : (n : ℕ) → Bytes (replicate n 0x20)
blank_bytes zero = bytes_nil
blank_bytes (suc n) = bytes_cons 0x20 (replicate n 0x20) (omega arith) (blank_bytes n)

one_bytes : (d : List ℕ) → Bytes d → (i : ℕ) → Bytes (get_or (record_with d ∷ []) i [])
unfolding record_with
one_bytes d h zero = bytes_cons 0 (replicate label_size 0x20 ++ d) (omega arith) (bytes_append (replicate label_size 0x20) d (blank_bytes label_size) h)
one_bytes d h (suc i) = bytes_nil

module _ (k : ℕ) (d : List ℕ) (h : k < sections) (len : length d ≡ description_size k) (ok : description_fault k d ≡ 0) where
  one_record : Ordered k 0 (record_with d ∷ [])
  unfolding record_with all_within
  one_record =
      let f : Faultless k 0 (record_with d) =
      record { whole = omega arith; slot_fits = most_positive k h; rising = omega arith; label_fits = refl; description_fits = ok } in
      Ordered.next f Ordered.done

  one_formed : WellFormed (only_section sections k (record_with d ∷ []))
  one_formed =
      record {
        all = only_count sections k (record_with d ∷ []);
        good = only_good sections k 0 (record_with d ∷ []) (rw (zero-add k) one_record) (λ i j l h. absurd (omega arith));
      }

  -- such a sheet is accepted
  pub sheet_with_law : verdict (sheet_with k d) ≡ Accepted
  unfolding sheet_with
  sheet_with_law = render_accepted _ one_formed

  with_section : section_of (sheet_with k d) k ≡ joined (record_with d ∷ [])
  unfolding sheet_with
  with_section =
      section_joined (sheet_with k d) k h sheet_with_law
      ∙ ap (λ (p : List (List (List ℕ))). joined (get_or p k [])) (parse_render _ one_formed)
      ∙ ap joined (only_at sections k (record_with d ∷ []) h)

  -- a description with its size and no fault is accepted
  pub description_complete : Bytes d → AcceptedDescription k d
  unfolding record_with sheet_with
  description_complete b =
      record {
        sheet = sheet_with k d;
        place = 0;
        bytes = bytes_rendered one_formed.good (only_bytes sections k (record_with d ∷ []) (one_bytes d b));
        accepted = sheet_with_law;
        within = rw (with_section, count_of_law one_record) (omega arith);
        has = rw (with_section, record_of_law one_record 0 (omega arith));
      }

-- ---- and no other description is

module _ (k : ℕ) (d : List ℕ) (a : AcceptedDescription k d) where
  pub description_known : k < sections
  unfolding record_count
  description_known =
      elim (dec_lt k sections) [
        | yes h ↦ h
        | no h ↦
            let none : record_count k (section_of a.sheet k) ≡ 0 = rw (section_unknown a.sheet k (omega arith)) (zero-div (record_size k)) in
            absurd (omega (arith, a.within))
      ]

  pub description_sound : (length d ≡ description_size k) × (description_fault k d ≡ 0)
  description_sound =
      let s = a.sheet in
      let o = section_ordered s k description_known a.accepted in
      let j = section_joined s k description_known a.accepted in
      let w : a.place < length (get_or (parse s) k []) = rw (j, count_of_law o) at a.within in
      let r = get_or (get_or (parse s) k []) a.place [] in
      let f = record_faultless o a.place w in
      let e : description_of r ≡ d = rw (j, record_of_law o a.place w) at a.has in
      let size : length (description_of r) ≡ description_size k = omega (arith, length-drop (1 + label_size) r, f.whole) in
      (rw e at size, rw e at f.description_fits)

  pub description_bytes : Bytes d
  description_bytes =
      rw a.has at
      (bytes_drop (1 + label_size) (record_at k (section_of a.sheet k) a.place)
      (bytes_record k a.place (section_of a.sheet k) (bytes_section a.sheet k a.bytes)))

-- ---- by meaning

-- an accepted description is one that its kind accepts
pub description_accepted : (k : ℕ) → k < sections → (d : List ℕ) → AcceptedDescription k d → kinds.Accepted k d
description_accepted k h d a =
    let sound = description_sound k d a in (faultless_iff_accepted k h d (description_bytes k d a) sound.0).0 sound.1

-- and every such description of the right size is one
pub accepted_description : (k : ℕ) (d : List ℕ) → k < sections → Bytes d
    → AcceptedDescription k d ↔ ((length d ≡ description_size k) × kinds.Accepted k d)
accepted_description k d h b = (
  λ a. ((description_sound k d a).0, description_accepted k h d a),
  λ e. description_complete k d h e.0 ((faultless_iff_accepted k h d b e.0).1 e.1) b,
)
