-- Where the sections of an accepted sheet lie, found section by section as the loop of `lay_out` does. Assumes nothing.
use native.Mathlib.Nat.{zero-add, add-zero}
use native.Mathlib.Omega.{arith}
use Prim.Native.Nat.{ℕ, zero, suc, ◌+◌, ◌-◌, ◌*◌, ◌≤◌, ◌<◌}
use mathlib.Core.List.{List, ◌∷◌}
use mathlib.Core.Path.{◌≡◌, refl, sym, ap, ap₂, ◌∙◌}
use lib.ListN.{length, get_or, set, take, drop, replicate, length-set, length-take, length-drop}
use Rattle.buffer.specs.Verdict.{verdict_number}
use Rattle.buffer.specs.declared.Verdict.{Verdict}
use Rattle.buffer.specs.declared.Verdict.TheVariants.{Accepted, Refused}
use Rattle.lines.proofs.Fill.{fill_more, fill_done}
use Rattle.records.specs.Sections.{sections, record_size, section_size}
use Rattle.sheet.specs.declared.Judged.{Judged}
use Rattle.sheet.specs.Reading.{verdict}
use Rattle.sheet.specs.Parts.{offset_of, count_of, section_of, section_start, each_from, judged_of}
use Rattle.sheet.proofs.Numbered.{accepted_numbered, refused_numbered}
use Rattle.sheet.proofs.Reading.{accepted_fits, offset_next, unchecked, unchecked_known, start_known, section_refused, start_refused}

pub each_length : (n k : ℕ) (f : ℕ → ℕ) → length (each_from n k f) ≡ n
each_length zero k f = refl
each_length (suc n) k f = ap suc (each_length n (k + 1) f)

pub each_at : (n k i : ℕ) (f : ℕ → ℕ) → i < n → get_or (each_from n k f) i 0 ≡ f (k + i)
each_at zero k i f h = absurd (omega arith)
each_at (suc n) k zero f h = ap f (sym (add-zero k))
each_at (suc n) k (suc i) f h =
    let e : k + 1 + i ≡ k + suc i = omega arith in
    each_at n (k + 1) i f (omega arith) ∙ ap f e

-- at its place in a list from section 0 on
each_here : (n i : ℕ) (f : ℕ → ℕ) → i < n → get_or (each_from n 0 f) i 0 ≡ f i
each_here n i f h = each_at n 0 i f h ∙ ap f (zero-add i)

each_same : (n k : ℕ) (f g : ℕ → ℕ) → ((i : ℕ) → f i ≡ g i) → each_from n k f ≡ each_from n k g
each_same zero k f g h = refl
each_same (suc n) k f g h = ap₂ ◌∷◌ (h k) (each_same n (k + 1) f g h)

-- the length of a section's part
abbrev size_of : List ℕ → ℕ → ℕ
size_of s k = length (section_of s k)

-- the part of a section of an accepted sheet has its records
pub part_length : (s : List ℕ) (k : ℕ) → k < sections → verdict s ≡ Accepted → length (section_of s k) ≡ count_of s k * record_size k
part_length s k h ok =
    ap length (unchecked s k ok ∙ unchecked_known s k h)
    ∙ omega (arith, length-take (count_of s k * record_size k) (drop (offset_of s k + 1) s), length-drop (offset_of s k + 1) s, accepted_fits s k h ok)

-- ---- the loop

pub record Laid (s starts sizes : List ℕ) (at k : ℕ) : Type 0 where
  pub here : at ≡ offset_of s k
  pub starts_count : length starts ≡ sections
  pub sizes_count : length sizes ≡ sections
  pub starts_so_far : take k starts ≡ take k (each_from sections 0 (section_start s))
  pub sizes_so_far : take k sizes ≡ take k (each_from sections 0 (size_of s))

pub laid_start : (s : List ℕ) → Laid s (replicate sections 0) (replicate sections 0) 0 0
unfolding offset_of
laid_start s = record { here = refl; starts_count = refl; sizes_count = refl; starts_so_far = refl; sizes_so_far = refl }

module _ (s starts sizes : List ℕ) (at k size : ℕ) (l : Laid s starts sizes at k) (h : k < sections) (ok : verdict s ≡ Accepted)
    (e : size ≡ section_size k (get_or s at 0)) where
  counted : size ≡ section_size k (count_of s k)
  unfolding count_of
  counted = e ∙ ap (λ i. section_size k (get_or s i 0)) l.here

  pub laid_fits : at + size ≤ length s
  laid_fits = omega (arith, l.here, counted, accepted_fits s k h ok)

  pub laid_on : Laid s (set starts k (at + 1)) (set sizes k (size - 1)) (at + size) (k + 1)
  unfolding count_of
  laid_on =
      let start : at + 1 ≡ get_or (each_from sections 0 (section_start s)) k 0 = omega (arith, l.here, start_known s k h ok, each_here sections k (section_start s) h) in
      let sized : size - 1 ≡ get_or (each_from sections 0 (size_of s)) k 0 = omega (arith, counted, part_length s k h ok, each_here sections k (size_of s) h) in
      record {
        here = ap₂ ◌+◌ l.here counted ∙ sym (offset_next s k);
        starts_count = length-set starts k (at + 1) ∙ l.starts_count;
        sizes_count = length-set sizes k (size - 1) ∙ l.sizes_count;
        starts_so_far =
            fill_more starts (each_from sections 0 (section_start s)) k (at + 1) (omega (arith, l.starts_count))
            (omega (arith, each_length sections 0 (section_start s))) l.starts_so_far start;
        sizes_so_far =
            fill_more sizes (each_from sections 0 (size_of s)) k (size - 1) (omega (arith, l.sizes_count))
            (omega (arith, each_length sections 0 (size_of s))) l.sizes_so_far sized;
      }

abbrev judged : (refusal place : ℕ) (starts sizes : List ℕ) → Judged
judged refusal place starts sizes = record { refusal = refusal; place = place; starts = starts; sizes = sizes }

pub laid_end : (s starts sizes : List ℕ) (at : ℕ) → Laid s starts sizes at sections → verdict s ≡ Accepted → judged 0 0 starts sizes ≡ judged_of s
unfolding judged_of
laid_end s starts sizes at l ok =
    let a = fill_done starts (each_from sections 0 (section_start s)) sections l.starts_count (each_length sections 0 (section_start s)) l.starts_so_far in
    let b = fill_done sizes (each_from sections 0 (size_of s)) sections l.sizes_count (each_length sections 0 (size_of s)) l.sizes_so_far in
    rw (ok, a, b)

-- a refused sheet has no part
pub judged_refused : (s : List ℕ) (number place : ℕ) → verdict s ≡ Refused number place
    → judged number place (replicate sections 0) (replicate sections 0) ≡ judged_of s
unfolding judged_of
judged_refused s number place e =
    let a : each_from sections 0 (section_start s) ≡ replicate sections 0 = each_same sections 0 (section_start s) (λ k. 0) (λ k. start_refused s k number place e) in
    let b : each_from sections 0 (size_of s) ≡ replicate sections 0 = each_same sections 0 (size_of s) (λ k. 0) (λ k. ap length (section_refused s k number place e)) in
    rw (a, b, e)

-- ---- what these numbers say

module _ (s : List ℕ) (found : Judged) (e : found ≡ judged_of s) where
  -- the verdict
  pub found_refusal : found.refusal ≡ verdict_number (verdict s)
  unfolding judged_of
  found_refusal = ap (λ (j : Judged). j.refusal) e

  pub found_accepted : found.refusal ≡ 0 → verdict s ≡ Accepted
  found_accepted z = accepted_numbered s (sym found_refusal ∙ z)

  pub found_refused : (found.refusal ≡ 0 → ⊥) → verdict s ≡ Refused found.refusal found.place
  unfolding judged_of
  found_refused n =
      refused_numbered s (λ z. n (found_refusal ∙ z)) ∙ ap₂ Refused (sym found_refusal) (sym (ap (λ (j : Judged). j.place) e))

  -- and where the part of a section lies within the sheet, of a refused one too
  module _ (k : ℕ) (h : k < sections) where
    pub found_start : get_or found.starts k 0 ≡ section_start s k
    unfolding judged_of
    found_start = ap (λ (j : Judged). get_or j.starts k 0) e ∙ each_here sections k (section_start s) h

    pub found_size : get_or found.sizes k 0 ≡ length (section_of s k)
    unfolding judged_of
    found_size = ap (λ (j : Judged). get_or j.sizes k 0) e ∙ each_here sections k (size_of s) h

    pub found_part : (take (get_or found.sizes k 0) (drop (get_or found.starts k 0) s) ≡ section_of s k)
        × (get_or found.starts k 0 + get_or found.sizes k 0 ≤ length s)
    found_part = rw (found_start, found_size) (by_verdict (verdict s) refl)
      where
        by_verdict : (v : Verdict) → verdict s ≡ v
            → (take (length (section_of s k)) (drop (section_start s k) s) ≡ section_of s k) × (section_start s k + length (section_of s k) ≤ length s)
        by_verdict Accepted ok = (
          rw (part_length s k h ok, start_known s k h ok) (sym (unchecked s k ok ∙ unchecked_known s k h)),
          omega (arith, start_known s k h ok, part_length s k h ok, accepted_fits s k h ok),
        )
        by_verdict (Refused number place) r =
            let none = section_refused s k number place r in
            (rw none, omega (arith, start_refused s k number place r, ap length none))

-- the verdict
pub judged_accepted : (s : List ℕ) (found : Judged) → found ≡ judged_of s → found.refusal ≡ 0 → verdict s ≡ Accepted
judged_accepted = found_accepted

pub judged_refusal : (s : List ℕ) (found : Judged) → found ≡ judged_of s → (found.refusal ≡ 0 → ⊥) → verdict s ≡ Refused found.refusal found.place
judged_refusal = found_refused

-- the part of a section of an accepted sheet
pub part_at : (s : List ℕ) (k : ℕ) → k < sections → verdict s ≡ Accepted
    → take (get_or (judged_of s).sizes k 0) (drop (get_or (judged_of s).starts k 0) s) ≡ section_of s k
part_at s k h ok = (found_part s (judged_of s) refl k h).0
