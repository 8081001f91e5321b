-- Where a section's part lies, by the numbers of the whole sheet: a part that has bytes, and one that has none. Assumes
-- nothing.
use Rattle.std.proofs.Common.{ℕ, ◌<◌, List, length, ◌≡◌, arith}
use Rattle.std.proofs.lemmas.Bool.{ne_eqb}
use Rattle.sheet.specs.Parts.{section_of, section_start, part_start, span_of, judged_of}
use Rattle.sheet.specs.declared.Judged.{Judged}
use Rattle.sheet.specs.declared.Span.{Span}
use Rattle.sheet.proofs.Laid.{found_refusal}

abbrev span : ℕ → ℕ → ℕ → Span
span refusal start size = record { refusal = refusal; start = start; size = size }

module _ (s : List ℕ) (k : ℕ) (found : Judged) (e : found ≡ judged_of s) where
  pub span_none : length (section_of s k) ≡ 0 → span found.refusal 0 0 ≡ span_of s k
  unfolding span_of part_start
  span_none none = rw (found_refusal s found e, none)

  pub span_some : 0 < length (section_of s k) → span found.refusal (section_start s k) (length (section_of s k)) ≡ span_of s k
  unfolding span_of part_start
  span_some some = rw (found_refusal s found e, ne_eqb (length (section_of s k)) 0 (λ z. omega arith))
