-- How long a notice can be: a line on a changed description has at most 22 bytes for a term or a range, 31 for an edge,
-- 18 for a sum and 13 for a state; a line NAME before it has 13. Assumes nothing.
use Prim.Native.Nat.{ℕ, zero, suc, ◌+◌, ◌*◌, ◌≤◌, min, max}
use mathlib.Core.Bool.{Bool, true, false, cond}
use mathlib.Core.List.{List, [], ◌∷◌}
use native.Mathlib.Nat.{suc-mul}
use native.Mathlib.Omega.{arith}
use lib.Bits.{bit_and, bit_xor}
use lib.Dec.{eqb, ltb}
use lib.ListN.{length, get_or, length-append}
use Rattle.lines.specs.Gather.{scattered}
use Rattle.compare.specs.Same.{same}
use Rattle.lut.specs.declared.Input.TheVariants.{Nothing, Sample, Samples, Sources}
use Rattle.lut.specs.declared.Telling.{Telling}
use Rattle.lut.specs.declared.Telling.TheVariants.{Alike, Apart}
use Rattle.kinds.specs.Table.{telling_of, sections, most_of, kind_of}
use Rattle.records.specs.Sections.{label_of, description_of}
use Rattle.records.specs.Records.{find}
use Rattle.sheet.specs.Parsed.{parse}
use Rattle.term.specs.Description as term
use Rattle.term.specs.Telling.{term_telling, lowest_line}
use Rattle.range.specs.Description as range
use Rattle.range.specs.declared.Range.{Range}
use Rattle.range_telling.specs.Description as range_telling
use Rattle.range_telling.specs.Telling.{first_differ, tell_masks, tell_bounds, tell_reduced, range_telling}
use Rattle.range_telling.specs.Reduce.{reduce_of}
use Rattle.edge.specs.Description as edge
use Rattle.sum.specs.Description as sum
use Rattle.sum.specs.Words.{words_of}
use Rattle.sum_telling.specs.Description as sum_telling
use Rattle.sum_telling.specs.Telling.{patterns, least_pattern, answer_of, sum_telling}
use Rattle.findings.specs.declared.Finding.{Finding}
use Rattle.findings.specs.declared.Finding.TheVariants.{New, Gone, Name, Changed}
use Rattle.findings.specs.declared.Line.{Line}
use Rattle.findings.specs.Findings.{line, unless_same, shared_lines, slot_lines, lines_from, sections_lines, notice_lines}
use Rattle.notice.specs.Text.{change_text, finding_text, render, render_all}
use Rattle.notice.specs.Notice.{notice_text, change_most, slot_most, most_text, longest_notice}
use Rattle.notice.proofs.Lines.{render_all_append, render_length, one_length}
use Rattle.notice.proofs.Slots.{shared_length}

-- ---- a changed description

-- the line has at most n bytes, eight of them before the finding
abbrev Within : ℕ → Telling → Type 0
Within n t = 8 + length (change_text t) ≤ n

-- of one sample, or none
picks : (a b : Bool) (x y : ℕ) → Within 22 (cond a (cond b Alike (Apart (Sample x))) (Apart (Sample y)))
picks true true x y = omega arith
picks true false x y = omega arith
picks false b x y = omega arith

picks_one : (a : Bool) (t : Telling) (x : ℕ) → Within 22 t → Within 22 (cond a t (Apart (Sample x)))
picks_one true t x w = w
picks_one false t x w = omega arith

term_within : (t₁ m₁ t₂ m₂ : ℕ) → Within 22 (term_telling t₁ m₁ t₂ m₂)
unfolding term_telling
term_within t₁ m₁ t₂ m₂ =
    picks (eqb (bit_and t₁ m₁) (bit_and t₂ m₂)) (eqb m₁ m₂) (bit_and t₁ m₁ + lowest_line (bit_xor m₁ m₂)) (min (bit_and t₁ m₁) (bit_and t₂ m₂))

bounds_within : (a b : Range) → Within 22 (tell_bounds a b)
unfolding tell_bounds
bounds_within a b =
    picks (eqb a.lower b.lower) (eqb a.upper b.upper) (scattered 32 (max a.upper b.upper) a.mask)
    (scattered 32 (min a.lower b.lower) a.mask)

range_within : (a b : Range) → Within 22 (tell_reduced a b)
unfolding tell_reduced
range_within a b =
    picks_one (eqb a.mask b.mask) (tell_bounds a b) (tell_masks a b (first_differ 32 a.mask b.mask)) (bounds_within a b)

-- of any input
any_within : (t : Telling) → Within 31 t
any_within Alike = omega arith
any_within (Apart Nothing) = omega arith
any_within (Apart (Sample s)) = omega arith
any_within (Apart (Samples e l)) = omega arith
any_within (Apart (Sources s)) = omega arith

-- of sixteen sources, or none
sum_within : (least : ℕ) → Within 18 (answer_of least)
sum_within least = go (ltb least patterns)
  where
    go : (b : Bool) → Within 18 (cond b (Apart (Sources least)) Alike)
    go true = omega arith
    go false = omega arith

change_most_law : (k : ℕ) (d e : List ℕ) → 8 + length (change_text (telling_of k d e)) ≤ change_most k
unfolding telling_of kind_of term.telling range_telling.telling range_telling edge.telling sum_telling.telling sum_telling
change_most_law zero d e = term_within (term.from_bytes d).target (term.from_bytes d).mask (term.from_bytes e).target (term.from_bytes e).mask
change_most_law (suc zero) d e = range_within (reduce_of (range.from_bytes d)) (reduce_of (range.from_bytes e))
change_most_law (suc (suc zero)) d e = any_within (edge.telling d e)
change_most_law (suc (suc (suc zero))) d e = sum_within (least_pattern (words_of (sum.from_bytes d)) (words_of (sum.from_bytes e)))
change_most_law (suc (suc (suc (suc zero)))) d e = omega arith
change_most_law (suc (suc (suc (suc (suc k))))) d e = omega arith

-- no line has more than an edge's
pub line_most : (l : Line) → length (render l) ≤ 31
line_most l = omega (arith, render_length l, by_finding l.finding)
  where
    by_finding : (f : Finding) → 8 + length (finding_text f) ≤ 31
    by_finding New = omega arith
    by_finding Gone = omega arith
    by_finding Name = omega arith
    by_finding (Changed t) = any_within t

-- ---- a slot

-- a line or none
unless_length : (old new : List ℕ) (l : Line) (m : ℕ) → 8 + length (finding_text l.finding) ≤ m → length (render_all (unless_same old new l)) ≤ m
unfolding render_all
unless_length old new l m h = go (same old new)
  where
    go : (b : Bool) → length (render_all (cond b [] (l ∷ []))) ≤ m
    go true = omega arith
    go false = let e = one_length l in omega arith

shared_most : (k slot : ℕ) (old new : List ℕ) → length (render_all (shared_lines k slot old new)) ≤ slot_most k
unfolding slot_most
shared_most k slot old new =
    let d = description_of old in
    let e = description_of new in
    omega (
      arith,
      shared_length k slot old new,
      unless_length (label_of old) (label_of new) (line k slot Name) 13 (omega arith),
      unless_length d e (line k slot (Changed (telling_of k d e))) (change_most k) (change_most_law k d e),
    )

slot_length : (k slot : ℕ) (old new : List ℕ) → length (render_all (slot_lines k slot old new)) ≤ slot_most k
unfolding render_all slot_lines slot_most
slot_length k slot [] [] = omega arith
slot_length k slot [] (y ∷ new) = rw (one_length (line k slot New)) (omega arith)
slot_length k slot (x ∷ old) [] = rw (one_length (line k slot Gone)) (omega arith)
slot_length k slot (x ∷ old) (y ∷ new) = shared_most k slot (x ∷ old) (y ∷ new)

-- ---- a section, a notice

lines_length : (k n slot : ℕ) (os ns : List (List ℕ)) → length (render_all (lines_from k n slot os ns)) ≤ n * slot_most k
unfolding lines_from render_all
lines_length k zero slot os ns = omega arith
lines_length k (suc n) slot os ns =
    let now = slot_lines k slot (find slot os) (find slot ns) in
    let rest = lines_from k n (slot + 1) os ns in
    rw (render_all_append now rest, length-append (render_all now) (render_all rest), suc-mul n (slot_most k))
    (omega (arith, slot_length k slot (find slot os) (find slot ns), lines_length k n (slot + 1) os ns))

sections_length : (n k : ℕ) (p q : List (List (List ℕ))) → length (render_all (sections_lines n k p q)) ≤ most_text n k
unfolding sections_lines render_all most_text
sections_length zero k p q = omega arith
sections_length (suc n) k p q =
    let now = lines_from k (most_of k) 0 (get_or p k []) (get_or q k []) in
    let rest = sections_lines n (k + 1) p q in
    rw (render_all_append now rest, length-append (render_all now) (render_all rest))
    (omega (arith, lines_length k (most_of k) 0 (get_or p k []) (get_or q k []), sections_length n (k + 1) p q))

-- no notice is longer than the longest [N11, A9]
pub at_most : (old new : List ℕ) → length (notice_text old new) ≤ longest_notice
unfolding notice_text notice_lines
at_most old new = omega (arith, sections_length sections 0 (parse old) (parse new))
