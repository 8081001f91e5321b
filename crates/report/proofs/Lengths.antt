-- How long the body of a page can be: of a slot a line NAME and one more, each with what it says and its labels. Assumes
-- nothing.
use Prim.Native.Nat.{ℕ, zero, suc, ◌+◌, ◌*◌, ◌≤◌}
use mathlib.Core.Bool.{Bool, true, false, cond}
use mathlib.Core.Path.{◌≡◌, refl, sym, ap, ◌∙◌}
use mathlib.Core.List.{List, [], ◌∷◌, ◌++◌, append_assoc}
use native.Mathlib.Nat.{suc-mul}
use native.Mathlib.Omega.{arith}
use Rattle.std.proofs.Common.{◌==◌}
use lib.ListN.{length, get_or, length-append, length-take}
use Rattle.compare.specs.Same.{same}
use Rattle.lut.specs.declared.Input.{Input}
use Rattle.lut.specs.declared.Input.TheVariants.{Nothing, Sample, Samples, Sources}
use Rattle.lut.specs.declared.Telling.TheVariants.{Alike, Apart}
use Rattle.kinds.specs.Table.{kind_of, kinds, sections, telling_of}
use Rattle.records.specs.Sections.{label_size, most_of, label_of, description_of}
use Rattle.records.specs.Records.{find}
use Rattle.sheet.specs.Parsed.{parse, record_with}
use Rattle.refusal.specs.Words.{ascii}
use Rattle.findings.specs.declared.Finding.{Finding}
use Rattle.findings.specs.declared.Finding.TheVariants.{New, Gone, Name, Changed}
use Rattle.findings.specs.declared.Line.{Line}
use Rattle.findings.specs.Findings.{line, unless_same, shared_lines, slot_lines, lines_from, sections_lines, notice_lines}
use Rattle.notice.specs.Text.{render}
use Rattle.notice.proofs.Lengths.{line_most}
use Rattle.notice.proofs.Lines.{render_length}
use Rattle.report.specs.Words.{line_of, altered_bare, stated, sources_text, altered_text, saying_text, ending_text}
use Rattle.report.specs.Page.{label_text, labels_text, entry_text, entries_text, how_many, body_text, label_room, labels_room, entry_room, slots_of, longest_slot, longest_body}
use Rattle.report.proofs.Naming.{hits_most}
use Rattle.report.proofs.Heads.{head_most}

-- ---- an entry

pub label_some : (r : List ℕ) → false ≡ (length r == 0) → label_text r ≡ (ascii "'" ++ label_of r) ++ ascii "'"
label_some [] e = cc
label_some (x ∷ r) e = refl

pub label_most : (r : List ℕ) → length (label_text r) ≤ label_room
label_most [] = omega arith
label_most (x ∷ r) = simp length-append (omega (arith, length-take label_size r))

labels_most : (old new : List ℕ) → length (labels_text old new) ≤ labels_room
labels_most old new = simp length-append (omega (arith, label_most old, label_most new))

sources_most : (pattern : ℕ) → length (sources_text pattern) ≤ 156
sources_most pattern = simp length-append (omega (arith, hits_most pattern))

bare_most : (k : ℕ) → length (line_of (altered_bare k)) ≤ 65
bare_most k = go (get_or stated k false)
  where
    go : (b : Bool) → length (line_of (cond b "    Altered: the state's number, else state or flags are others." "    Altered.")) ≤ 65
    go true = omega arith
    go false = omega arith

altered_most : (k : ℕ) (i : Input) → length (altered_text k i) ≤ 241
altered_most k Nothing = omega (arith, bare_most k)
altered_most k (Sample s) = omega arith
altered_most k (Samples e l) = omega arith
altered_most k (Sources pattern) = omega (arith, sources_most pattern)

pub saying_most : (k : ℕ) (f : Finding) → length (saying_text k f) ≤ 241
saying_most k New = omega arith
saying_most k Gone = omega arith
saying_most k Name = omega arith
saying_most k (Changed Alike) = omega arith
saying_most k (Changed (Apart i)) = altered_most k i

entry_length : (l : Line) (old new : List ℕ) → length (entry_text l old new) ≡ length (render l) + length (saying_text l.section l.finding) + length (labels_text old new)
entry_length l old new =
    length-append (render l ++ saying_text l.section l.finding) (labels_text old new)
    ∙ ap (λ (n : ℕ). n + length (labels_text old new)) (length-append (render l) (saying_text l.section l.finding))

entry_most : (l : Line) (old new : List ℕ) → length (entry_text l old new) ≤ entry_room
entry_most l old new = omega (arith, entry_length l old new, line_most l, saying_most l.section l.finding, labels_most old new)

name_most : (k slot : ℕ) (old new : List ℕ) → length (entry_text (line k slot Name) old new) ≤ 13 + 30 + labels_room
name_most k slot old new = omega (arith, entry_length (line k slot Name) old new, render_length (line k slot Name), labels_most old new)

pub entry_some : (l : Line) (old new : List ℕ) → 8 ≤ length (entry_text l old new)
entry_some l old new = omega (arith, entry_length l old new, render_length l)

-- ---- the entries of a slot, a section, a notice

module _ (old new : List ℕ) where
  pub entries_append : (ls ms : List Line) → entries_text old new (ls ++ ms) ≡ entries_text old new ls ++ entries_text old new ms
  unfolding entries_text
  entries_append [] ms = refl
  entries_append (l ∷ ls) ms =
      ap (λ (t : List ℕ). entry_text l (record_with l.section l.slot old) (record_with l.section l.slot new) ++ t) (entries_append ls ms)
      ∙ sym (append_assoc (entry_text l (record_with l.section l.slot old) (record_with l.section l.slot new)) (entries_text old new ls) (entries_text old new ms))

  both : (ls ms : List Line) → length (entries_text old new (ls ++ ms)) ≡ length (entries_text old new ls) + length (entries_text old new ms)
  both ls ms = ap length (entries_append ls ms) ∙ length-append (entries_text old new ls) (entries_text old new ms)

  pub entries_some : (l : Line) (ls : List Line) → 8 ≤ length (entries_text old new (l ∷ ls))
  unfolding entries_text
  entries_some l ls =
      let a = record_with l.section l.slot old in
      let b = record_with l.section l.slot new in
      rw (length-append (entry_text l a b) (entries_text old new ls)) (omega (arith, entry_some l a b))

  -- one line or none
  one : (l : Line) (n : ℕ) → length (entry_text l (record_with l.section l.slot old) (record_with l.section l.slot new)) ≤ n → length (entries_text old new (l ∷ [])) ≤ n
  unfolding entries_text
  one l n h = rw (length-append (entry_text l (record_with l.section l.slot old) (record_with l.section l.slot new)) []) (omega arith)

  maybe : (b : Bool) (l : Line) (n : ℕ) → length (entry_text l (record_with l.section l.slot old) (record_with l.section l.slot new)) ≤ n
      → length (entries_text old new (cond b [] (l ∷ []))) ≤ n
  unfolding entries_text
  maybe true l n h = omega arith
  maybe false l n h = one l n h

  slot_most_law : (k slot : ℕ) (o n : List ℕ) → length (entries_text old new (slot_lines k slot o n)) ≤ longest_slot
  unfolding slot_lines shared_lines entries_text
  slot_most_law k slot [] [] = omega arith
  slot_most_law k slot [] (y ∷ n) = omega (arith, one (line k slot New) entry_room (entry_most (line k slot New) (record_with k slot old) (record_with k slot new)))
  slot_most_law k slot (x ∷ o) [] = omega (arith, one (line k slot Gone) entry_room (entry_most (line k slot Gone) (record_with k slot old) (record_with k slot new)))
  slot_most_law k slot (x ∷ o) (y ∷ n) =
      let named = unless_same (label_of (x ∷ o)) (label_of (y ∷ n)) (line k slot Name) in
      let change = line k slot (Changed (telling_of k (description_of (x ∷ o)) (description_of (y ∷ n)))) in
      rw (both named _)
      (omega (
        arith,
        maybe (same (label_of (x ∷ o)) (label_of (y ∷ n))) (line k slot Name) (13 + 30 + labels_room) (name_most k slot (record_with k slot old) (record_with k slot new)),
        maybe (same (description_of (x ∷ o)) (description_of (y ∷ n))) change entry_room (entry_most change (record_with k slot old) (record_with k slot new)),
      ))

  lines_most : (k n slot : ℕ) (os ns : List (List ℕ)) → length (entries_text old new (lines_from k n slot os ns)) ≤ n * longest_slot
  unfolding lines_from entries_text
  lines_most k zero slot os ns = omega arith
  lines_most k (suc n) slot os ns =
      rw (both (slot_lines k slot (find slot os) (find slot ns)) (lines_from k n (slot + 1) os ns), suc-mul n longest_slot)
      (omega (arith, slot_most_law k slot (find slot os) (find slot ns), lines_most k n (slot + 1) os ns))

  most_text : (n k : ℕ) → ℕ
  most_text zero k = 0
  most_text (suc n) k = most_of k * longest_slot + most_text n (k + 1)

  sections_most : (n k : ℕ) (p q : List (List (List ℕ))) → length (entries_text old new (sections_lines n k p q)) ≤ most_text n k
  unfolding sections_lines entries_text most_text
  sections_most zero k p q = omega arith
  sections_most (suc n) k p q =
      rw (both (lines_from k (most_of k) 0 (get_or p k []) (get_or q k [])) (sections_lines n (k + 1) p q))
      (omega (arith, lines_most k (most_of k) 0 (get_or p k []) (get_or q k []), sections_most n (k + 1) p q))

  all_most : most_text sections 0 ≡ slots_of kinds * longest_slot
  unfolding most_text most_of kind_of
  all_most = refl

  pub entries_most : length (entries_text old new (notice_lines old new)) ≤ slots_of kinds * longest_slot
  unfolding notice_lines
  entries_most = omega (arith, sections_most sections 0 (parse old) (parse new), all_most)

-- ---- the body

ending_length : length ending_text ≡ 754
unfolding ending_text
ending_length = refl

-- no body is longer than the longest [V7]
pub at_most : (old new : List ℕ) → length (body_text old new) ≤ longest_body
unfolding body_text
at_most old new =
    simp length-append (omega (arith, head_most (length (notice_lines old new)) (λ s. how_many s (notice_lines old new)), entries_most old new, ending_length))
