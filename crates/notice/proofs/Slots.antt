-- The text of a shared slot's lines. Assumes nothing.
use Prim.Native.Nat.{ℕ, ◌+◌}
use mathlib.Core.Path.{◌≡◌, ap, ◌∙◌}
use mathlib.Core.List.{List, ◌++◌}
use lib.ListN.{length, length-append}
use Rattle.kinds.specs.Table.{telling_of}
use Rattle.records.specs.Sections.{label_of, description_of}
use Rattle.findings.specs.declared.Finding.TheVariants.{Name, Changed}
use Rattle.findings.specs.Findings.{line, unless_same, shared_lines}
use Rattle.notice.specs.Text.{render_all}
use Rattle.notice.proofs.Lines.{render_all_append}

module _ (k slot : ℕ) where
  -- the text of a shared slot's lines: of its labels, then of its descriptions
  abbrev pub name_text : (old new : List ℕ) → List ℕ
  name_text old new = render_all (unless_same (label_of old) (label_of new) (line k slot Name))

  abbrev pub changed_text : (old new : List ℕ) → List ℕ
  changed_text old new =
      render_all (unless_same (description_of old) (description_of new) (line k slot (Changed (telling_of k (description_of old) (description_of new)))))

  shared_text : (old new : List ℕ) → render_all (shared_lines k slot old new) ≡ name_text old new ++ changed_text old new
  unfolding shared_lines
  shared_text old new = render_all_append (unless_same (label_of old) (label_of new) (line k slot Name)) _

  pub shared_length : (old new : List ℕ) → length (render_all (shared_lines k slot old new)) ≡ length (name_text old new) + length (changed_text old new)
  shared_length old new = ap length (shared_text old new) ∙ length-append (name_text old new) (changed_text old new)
