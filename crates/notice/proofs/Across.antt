-- The text of a notice, section by section and line by line: what is still to be written makes what was to be written.
-- Assumes nothing.
use Prim.Native.Nat.{ℕ, ◌+◌, ◌-◌, ◌≤◌, ◌<◌}
use mathlib.Core.Path.{◌≡◌, refl, ap, ap₂, ◌∙◌}
use mathlib.Core.List.{List, [], ◌∷◌, ◌++◌}
use native.Mathlib.Omega.{arith}
use lib.ListN.{length}
use Rattle.buffer.specs.Room.{Wrote}
use Rattle.buffer.specs.declared.Verdict.TheVariants.{Accepted}
use Rattle.buffer.proofs.Left.{Stepping, stepping_start, stepping_room, stepping_turn, stepping_end}
use Rattle.records.specs.Sections.{sections}
use Rattle.sheet.specs.Reading.{verdict}
use Rattle.sheet.specs.Parts.{judged_of}
use Rattle.sheet.specs.declared.Judged.{Judged}
use Rattle.findings.specs.declared.Cursor.{Cursor}
use Rattle.findings.specs.declared.Line.{Line}
use Rattle.findings.specs.Findings.{notice_lines}
use Rattle.findings.specs.Walk.{part_by, part_lines, cursor_at, walk_sections}
use Rattle.findings.proofs.Walking.{sections_on, all_lines}
use Rattle.notice.specs.Text.{render, render_all}
use Rattle.notice.specs.Notice.{notice_text}
use Rattle.notice.proofs.Lines.{render_all_append}

module _ (old new : List ℕ) (olds news : Judged) where
  -- the text of the sections from section k on, and of section k
  abbrev pub text_on : ℕ → List ℕ
  text_on k = render_all (walk_sections (sections - k) k old new olds news)

  abbrev pub section_text : ℕ → List ℕ
  section_text k = render_all (part_lines (part_by k old olds) (part_by k new news) (cursor_at k))

  -- it is of so many steps, one for each section
  abbrev pub Going : (out₀ out : List ℕ) (at k : ℕ) → Type 0
  Going out₀ out at k = Stepping 0 text_on sections out₀ out at k

  pub going_start : (out : List ℕ) → length (text_on 0) ≤ length out → Going out out 0 0
  going_start out h = stepping_start 0 text_on sections out (omega arith)

  module _ (out₀ out : List ℕ) (at k : ℕ) (g : Going out₀ out at k) where
    step : text_on k ≡ section_text k ++ text_on (k + 1)
    step = ap render_all (sections_on old new olds news k) ∙ render_all_append (part_lines (part_by k old olds) (part_by k new news) (cursor_at k)) _

    pub going_room : at + length (section_text k) ≤ length out
    going_room = stepping_room 0 text_on sections out₀ out at k g (section_text k) step

    pub going_turn : k < sections → (out' : List ℕ) (at' : ℕ) → Wrote at (section_text k) out out' at' → Going out₀ out' at' (k + 1)
    going_turn = stepping_turn 0 text_on sections out₀ out at k g (section_text k) step

    pub going_end : sections ≤ k → Wrote 0 (text_on 0) out₀ out at
    unfolding walk_sections render_all
    going_end = stepping_end 0 text_on sections out₀ out at k g refl

-- ---- the text of the lines from a cursor on, one behind the other, by the step that is made there

module _ (lines : Cursor → List Line) (c : Cursor) where
  pub text_end : lines c ≡ [] → render_all (lines c) ≡ []
  unfolding render_all
  text_end n = ap render_all n

  module _ (l : Line) (d : Cursor) (n : lines c ≡ l ∷ lines d) where
    pub text_found : render_all (lines c) ≡ render l ++ render_all (lines d)
    unfolding render_all
    text_found = ap render_all n

-- of two accepted sheets, judged, the text of all sections is the notice's
pub text_of_all : (old new : List ℕ) (olds news : Judged) → verdict old ≡ Accepted → olds ≡ judged_of old → verdict new ≡ Accepted → news ≡ judged_of new
    → render_all (walk_sections sections 0 old new olds news) ≡ notice_text old new
unfolding notice_text notice_lines
text_of_all old new olds news a e b f =
    ap₂ (λ (x y : Judged). render_all (walk_sections sections 0 old new x y)) e f ∙ ap render_all (all_lines old new a b sections 0 (omega arith))
