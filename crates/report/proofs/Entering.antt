-- The loop over the lines: what is still to be written and counted makes what was to be. Assumes nothing.
use Prim.Native.Nat.{ℕ, ◌+◌, ◌^◌, ◌≤◌, ◌<◌}
use mathlib.Core.Path.{◌≡◌, refl, ap, ◌∙◌}
use mathlib.Core.List.{List, [], ◌∷◌}
use native.Mathlib.Omega.{arith}
use Rattle.std.proofs.lemmas.List.{get_or-replicate}
use lib.ListN.{length, get_or, set, replicate, length-set}
use Rattle.buffer.specs.Room.{Wrote}
use Rattle.buffer.proofs.Left.{Left, left_start, left_turn, left_end}
use Rattle.lut.specs.declared.Telling.TheVariants.{Alike, Apart}
use Rattle.sheet.specs.Parsed.{record_with}
use Rattle.sheet.specs.declared.Judged.{Judged}
use Rattle.findings.specs.declared.Cursor.{Cursor}
use Rattle.findings.specs.declared.Finding.{Finding}
use Rattle.findings.specs.declared.Finding.TheVariants.{New, Gone, Name, Changed}
use Rattle.findings.specs.declared.Line.{Line}
use Rattle.findings.specs.Findings.{notice_lines}
use Rattle.findings.specs.Walk.{lines_at}
use Rattle.report.specs.Page.{entry_text, entries_text, sort_of, how_many, entry_room, longest_body}
use Rattle.report.proofs.Lengths.{entries_most}
use Rattle.report.proofs.Counting.{Counted, counted_turn, few}

sort_small : (f : Finding) → sort_of f < 5
sort_small New = omega arith
sort_small Gone = omega arith
sort_small Name = omega arith
sort_small (Changed Alike) = omega arith
sort_small (Changed (Apart input)) = omega arith

-- the room suffices; so much of the text is left, and so many lines are not yet counted
pub record Entering (old new : List ℕ) (olds news : Judged) (out₀ out counts : List ℕ) (at : ℕ) (here : Cursor) : Type 0 where
  pub room : longest_body ≤ length out₀
  pub left : Left 0 (entries_text old new (notice_lines old new)) out₀ out at (entries_text old new (lines_at old new olds news here))
  pub size : length counts ≡ 5
  pub counted : Counted counts (lines_at old new olds news here) (notice_lines old new)

module _ (old new : List ℕ) (olds news : Judged) where
  pub entering_start : (out counts : List ℕ) (here : Cursor) → lines_at old new olds news here ≡ notice_lines old new → longest_body ≤ length out
      → counts ≡ replicate 5 0 → Entering old new olds news out out counts 0 here
  entering_start out counts here e h z =
      rw z (record {
        room = h;
        left = rw e (left_start 0 (entries_text old new (notice_lines old new)) out (omega (arith, entries_most old new)));
        size = refl;
        counted = rw e zeros;
      })
    where
      zeros : Counted (replicate 5 0) (notice_lines old new) (notice_lines old new)
      zeros s h = rw (get_or-replicate {A = ℕ} 5 s 0 0 h) (omega arith)

  module _ (out₀ out counts : List ℕ) (at : ℕ) (here : Cursor) (n : Entering old new olds news out₀ out counts at here) where
    -- no line is left
    pub entering_end : lines_at old new olds news here ≡ []
        → Wrote 0 (entries_text old new (notice_lines old new)) out₀ out at × ((s : ℕ) → s < 5 → get_or counts s 0 ≡ how_many s (notice_lines old new))
    unfolding entries_text how_many
    entering_end none =
        (left_end 0 _ _ _ _ _ n.left (ap (entries_text old new) none), (λ s h. let c = rw none at (n.counted s h) in omega (arith, c)))

    module _ (l : Line) (next : Cursor) (some : lines_at old new olds news here ≡ l ∷ lines_at old new olds news next) where
      -- an entry fits, however long, and one line more is a number
      pub entering_room : at + entry_room ≤ length out
      entering_room = omega (arith, n.left.count, n.left.pending.size, n.room, entries_most old new)

      pub entering_few : get_or counts (sort_of l.finding) 0 + 1 < 2 ^ 64
      entering_few = omega (arith, n.counted (sort_of l.finding) (sort_small l.finding), few (sort_of l.finding) old new)

      pub entering_turn : (a b out' counts' : List ℕ) (at' : ℕ) → a ≡ record_with l.section l.slot old → b ≡ record_with l.section l.slot new
          → Wrote at (entry_text l a b) out out' at' → counts' ≡ set counts (sort_of l.finding) (get_or counts (sort_of l.finding) 0 + 1)
          → Entering old new olds news out₀ out' counts' at' next
      unfolding entries_text
      entering_turn a b out' counts' at' ea eb w c =
          record {
            room = n.room;
            left = left_turn 0 _ _ _ _ _ n.left (entry_text l a b) (entries_text old new (lines_at old new olds news next)) out' at' (ap (entries_text old new) some ∙ rw (ea, eb)) w;
            size = rw c (length-set counts (sort_of l.finding) _ ∙ n.size);
            counted = rw c (counted_turn counts l (lines_at old new olds news next) (notice_lines old new) n.size (sort_small l.finding) (rw some at n.counted));
          }
