-- `put_sections` meets its contract: section by section, each cut out of the sheet. Assumes nothing.
use Rattle.std.proofs.Common.{◌≡◌, ℕ, List, get_or, take, drop}
use Rattle.buffer.specs.declared.Verdict.TheVariants.{Accepted}
use Rattle.sheet.specs.Reading.{verdict}
use Rattle.sheet.specs.Parts.{judged_of}
use Rattle.sheet.specs.declared.Judged.{Judged}
use Rattle.sheet.proofs.Cut.{Cut, part_records, part_ordered}
use Rattle.programme.proofs.Filling.{going_start, going_room, going_turn, going_end}
use Rattle.programme.proofs.sections.put_sections.Goals as goal

cut : {s rest part : List ℕ} {judged : Judged} {k : ℕ} → (verdict s ≡ Accepted) × (judged ≡ judged_of s)
    → rest ≡ drop (get_or judged.starts k 0) s → part ≡ take (get_or judged.sizes k 0) rest → Cut s judged k part
cut a r p = record { accepted = a.0; laid = a.1; is = rw r at p }

pub loop-section-init : goal.loop-section-init
loop-section-init c = going_start _ _ c.requires.sheet_in_bounds

pub put_section-at-requires : goal.put_section-at-requires
put_section-at-requires c =
    let here = cut c.requires.sheet_value c.suffix.ensures c.prefix-part.ensures in
    record {
      part_in_bounds = going_room _ _ _ _ _ _ c.loop-section.invariant c.loop-section-test.true (part_records _ _ _ _ c.loop-section-test.true here);
      ordered = part_ordered _ _ _ _ c.loop-section-test.true here;
    }

pub loop-section-preserved : goal.loop-section-preserved
loop-section-preserved c =
    let here = cut c.requires.sheet_value c.suffix.ensures c.prefix-part.ensures in
    going_turn _ _ _ _ _ _ c.loop-section.invariant c.loop-section-test.true (part_records _ _ _ _ c.loop-section-test.true here) _ _ c.put_section-at.ensures

pub returns : goal.returns
returns c = going_end _ _ _ _ _ c.loop-section.invariant c.loop-section-test.false
