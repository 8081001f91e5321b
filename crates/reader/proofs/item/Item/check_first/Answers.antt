-- Test by test.
use Rattle.std.proofs.Common.{◌≡◌, drop, sym, ap, ◌∙◌}
use Rattle.buffer.specs.declared.Verdict.TheVariants.{Refused}
use Rattle.command.specs.Reading.{number}
use Rattle.kinds.specs.Table.{section_at}
use Rattle.reader.specs.Judging.{first_verdict}
use Rattle.reader.proofs.Judged.{first_refused_law, first_unknown, first_below, first_known}
use Rattle.reader.proofs.item.Item.check_first.Goals as goal
use Rattle.reader.proofs.item.Item.check_first.Goals.{then-self-ge-SECTIONS-via-then-self-ge-SECTIONS, then-self-ge-SECTIONS-via-else-self-ge-SECTIONS+then-self-low}

pub returns-in-Refused : goal.returns-in-Refused
returns-in-Refused c = sym (first_refused_law c.args.low _ _ _ _ (sym c.check_command-select.ensures.value ∙ c.in-Refused.is))

pub returns-then-self-ge-SECTIONS : goal.returns-then-self-ge-SECTIONS
returns-then-self-ge-SECTIONS c =
    let i = c.args.self.now in
    let s = drop i.at i.stream.now in
    let e = sym c.check_command-select.ensures.value ∙ c.in_default.is in
    let section : i.place.section ≡ section_at (number s) = i.known.1 ∙ ap section_at i.known.0 in
    let refused : first_verdict c.args.low i.at s ≡ Refused 15 i.at =
    elim c.then-self-ge-SECTIONS.branch [
      | then-self-ge-SECTIONS-via-then-self-ge-SECTIONS w ↦ first_unknown c.args.low i.at s e (rw (← section) w.if-self-ge-SECTIONS.true)
      | then-self-ge-SECTIONS-via-else-self-ge-SECTIONS+then-self-low w ↦
          first_below c.args.low i.at s e (rw (← section) w.if-self-ge-SECTIONS.false) (rw (← i.known.0) w.if-self-low.true)
    ] in
    sym refused

pub returns : goal.returns
returns c =
    let i = c.args.self.now in
    let s = drop i.at i.stream.now in
    let e = sym c.check_command-select.ensures.value ∙ c.in_default.is in
    let section : i.place.section ≡ section_at (number s) = i.known.1 ∙ ap section_at i.known.0 in
    sym (first_known c.args.low i.at s e (rw (← section) c.if-self-ge-SECTIONS.false) (rw (← i.known.0) c.if-self-low.false))
