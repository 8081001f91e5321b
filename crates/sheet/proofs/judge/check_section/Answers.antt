-- One law for each way out.
use Rattle.std.proofs.Common.{◌+◌, [], drop, sym, ap, ◌∙◌, arith}
use Rattle.sheet.specs.Reading.{records_verdict}
use Rattle.sheet.proofs.Reading.{section_short, section_many, section_records}
use Rattle.sheet.proofs.judge.check_section.Goals as goal

pub returns-then-sheet-at : goal.returns-then-sheet-at
returns-then-sheet-at c = sym (section_short c.args.section c.args.at c.args.sheet.now c.if-sheet-at.true)

pub returns-then-most-count : goal.returns-then-most-count
returns-then-most-count c = sym (section_many c.args.section c.args.at c.args.sheet.now (omega arith) (omega arith))

pub returns : goal.returns
returns c =
    let a = c.args in
    c.check_records.ensures
    ∙ ap (λ n. records_verdict a.section n [] (a.at + 1) (drop (a.at + 1) a.sheet.now)) (c.from-count.ensures ∙ c.byte_at.ensures)
    ∙ sym (section_records a.section a.at a.sheet.now (omega arith) (omega arith))
