-- `record_of` meets its contract: the part, then the record in it. Assumes nothing.
use Rattle.std.proofs.Common.{sym, ◌∙◌, subst, rules}
use Rattle.findings.specs.Walk.{IsRecordWith}
use Rattle.findings.proofs.Walking.{record_of_part, record_by_law}
use Rattle.findings.proofs.record.record_of.Goals as goal

pub returns : goal.returns
returns c =
    let a = c.args in
    let e = rw c.part_by.ensures at c.find_record.ensures ∙ record_of_part a.section a.slot a.sheet.now a.judged (search rules) in
    record {
      result_value = e;
      record_with = subst (IsRecordWith a.section a.slot a.sheet.now a.judged) (sym e) (record_by_law a.section a.slot a.sheet.now a.judged);
    }
