-- The part is cut out by the numbers of the whole sheet, which are 0 where there is none.
use Rattle.std.proofs.Common.{◌≡◌, ◌+◌, ◌-◌, get_or, refl, sym, arith}
use Rattle.sheet.proofs.Laid.{found_part, found_start}
use Rattle.sheet.proofs.Reading.{section_unknown, start_unknown}
use Rattle.sheet.proofs.parts.section.Goals as goal

pub returns-then-number-ge-SECTIONS : goal.returns-then-number-ge-SECTIONS
returns-then-number-ge-SECTIONS c =
    let s = c.args.sheet.now in
    record {
      holds = sym (section_unknown s c.args.number (omega arith));
      same_block = refl;
      starts = omega (arith, start_unknown s c.args.number (omega arith));
    }

pub overflow_add-result : goal.overflow_add-result
overflow_add-result c =
    omega (arith, (found_part c.args.sheet.now c.judge_parts-found.result c.judge_parts-found.ensures c.args.number (omega arith)).1)

pub slice_bounds-result-end-2 : goal.slice_bounds-result-end-2
slice_bounds-result-end-2 c =
    omega (arith, (found_part c.args.sheet.now c.judge_parts-found.result c.judge_parts-found.ensures c.args.number (omega arith)).1)

pub returns : goal.returns
returns c =
    let found = c.judge_parts-found.result in
    let number = c.args.number in
    let size : get_or found.starts number 0 + get_or found.sizes number 0 - get_or found.starts number 0 ≡ get_or found.sizes number 0 = omega arith in
    record {
      holds = rw size (found_part c.args.sheet.now found c.judge_parts-found.ensures number (omega arith)).0;
      same_block = refl;
      starts = omega (arith, found_start c.args.sheet.now found c.judge_parts-found.ensures number (omega arith));
    }
