-- A part that has bytes lies where the numbers of the whole sheet say.
use Rattle.std.proofs.Common.{◌≡◌, length, ap, arith}
use Rattle.sheet.specs.Parts.{section_of}
use Rattle.sheet.proofs.Laid.{found_start, found_size}
use Rattle.sheet.proofs.Reading.{section_unknown}
use Rattle.sheet.proofs.Spanning.{span_none, span_some}
use Rattle.sheet.proofs.parts.section_span.Goals as goal
use Rattle.sheet.proofs.parts.section_span.Goals.{then-number-ge-SECTIONS-via-then-number-ge-SECTIONS, then-number-ge-SECTIONS-via-else-number-ge-SECTIONS+then-found-number-eq0}

pub returns-then-number-ge-SECTIONS : goal.returns-then-number-ge-SECTIONS
returns-then-number-ge-SECTIONS c =
    let s = c.args.sheet.now in
    let found = c.judge_parts-found in
    let none : length (section_of s c.args.number) ≡ 0 =
    elim c.then-number-ge-SECTIONS.branch [
      | then-number-ge-SECTIONS-via-then-number-ge-SECTIONS w ↦ ap length (section_unknown s c.args.number (omega arith))
      | then-number-ge-SECTIONS-via-else-number-ge-SECTIONS+then-found-number-eq0 w ↦
          omega (arith, found_size s found.result found.ensures c.args.number (omega arith))
    ] in
    span_none s c.args.number found.result found.ensures none

pub returns : goal.returns
returns c =
    let s = c.args.sheet.now in
    let found = c.judge_parts-found in
    let start = found_start s found.result found.ensures c.args.number (omega arith) in
    let size = found_size s found.result found.ensures c.args.number (omega arith) in
    rw (start, size) (span_some s c.args.number found.result found.ensures (omega arith))
