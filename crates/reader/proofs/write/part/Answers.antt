-- A section is not long.
use Rattle.std.proofs.Common.{length, take, length-take, ap, ap₂, ◌∙◌, arith}
use Rattle.records.specs.Sections.{section_size}
use Rattle.records.proofs.Bounds.{section_bound}
use Rattle.reader.specs.Taking.{part_of}
use Rattle.reader.proofs.write.part.Goals as goal

pub returns : goal.returns
unfolding part_of
returns c =
    let size = c.section_size-size.ensures ∙ ap (section_size c.args.section) c.byte_at.ensures in (
      c.prefix.ensures ∙ ap₂ take size c.suffix.ensures,
      omega (
        arith,
        ap length c.prefix.ensures,
        length-take c.section_size-size.result c.suffix.result.now,
        c.section_size-size.ensures,
        section_bound c.args.section c.byte_at.result (omega arith),
      ),
    )
