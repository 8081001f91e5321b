-- The part lies where the numbers of the sheet say.
use Rattle.std.proofs.Common.{get_or, take, ap, ◌∙◌}
use Rattle.sheet.proofs.Laid.{found_part}
use Rattle.compiler.proofs.stream.Found.part.Goals as goal

pub returns : goal.returns
returns c =
    let f = c.args.self.now in
    c.prefix.ensures
    ∙ ap (take (get_or f.laid.sizes c.args.section 0)) c.suffix-behind.ensures
    ∙ (found_part f.sheet.now f.laid f.whole.1 c.args.section c.requires).0
