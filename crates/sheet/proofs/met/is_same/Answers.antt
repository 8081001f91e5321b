-- Labels whose first four bytes give different numbers are not the same.
use Rattle.std.proofs.Common.{sym, ap, ◌∙◌}
use Rattle.std.proofs.lemmas.Bool.{ne_eqb}
use Rattle.peek.specs.Bytes.{u32_at}
use Rattle.compare.proofs.Compare.{same_false}
use Rattle.sheet.proofs.met.is_same.Goals as goal

pub returns-else-u32_at-first : goal.returns-else-u32_at-first
returns-else-u32_at-first c =
    ne_eqb _ _ c.if-u32_at-first.false
    ∙ sym (same_false c.args.label.now c.args.other.now (λ e.
    c.if-u32_at-first.false (c.u32_at.ensures ∙ ap (λ l. u32_at l 0) (sym e) ∙ sym c.requires)))
