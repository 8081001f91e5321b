-- `compare::all_within` meets its contract: the first eight bytes, where there are as many, then the rest. Assumes nothing.
use Rattle.std.specs.Prelude.{◌≡◌, ℕ, Bool, drop}
use Rattle.std.proofs.Common.{◌∙◌, sym, ap}
use Rattle.compare.specs.Within.{all_within}
use Rattle.compare.proofs.Within.{eight_not, eight_then}
use Rattle.compare.proofs.bounds.all_within.Goals.{then-bytes-ge8+else-not-eight_within, else-bytes-ge8}
use Rattle.compare.proofs.bounds.all_within.Goals as goal

pub returns-then-not-eight_within : goal.returns-then-not-eight_within
returns-then-not-eight_within c =
    let a = c.args in
    sym (eight_not a.low a.high a.bytes.now _ (c.eight_within.ensures ∙ ap (all_within a.low a.high) c.prefix.ensures) c.if-not-eight_within.true)

pub returns : goal.returns
returns c =
    let a = c.args in
    let from = c.if-bytes-ge8.from in
    let rest : ℕ → Bool = λ n. all_within a.low a.high (drop n a.bytes.now) in
    let same : rest from ≡ rest 0 =
    elim c.if-bytes-ge8.branch [
      | then-bytes-ge8+else-not-eight_within w ↦
          ap rest w.from-is
          ∙ sym (eight_then a.low a.high a.bytes.now _ (w.eight_within.ensures ∙ ap (all_within a.low a.high) w.prefix.ensures) w.if-not-eight_within.false)
      | else-bytes-ge8 w ↦ ap rest w.from-is
    ] in
    c.each_within.ensures ∙ ap (all_within a.low a.high) c.suffix.ensures ∙ same
