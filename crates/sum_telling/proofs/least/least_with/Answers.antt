-- `sum_telling::least::least_with` meets its contract: the first of the set of a class. Assumes nothing.
use Rattle.std.proofs.Common.{rules}
use Rattle.sum_telling.proofs.Mids.{class_first}
use Rattle.sum_telling.proofs.least.least_with.Goals as goal

pub returns : goal.returns
returns c =
    let r = c.from_fn.ensures.items.each in
    class_first c.args.old c.args.new c.from_fn.result c.args.class _ c.first_in.ensures (λ k h. search (rules, r.3)) (λ k h. search (rules, r.4.3))
    (λ k h. search (rules, r.4.4.3)) (λ k h. search (rules, r.4.4.4.3))
