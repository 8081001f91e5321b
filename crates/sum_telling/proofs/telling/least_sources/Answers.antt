-- `sum_telling::telling::least_sources` meets its contract, class by class. Assumes nothing.
use Rattle.std.proofs.Common.{ℕ}
use Rattle.sum_telling.proofs.Steps.{with_found, half_parts, each_class}
use Rattle.sum_telling.proofs.telling.least_sources.Goals as goal

pub sources-requires : goal.sources-requires
sources-requires g c = c.requires _ (with_found _ _ 0 _ (half_parts _ _ _ c.half_least-l.ensures).0)

pub sources-requires-2 : goal.sources-requires-2
sources-requires-2 g c = c.requires _ (with_found _ _ 1 _ (half_parts _ _ _ c.half_least-l.ensures).1)

pub sources-requires-3 : goal.sources-requires-3
sources-requires-3 g c = c.requires _ (with_found _ _ 2 _ (half_parts _ _ _ c.half_least-l.ensures).2)

pub sources-requires-4 : goal.sources-requires-4
sources-requires-4 g c = c.requires _ (with_found _ _ 3 _ (half_parts _ _ _ c.half_least-l.ensures).3)

pub returns : goal.returns
returns g c =
    each_class (λ (n r : ℕ). g.F.Fn.post c.args.sources (n, tt) r) c.args.old.now c.args.new.now _ _ _ _ _ c.half_least-l.ensures
    c.sources.ensures c.sources-2.ensures c.sources-3.ensures c.sources-4.ensures
