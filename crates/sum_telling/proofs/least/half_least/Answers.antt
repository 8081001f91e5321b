-- `sum_telling::least::half_least` meets its contract, changed or not. Assumes nothing.
use Rattle.std.proofs.Common.{◌≡◌, ap, ◌∙◌, rules, arith}
use Rattle.sum_telling.specs.Halves.{packed, half_least}
use Rattle.sum_telling.proofs.Mids.{half_first}
use Rattle.sum_telling.proofs.Steps.{with_found, half_four, half_same}
use Rattle.sum_telling.proofs.least.half_least.Goals as goal

pub pack-requires : goal.pack-requires
pack-requires c =
    let h = c.args.old.now in
    let s = c.mid_sets-before in
    let is = half_first h h s.result s.result s.ensures s.ensures in
    (with_found h h 0 _ (is 0 _ c.least_with.ensures), omega arith, omega arith, with_found h h 3 _ (is 3 _ c.least_with-then-eq.ensures))

pub returns-then-eq : goal.returns-then-eq
returns-then-eq c =
    let h = c.args.old.now in
    let s = c.mid_sets-before in
    let is = half_first h h s.result s.result s.ensures s.ensures in
    let alike : h ≡ c.args.new.now = search rules in
    c.pack.ensures ∙ ap packed (half_same h _ _ (is 0 _ c.least_with.ensures) (is 3 _ c.least_with-then-eq.ensures) ∙ ap (half_least h) alike)

pub pack-requires-2 : goal.pack-requires-2
pack-requires-2 c =
    let h = c.args.old.now in
    let g = c.args.new.now in
    let is = half_first h g c.mid_sets-before.result c.mid_sets-after.result c.mid_sets-before.ensures c.mid_sets-after.ensures in (
      with_found h g 0 _ (is 0 _ c.least_with-2.ensures),
      with_found h g 1 _ (is 1 _ c.least_with-3.ensures),
      with_found h g 2 _ (is 2 _ c.least_with-4.ensures),
      with_found h g 3 _ (is 3 _ c.least_with-5.ensures),
    )

pub returns : goal.returns
returns c =
    let h = c.args.old.now in
    let g = c.args.new.now in
    let is = half_first h g c.mid_sets-before.result c.mid_sets-after.result c.mid_sets-before.ensures c.mid_sets-after.ensures in
    c.pack-2.ensures
    ∙ ap packed
    (half_four h g _ _ _ _ (is 0 _ c.least_with-2.ensures) (is 1 _ c.least_with-3.ensures) (is 2 _ c.least_with-4.ensures) (is 3 _ c.least_with-5.ensures))
