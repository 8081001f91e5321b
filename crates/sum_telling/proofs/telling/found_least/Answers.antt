-- `sum_telling::telling::found_least` meets its contract. Assumes nothing.
use Rattle.std.proofs.Common.{◌≡◌, length, rules}
use Rattle.sum_telling.specs.Halves.{first_sources, last_sources, found_least}
use Rattle.sum_telling.proofs.Steps.{half_each}
use Rattle.sum_telling.proofs.telling.found_least.Goals as goal

pub returns : goal.returns
unfolding found_least
returns c =
    let first = c.least_sources-first in
    let last = c.least_sources-last in
    let f : length first.result ≡ 4 = search rules in
    let l : length last.result ≡ 4 = search rules in
    let a = half_each first_sources _ _ first.result f first.ensures in
    let b = half_each last_sources _ _ last.result l last.ensures in
    rw (a, b, c.first_half.ensures, c.first_half-2.ensures, c.last_half.ensures, c.last_half-2.ensures) at c.final_least.ensures
