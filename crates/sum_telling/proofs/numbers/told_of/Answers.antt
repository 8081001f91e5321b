-- `sum_telling::told_of` meets its contract: each answer is a case of the definition, which means what it should.
-- Assumes nothing.
use Rattle.std.proofs.Common.{rules}
use Rattle.sum_telling.specs.Numbers.{sum_told}
use Rattle.sum_telling.proofs.Handed.{told_meets, sums_apart, sums_alike}
use Rattle.sum_telling.proofs.numbers.told_of.Goals as goal

pub returns-then-not-is_sum : goal.returns-then-not-is_sum
unfolding sum_told
returns-then-not-is_sum c = told_meets _ _ _ (search rules)

pub returns-then-least-lt-NONE : goal.returns-then-least-lt-NONE
returns-then-least-lt-NONE c =
    told_meets _ _ _
    (sums_apart _ _ (search rules) (search rules) _ _ _ _ _ c.from_bytes.ensures c.from_bytes-2.ensures c.words_of-v.ensures c.words_of-w.ensures
    c.least_pattern-least.ensures c.if-least-lt-NONE.true)

pub returns-else-least-lt-NONE : goal.returns-else-least-lt-NONE
returns-else-least-lt-NONE c =
    told_meets _ _ _
    (sums_alike _ _ (search rules) (search rules) _ _ _ _ _ c.from_bytes.ensures c.from_bytes-2.ensures c.words_of-v.ensures c.words_of-w.ensures
    c.least_pattern-least.ensures c.if-least-lt-NONE.false)
