-- A turn halves an idle range; one that is not idle, or has had all turns, is what is reduced.
use Rattle.std.proofs.Common.{◌-◌, refl, sym, ◌∙◌, arith}
use Rattle.range_telling.specs.Reduce.{reduce_of}
use Rattle.range_telling.proofs.Halving.{reduce_next, reduce_stop, reduce_end}
use Rattle.range_telling.proofs.Theorems.{answer_reduces}
use Rattle.range_telling.proofs.reduced.reduce.Goals as goal

pub loop-init : goal.loop-init
unfolding reduce_of
loop-init c = refl

pub loop-preserved : goal.loop-preserved
loop-preserved c =
    rw c.halved-left.ensures (reduce_next c.loop.counter c.loop.left (omega arith) (sym c.is_idle.ensures ∙ c.if-not-is_idle.false) ∙ c.loop.invariant)

pub returns-then-not-is_idle : goal.returns-then-not-is_idle
returns-then-not-is_idle c =
    let value = sym (reduce_stop (32 - c.loop.counter) c.loop.left (sym c.is_idle.ensures ∙ c.if-not-is_idle.true)) ∙ c.loop.invariant in
    record { value = value; reduces = answer_reduces _ _ value }

pub returns : goal.returns
returns c =
    let value = sym (reduce_end (32 - c.loop.counter) c.loop.left (omega arith)) ∙ c.loop.invariant in
    record { value = value; reduces = answer_reduces _ _ value }
