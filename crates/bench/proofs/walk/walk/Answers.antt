-- `walk` meets its contract: each sample is one turn of `Walking`, which goes on or has ended. Assumes nothing.
use Rattle.std.proofs.Common.{arith}
use Rattle.std.proofs.lemmas.Iterator.{YieldsList-from_slice}
use Rattle.std.proofs.lemmas.Iterator.Consumers.{YieldsList-from_copied, YieldsList-turn, YieldsList-end}
use Rattle.std.proofs.lemmas.List.{get_or_read, length_push}
use Rattle.bench.proofs.Walking.{walk_on, walk_stops, walk_ends}
use Rattle.bench.proofs.walk.walk.Goals as goal

pub loop-sample-preserved : goal.loop-sample-preserved
loop-sample-preserved c =
    let t = YieldsList-turn (YieldsList-from_copied (YieldsList-from_slice c.args.samples.now cc)) c.loop-sample.yielded _ c.loop-sample.yielded_by _ _ c.in-Some.sample c.in-Some.is c.next.ensures.steps in
    rw length_push
    (walk_on _ _ _ _ _ _ _ _ _ _ c.loop-sample.invariant _ (t.0, get_or_read _ _ _ t.0 t.1 0) _ _ _ _ _ c.sources_of.ensures
    (c.capture_matches.ensures _ c.addresses_of-addresses.ensures) c.put_word-n.ensures (c.move_on-moved.ensures _ c.addresses_of-addresses.ensures)
    c.if-moved.false)

pub returns-then-moved : goal.returns-then-moved
returns-then-moved c =
    let t = YieldsList-turn (YieldsList-from_copied (YieldsList-from_slice c.args.samples.now cc)) c.loop-sample.yielded _ c.loop-sample.yielded_by _ _ c.in-Some.sample c.in-Some.is c.next.ensures.steps in
    rw c.to_run.ensures
    (walk_stops _ _ _ _ _ _ _ _ _ _ c.loop-sample.invariant _ (t.0, get_or_read _ _ _ t.0 t.1 0) _ _ _ _ _ c.sources_of.ensures
    (c.capture_matches.ensures _ c.addresses_of-addresses.ensures) c.put_word-n.ensures (c.move_on-moved.ensures _ c.addresses_of-addresses.ensures)
    c.if-moved.true)

pub returns : goal.returns
returns c =
    let t = YieldsList-end (YieldsList-from_copied (YieldsList-from_slice c.args.samples.now cc)) c.loop-sample.yielded _ c.loop-sample.yielded_by _ _ c.in-None.is c.next.ensures.steps in
    rw c.to_run-2.ensures (walk_ends _ _ _ _ _ _ _ _ c.loop-sample.invariant (omega (arith, t.1)))
