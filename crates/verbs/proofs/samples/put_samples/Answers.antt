-- `put_samples` meets its contract: one word a turn. Assumes nothing.
use Rattle.std.proofs.Common.{arith, zero-add}
use Rattle.verbs.proofs.Benching.{fields_are}
use Rattle.verbs.proofs.samples.put_samples.Goals as goal

pub returns : goal.returns
returns c =
    let l = c.loop-i in
    rw l.auto.samples at (fields_are l.samples 0 c.args.bytes.now (λ k h. simp zero-add (l.invariant k (omega arith))))
