-- `put_input` meets its contract, arm by arm. Assumes nothing.
use Rattle.std.proofs.Common.{arith, length, ◌≤◌}
use Rattle.buffer.proofs.Writing.{wrote_then}
use Rattle.notice.proofs.text.put_input.Goals as goal

pub returns-in-Samples : goal.returns-in-Samples
returns-in-Samples c =
    let h : c.args.at ≤ length c.args.out.now = omega (arith, c.requires) in
    let w = wrote_then _ _ _ _ _ _ _ _ h c.put_spaced-next.ensures c.put_spaced-in-Samples.ensures in
    rw c.in-Samples.is (rw (c.hex-in-Samples.ensures, c.hex-in-Samples-2.ensures) at w)
