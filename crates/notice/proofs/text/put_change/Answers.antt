-- `put_change` meets its contract: each arm writes the text of its change. Assumes nothing.
use Rattle.std.proofs.Common.{arith, length, ◌≤◌}
use Rattle.buffer.proofs.Writing.{wrote_then}
use Rattle.notice.proofs.text.put_change.Goals as goal

pub returns-in-Apart : goal.returns-in-Apart
returns-in-Apart c =
    let h : c.args.at ≤ length c.args.out.now = omega (arith, c.requires) in
    rw c.in-Apart.is (wrote_then _ _ _ _ _ _ _ _ h (wrote_then _ _ _ _ _ _ _ _ h c.put-at1.ensures c.put_input-at2.ensures) c.put-in-Apart.ensures)
