-- `put_samples` meets its contract: one word a turn. Assumes nothing.
use Rattle.std.proofs.Common.{◌≡◌, ℕ, ◌*◌, ◌<◌, get_or}
use Rattle.peek.specs.Bytes.{u32_at}
use Rattle.verbs.proofs.samples.put_samples.Given as goal

abbrev pub invariant-loop-i : goal.invariant-loop-i
invariant-loop-i l = (k : ℕ) → k < l.i → get_or l.samples k 0 ≡ u32_at l.bytes (4 * k)
