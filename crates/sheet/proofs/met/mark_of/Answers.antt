-- `sheet::mark_of` meets its contract. Assumes nothing.
use Prim.Native.Nat.{ℕ, ◌+◌, ◌*◌, ◌%◌}
use mathlib.Core.Path.{ap₂}
use Rattle.sheet.proofs.met.mark_of.Goals as goal

pub returns : goal.returns
returns c = ap₂ (λ (first last : ℕ). (first + 123 * last) % 251) c.u32_at-first.ensures c.u32_at-last.ensures
