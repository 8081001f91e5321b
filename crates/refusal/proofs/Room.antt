-- Whether a line fits, found by differences. Assumes nothing.
use Prim.Native.Nat.{ℕ, ◌+◌, ◌-◌, ◌≤◌}
use mathlib.Core.Path.{◌≡◌, sym, ◌∙◌}
use native.Mathlib.Decide.{dec_le}
use native.Mathlib.Omega.{arith}
use borrow.Author.Tests.{le-leb, lt-leb}
use lib.Dec.{leb}

pub last_fits : (room at bytes first second : ℕ) → at ≤ room → bytes ≤ room - at → first ≤ room - at - bytes
    → leb second (room - at - bytes - first) ≡ leb (at + (bytes + (first + second))) room
last_fits room at bytes first second h i j =
    elim (dec_le second (room - at - bytes - first)) [
      | yes k ↦ le-leb _ _ k ∙ sym (le-leb (at + (bytes + (first + second))) room (omega arith))
      | no k ↦ lt-leb second (room - at - bytes - first) (omega arith) ∙ sym (lt-leb (at + (bytes + (first + second))) room (omega arith))
    ]
