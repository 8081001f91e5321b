-- What the room holds of the items before `at`.
use Rattle.std.proofs.Common.{◌≡◌, ◌-◌, length}
use Rattle.reader.proofs.Walking.{Walking}
use Rattle.reader.proofs.walk.walk.Given as goal

abbrev pub invariant-loop-at : goal.invariant-loop-at
invariant-loop-at l = (length l.words ≡ 32) × Walking l.stream l.low l.at l.room

abbrev pub decreases-loop-at : goal.decreases-loop-at
decreases-loop-at l = length l.stream - l.at
