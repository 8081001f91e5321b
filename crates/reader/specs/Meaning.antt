-- What the reader's answer says of a stream.
use Rattle.std.specs.Prelude.{ℕ, ◌≡◌, List, ◌⊎◌, take}
use Rattle.peek.specs.Bytes.{Bytes}
use Rattle.buffer.specs.Room.{bytes}
use Rattle.buffer.specs.declared.Outcome.{Outcome}
use Rattle.buffer.specs.declared.Outcome.TheVariants.{Done, Refused}
use Rattle.buffer.specs.declared.Verdict.TheVariants.{Accepted}
use Rattle.sheet.specs.Reading.{verdict}
use Rattle.compiler.specs.Stream.{compiled}

-- the compiler writes this stream for an accepted sheet [D2.6]
pub record WrittenBySheet (stream : List ℕ) : Type 0 where
  pub sheet : List ℕ
  pub sheet_bytes : Bytes sheet
  pub accepted : verdict sheet ≡ Accepted
  pub writes : compiled sheet ≡ bytes stream

-- what an answer says: the sheet at the room's start is accepted and writes the stream; or an accepted sheet does, and
-- there was no room for it; or none does [D2.6, F12]
abbrev pub ReadSays : (stream : List ℕ) → Outcome → (room : List ℕ) → Type 0
ReadSays stream (Done n) room = (verdict (take n room) ≡ Accepted) × (compiled (take n room) ≡ bytes stream)
ReadSays stream (Refused number place) room = ((number ≡ 12) × WrittenBySheet stream) ⊎ (WrittenBySheet stream → ⊥)
