-- What a call that writes has to answer, and what it leaves in the room that it was lent.
use Rattle.std.specs.Prelude.{ℕ, ◌+◌, ◌≡◌, cond, List, ◌++◌, leb, length, take, drop}
use Rattle.buffer.specs.declared.Verdict.{Verdict}
use Rattle.buffer.specs.declared.Outcome.{Outcome}
use Rattle.buffer.specs.Verdict.{outcome_number, outcome_place}

-- what a call has to say: the bytes to be written, or a refusal by number and place [A1, A2]
pub data Reply : Type 0 where
  bytes : List ℕ → Reply
  refusal : ℕ → ℕ → Reply

-- these bytes where the input is accepted; a refusal otherwise, whatever the bytes [A2, O7]
abbrev pub unless : Verdict → List ℕ → Reply
unless Verdict.Accepted bs = bytes bs
unless (Verdict.Refused number place) bs = refusal number place

-- bytes at the room's start; those beyond them stay [A1]
abbrev pub fill : List ℕ → List ℕ → List ℕ
fill bs room = bs ++ drop (length bs) room

-- bytes in the room that begins at an index; all others stay [A1, W17, L4]
abbrev pub write : ℕ → List ℕ → List ℕ → List ℕ
write at bs room = take at room ++ fill bs (drop at room)

-- the answer by the room's length: the length written, or 12 and the length needed, or the refusal [A1, A2, A3, F12]
abbrev pub outcome : Reply → ℕ → Outcome
outcome (bytes bs) size = cond (leb (length bs) size) (Outcome.Done (length bs)) (Outcome.Refused 12 (length bs))
outcome (refusal number place) size = Outcome.Refused number place

-- the room afterwards: filled where the bytes fit, as it was after every refusal, 12 too [A1, A2, A3]
abbrev pub after : Reply → List ℕ → List ℕ
after (bytes bs) room = cond (leb (length bs) (length room)) (fill bs room) room
after (refusal number place) room = room

-- the answer's number: the refusal's, 12 for bytes that do not fit, else 0 [A3, A5, F12]
abbrev pub reply_number : Reply → ℕ → ℕ
reply_number (bytes bs) size = cond (leb (length bs) size) 0 12
reply_number (refusal number place) size = number

-- and its place: the refusal's; the count of the bytes, which is written or needed [A1, A5, A6, F12]
abbrev pub reply_place : Reply → ℕ
reply_place (bytes bs) = length bs
reply_place (refusal number place) = place

-- a call that was lent room answered r, in numbers these, and left room' [A1, A2, A3, A5, G14]
pub record Delivered (reply : Reply) (room : List ℕ) (r : Outcome) (room' : List ℕ) : Type 0 where
  pub answer : r ≡ outcome reply (length room)
  pub number : outcome_number r ≡ reply_number reply (length room)
  pub place : outcome_place r ≡ reply_place reply
  pub left : room' ≡ after reply room

-- text was put at an index, and the index behind it is answered [A10]
pub record Wrote (at : ℕ) (text room room' : List ℕ) (r : ℕ) : Type 0 where
  pub next : r ≡ at + length text
  pub left : room' ≡ write at text room

-- the same where the text fits; otherwise nothing was put, and its own index is answered [A10]
pub record Put (at : ℕ) (text room room' : List ℕ) (r : ℕ) : Type 0 where
  pub next : r ≡ cond (leb (at + length text) (length room)) (at + length text) at
  pub left : room' ≡ cond (leb (at + length text) (length room)) (write at text room) room
