-- The answer of the notice, by the two sheets and the room.
use Rattle.std.specs.Prelude.{ℕ, List}
use Rattle.sheet.specs.Reading.{verdict}
use Rattle.notice.specs.declared.Noticed.{Noticed}
use Rattle.notice.specs.Notice.{notice_text, answer_of}

-- the old sheet's refusal, then the new sheet's, then 12 [O4, A4]
abbrev pub noticed : (old new : List ℕ) (room : ℕ) → Noticed
noticed old new room = answer_of (verdict old) (verdict new) (notice_text old new) room
