-- What a verb has to say, and what comes of it in lent room.
use Rattle.std.specs.Prelude.{ℕ, ◌≤◌, ◌≡◌, cond, List, leb, length}
use Rattle.buffer.specs.Room.{fill}
use Rattle.buffer.specs.declared.Outcome.{Outcome}
use Rattle.buffer.specs.declared.Verdict.{Verdict}
use Rattle.buffer.specs.declared.Verdict.TheVariants.{Accepted, Refused}
use Rattle.notice.specs.declared.Noticed.{Noticed}
use Rattle.page.specs.declared.Paged.{Paged}
use Rattle.verbs.specs.declared.Came.{Came}
use Rattle.verbs.specs.declared.Came.TheVariants.{Done, First, Second, Shown, NoNumber, NoCall}

-- bytes for standard output, or a refusal of the first or of the second file, or trouble with the arguments [T1, T3]
pub data Result : Type 0 where
  bytes : List ℕ → Result
  first : ℕ → ℕ → Result
  second : ℕ → ℕ → Result
  no_number : Result
  no_call : Result

-- these bytes where both files are accepted; the first file speaks first [T3, O4]
abbrev pub unless : (first second : Verdict) (text : List ℕ) → Result
unless (Refused number place) v text = first number place
unless Accepted (Refused number place) text = second number place
unless Accepted Accepted text = bytes text

-- what comes of it, by the room for standard output: 12, which comes last, is told of the first file [T3, A3, F12]
abbrev pub came_of : Result → (room : ℕ) → Came
came_of (bytes bs) room = cond (leb (length bs) room) (Done (length bs)) (First 12 (length bs))
came_of (first number place) room = First number place
came_of (second number place) room = Second number place
came_of no_number room = NoNumber
came_of no_call room = NoCall

-- the room afterwards: the bytes at its start where they fit, as it was after every refusal [T3, A1, A2, A3]
abbrev pub left_by : Result → (out : List ℕ) → List ℕ
left_by (bytes bs) out = cond (leb (length bs) (length out)) (fill bs out) out
left_by (first number place) out = out
left_by (second number place) out = out
left_by no_number out = out
left_by no_call out = out

-- a verb that has this to say came to c, and left the room so [T1, T3]
pub record Gives (result : Result) (out : List ℕ) (c : Came) (out' : List ℕ) : Type 0 where
  pub came : c ≡ came_of result (length out)
  pub left : out' ≡ left_by result out

-- the text of a sheet or a stream, so many bytes, and the refusal where there is one [T6]
abbrev pub shown_of : Verdict → (n : ℕ) → Came
shown_of Accepted n = Done n
shown_of (Refused number place) n = Shown n number place

-- a verb showed some text in the room; which text no rule says [T6]
pub record Shows (v : Verdict) (out : List ℕ) (c : Came) : Type 0 where
  pub count : ℕ
  pub within : count ≤ length out
  pub came : c ≡ shown_of v count

-- what a writer's answer on the first file comes to [T3]
abbrev pub of_outcome : Outcome → Came
of_outcome (Outcome.Done n) = Done n
of_outcome (Outcome.Refused number place) = First number place

-- what the notice's answer on two files comes to [T3, A4]
abbrev pub of_noticed : Noticed → Came
of_noticed (Noticed.Done n) = Done n
of_noticed (Noticed.Old number place) = First number place
of_noticed (Noticed.New number place) = Second number place
of_noticed (Noticed.Short needed) = First 12 needed

-- what the page's answer on two files comes to; where a name or a digest is too long for it there is no page
-- [T3, T7, A4]
abbrev pub of_paged : Paged → Came
of_paged (Paged.Done n) = Done n
of_paged (Paged.Old number place) = First number place
of_paged (Paged.New number place) = Second number place
of_paged (Paged.Short needed) = First 12 needed
of_paged Paged.TooLong = NoCall
