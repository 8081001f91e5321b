-- The bytes of the pattern that is read, or none.
use Rattle.std.proofs.Common.{refl}
use Rattle.buffer.proofs.Writing.{delivers, nothing, told}
use Rattle.term.specs.Back.{read_term}
use Rattle.term.specs.Description.{bytes_read, back}
use Rattle.term.proofs.description.put_back.Goals as goal

pub returns-in-Some : goal.returns-in-Some
unfolding back
returns-in-Some c = delivers (told read_term bytes_read _ _ _ _ refl c.read_term.ensures.value c.in-Some.is) c.to_bytes.ensures

pub returns-in-None : goal.returns-in-None
unfolding back
returns-in-None c = nothing _ _ (told read_term bytes_read _ _ _ _ refl c.read_term.ensures.value c.in-None.is)
