-- A slice that is a part of another one.
use Rattle.std.specs.Prelude.{ℕ, ◌+◌, List, ◌≡◌}
use Rattle.std.specs.Borrow.{Bor}

-- a part of a lent slice: in the same memory, so many bytes from the slice's start, with these bytes [S9, G14, L6]
pub record Part (whole part : Bor (List ℕ)) (start : ℕ) (bytes : List ℕ) : Type 0 where
  pub holds : part.now ≡ bytes
  pub same_block : part.ref_ptr.0 ≡ whole.ref_ptr.0
  pub starts : part.ref_ptr.1 ≡ whole.ref_ptr.1 + start
