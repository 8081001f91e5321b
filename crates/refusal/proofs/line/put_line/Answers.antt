-- `put_line` meets its contract: the words are built first, and the whole is written where it fits. Assumes nothing.
use lib.Dec.{lit≤}
use native.Mathlib.Omega.{arith}
use Prim.Native.Nat.{ℕ, ◌+◌}
use mathlib.Core.List.{List}
use mathlib.Core.Path.{◌≡◌, sym, ◌∙◌, refl}
use lib.ListN.{length, take}
use borrow.Author.Tests.{leb-true, leb-false}
use Rattle.buffer.proofs.Writing.{front_text, front_room, front_count, put_fits, put_short}
use Rattle.refusal.specs.Line.{refusal_text, refusal_line}
use Rattle.refusal.proofs.Lengths.{line_length}
use Rattle.refusal.proofs.line.put_line.Goals as goal

-- the whole line's length, as it is tested
measured : (file : List ℕ) (number place : ℕ) (detail : List ℕ) (n : ℕ) → n ≡ length (refusal_text number place)
    → length (refusal_line file number place detail) ≡ n + 5 + (length file + length detail)
measured file number place detail n e = rw e (line_length file (refusal_text number place) detail)

pub overflow_add-length : goal.overflow_add-length
overflow_add-length c = omega (arith, front_room _ _ _ _ c.put_text-length.ensures)

pub returns-then-not-is_room : goal.returns-then-not-is_room
returns-then-not-is_room c =
    put_short _ _ _ (rw (measured _ _ _ _ _ (front_count _ _ _ _ c.put_text-length.ensures)) (leb-false _ _ (sym c.is_room.ensures ∙ c.if-not-is_room.true)))

pub put_parts-requires : goal.put_parts-requires
put_parts-requires c =
    rw (c.prefix.ensures ∙ front_text _ _ _ _ c.put_text-length.ensures, measured _ _ _ _ _ (front_count _ _ _ _ c.put_text-length.ensures)) (leb-true _ _ (sym c.is_room.ensures ∙ c.if-not-is_room.false))

pub returns : goal.returns
returns c =
    put_fits _ _ _ _ _ (rw (measured _ _ _ _ _ (front_count _ _ _ _ c.put_text-length.ensures)) (leb-true _ _ (sym c.is_room.ensures ∙ c.if-not-is_room.false)))
    (rw (c.prefix.ensures ∙ front_text _ _ _ _ c.put_text-length.ensures) at c.put_parts.ensures)
