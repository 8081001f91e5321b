-- A stream judged from left to right. s is the stream from offset `at` on.
use Rattle.std.specs.Prelude.{ℕ, zero, suc, ◌+◌, ◌*◌, not, cond, ◌||◌, List, [], ◌∷◌, eqb, ltb, leb, length, drop}
use Rattle.buffer.specs.Verdict.{and_then, refuse_if}
use Rattle.buffer.specs.declared.Verdict.{Verdict}
use Rattle.buffer.specs.declared.Verdict.TheVariants.{Accepted}
use Rattle.command.specs.Command.{select_op}
use Rattle.command.specs.Reading.{number, command_verdict, loads_verdict}
use Rattle.records.specs.Sections.{sections}
unfoldable pub use Rattle.kinds.specs.Table.{description_read}
use Rattle.compiler.specs.Items.{lengths_of, item_size}
use Rattle.compiler.specs.Chains.{words_read}
use Rattle.kinds.specs.Table.{section_at}

-- the description that the words of the item at the start of s are read as [C5]
unfoldable pub description_in : (s : List ℕ) → List ℕ
description_in s = description_read (section_at (number s)) (words_read (lengths_of (section_at (number s))) s)

-- ---- the verdict

-- an item's first select: 15 where its address is unknown, or below `low`, the least that may come [C2, C3, F15, O5]
unfoldable pub first_verdict : (low at : ℕ) (s : List ℕ) → Verdict
first_verdict low at s =
    and_then (command_verdict select_op at s) (refuse_if (leb sections (section_at (number s)) || ltb (number s) low) 15 at)

-- an item's chains: a select with the address due, or 15, and the loads; addresses rise by one [C1, C3, C4, F15, O5]
unfoldable pub chains_verdict : (lengths : List ℕ) (address at : ℕ) (s : List ℕ) → Verdict
chains_verdict [] address at s = Accepted
chains_verdict (n ∷ ns) address at s =
    and_then (command_verdict select_op at s)
    (and_then (refuse_if (not (eqb (number s) address)) 15 at)
    (and_then (loads_verdict n (at + 5) (drop 5 s))
    (chains_verdict ns (address + 1) (at + (5 + 5 * n)) (drop (5 + 5 * n) s))))

-- an item, judged for 16 when its last word is in; the place is its first select [F16, O6]
unfoldable pub item_verdict : (low at : ℕ) (s : List ℕ) → Verdict
item_verdict low at s =
    and_then (first_verdict low at s)
    (and_then (chains_verdict (lengths_of (section_at (number s))) (number s) at s) (refuse_if (eqb (length (description_in s)) 0) 16 at))

-- the bytes of the item at the start of s; at an unknown address only the select is looked at [C1, W18]
unfoldable pub step_size : (s : List ℕ) → ℕ
step_size s = cond (ltb (section_at (number s)) sections) (item_size (section_at (number s))) 5

-- s, and what is left behind its first item, its second, and so on to the end, n being at least s's length [C1]
unfoldable pub rests_from : (n : ℕ) (s : List ℕ) → List (List ℕ)
rests_from zero s = []
rests_from (suc n) [] = []
rests_from (suc n) (b ∷ s) = (b ∷ s) ∷ rests_from n (drop (step_size (b ∷ s)) (b ∷ s))

-- the same with n the length of s [C1]
unfoldable pub rests : (s : List ℕ) → List (List ℕ)
rests s = rests_from (length s) s

-- items one behind the other, each address above those before; the stream may end where one begins [C1, C3, C4, O5]
unfoldable pub items_verdict : (low at : ℕ) (ss : List (List ℕ)) → Verdict
items_verdict low at [] = Accepted
items_verdict low at (s ∷ ss) = and_then (item_verdict low at s) (items_verdict (number s + 1) (at + step_size s) ss)

-- the verdict on a stream: accepted, or its first fault by number and place [O5, D1.2]
unfoldable pub stream_verdict : (s : List ℕ) → Verdict
stream_verdict s = items_verdict 0 0 (rests s)
