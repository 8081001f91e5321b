-- The commands of a sheet.
use Rattle.std.specs.Prelude.{ℕ, ◌+◌, ◌*◌, List, [], ◌∷◌}
use Rattle.buffer.specs.Room.{Reply, unless}
use Rattle.kinds.specs.Table.{most_of, sending_order}
use Rattle.sheet.specs.Reading.{verdict}
use Rattle.sheet.specs.Parsed.{parse}
use Rattle.compiler.specs.Items.{item_size}
use Rattle.compiler.specs.Chains.{sheet_loads, commands_of}

-- the commands of a sheet that is taken apart: those that load its chains [W17, D2.1]
unfoldable pub stream_of : (p : List (List (List ℕ))) → List ℕ
stream_of p = commands_of (sheet_loads p)

-- the most bytes that the items of these sections have: each its most records [W18]
unfoldable pub longest_by : (order : List ℕ) → ℕ
longest_by [] = 0
longest_by (k ∷ ks) = most_of k * item_size k + longest_by ks

-- the most bytes that the commands of an accepted sheet have; theorem at_most, and the number in demands/proofs/Sizes
-- [W18]
abbrev pub longest_stream : ℕ
longest_stream = longest_by sending_order

-- a sheet's refusal, else its commands; whether there is room is asked last [W17, A2, O7, D2.1]
abbrev pub compiled : (sheet : List ℕ) → Reply
compiled s = unless (verdict s) (stream_of (parse s))
