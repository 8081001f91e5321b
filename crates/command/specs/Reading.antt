-- What stands in a stream. s is the stream from some offset on; what lies past its end counts as 0.
use Rattle.std.specs.Prelude.{ℕ, zero, suc, ◌+◌, not, List, [], ◌∷◌, ltb, eqb, length, get_or, drop}
use Rattle.peek.specs.Bytes.{u32_at}
use Rattle.buffer.specs.Verdict.{and_then, refuse_if}
use Rattle.buffer.specs.declared.Verdict.{Verdict}
use Rattle.buffer.specs.declared.Verdict.TheVariants.{Accepted}
use Rattle.command.specs.Command.{load_op}

-- the opcode of the command at the start of s [W2, B4]
abbrev pub opcode : List ℕ → ℕ
opcode s = get_or s 0 0

-- the number of the command at the start of s [W2, B4]
abbrev pub number : List ℕ → ℕ
number s = u32_at s 1

-- at s, whose offset is `at`, this command is due: 13 if fewer than five bytes are left, then 14 [F13, F14, O5]
unfoldable pub command_verdict : ℕ → ℕ → List ℕ → Verdict
command_verdict op at s = and_then (refuse_if (ltb (length s) 5) 13 at) (refuse_if (not (eqb (opcode s) op)) 14 at)

-- so many loads are due, one behind the other [C1, F13, F14, O5]
unfoldable pub loads_verdict : ℕ → ℕ → List ℕ → Verdict
loads_verdict zero at s = Accepted
loads_verdict (suc k) at s = and_then (command_verdict load_op at s) (loads_verdict k (at + 5) (drop 5 s))

-- the numbers of so many load commands, first sent first [G4]
unfoldable pub words_in : ℕ → List ℕ → List ℕ
words_in zero s = []
words_in (suc k) s = number s ∷ words_in k (drop 5 s)
