-- `command::check_command` meets its contract: at each `return` the tests that led there say which verdict it is.
-- Assumes nothing.
use Prim.Native.Nat.{ℕ}
use mathlib.Core.Path.{◌∙◌, sym, ap}
use mathlib.Core.List.{List}
use Rattle.command.specs.Reading.{opcode}
use lib.ListN.{drop}
use Rattle.command.proofs.Checked.{command_short, command_other, command_there, command_meets}
use Rattle.command.proofs.read.check_command.Goals as goal

pub returns-then-rest-lt-COMMAND_SIZE : goal.returns-then-rest-lt-COMMAND_SIZE
returns-then-rest-lt-COMMAND_SIZE c =
    let a = c.args in
    let s : List ℕ = drop a.at a.stream.now in
    let both = command_meets a.op a.at s _ (sym (command_short a.op a.at s (rw c.suffix-rest.ensures at c.if-rest-lt-COMMAND_SIZE.true))) in record { value = both.0; verdict_numbered = both.1 }

pub returns-then-byte_at-op : goal.returns-then-byte_at-op
returns-then-byte_at-op c =
    let a = c.args in
    let s : List ℕ = drop a.at a.stream.now in
    let e = c.byte_at.ensures ∙ ap opcode c.suffix-rest.ensures in
    let both = command_meets a.op a.at s _
    (sym (command_other a.op a.at s (rw c.suffix-rest.ensures at c.if-rest-lt-COMMAND_SIZE.false) (λ q. c.if-byte_at-op.true (e ∙ q)))) in record { value = both.0; verdict_numbered = both.1 }

pub returns : goal.returns
returns c =
    let a = c.args in
    let s : List ℕ = drop a.at a.stream.now in
    let e = c.byte_at.ensures ∙ ap opcode c.suffix-rest.ensures in
    let both = command_meets a.op a.at s _
    (sym (command_there a.op a.at s (rw c.suffix-rest.ensures at c.if-rest-lt-COMMAND_SIZE.false) (sym e ∙ c.if-byte_at-op.false))) in record { value = both.0; verdict_numbered = both.1 }
