-- Test by test.
use Rattle.std.proofs.Common.{[], length, sym, ◌∙◌, arith}
use Rattle.command.specs.Command.{select_op}
use Rattle.reader.proofs.Judged.{chain_refused, chain_other, chain_due, command_within}
use Rattle.reader.proofs.Taking.{taken_refused, taken_as}
use Rattle.reader.proofs.item.take_chain.Goals as goal

pub returns-in-Refused : goal.returns-in-Refused
returns-in-Refused c =
    taken_refused _ _ _ _ _ (sym (chain_refused (length c.args.into.now) [] c.args.due _ _ _ _ (sym c.check_command.ensures.value ∙ c.in-Refused.is)))

pub returns-then-number_at-due : goal.returns-then-number_at-due
returns-then-number_at-due c =
    let e = sym c.check_command.ensures.value ∙ c.in_default.is in
    taken_refused _ _ _ _ _ (sym (chain_other (length c.args.into.now) [] c.args.due _ _ e (λ d. c.if-number_at-due.true (c.number_at.ensures ∙ d))))

pub overflow_add-at : goal.overflow_add-at
overflow_add-at c = omega (arith, command_within select_op c.args.at c.args.stream.now (sym c.check_command.ensures.value ∙ c.in_default.is))

pub returns : goal.returns
returns c =
    let e = sym c.check_command.ensures.value ∙ c.in_default.is in
    taken_as _ _ _ _ _
    (chain_due (length c.args.into.now) c.args.due c.args.at c.args.stream.now e (sym c.number_at.ensures ∙ c.if-number_at-due.false))
    c.take_words.ensures
