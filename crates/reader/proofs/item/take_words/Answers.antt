-- One word more is taken at each turn.
use Rattle.std.proofs.Common.{◌≡◌, ◌+◌, ◌-◌, [], ◌∷◌, length, drop, refl, sym, ap, ap₂, ◌∙◌, arith}
use Rattle.std.proofs.Math.Nat.{sub-zero}
use Rattle.std.proofs.Math.Seq.{drop-drop}
use Rattle.buffer.proofs.Faults.{and_then_stop, and_then_go}
use Rattle.buffer.proofs.Writing.{Pending, fill_all, pending_store, pending_end}
use Rattle.command.specs.Command.{load_op}
use Rattle.command.specs.Reading.{loads_verdict, words_in}
use Rattle.command.proofs.Checked.{loads_none, loads_turn, length_words, words_none, words_turn}
use Rattle.reader.proofs.Judged.{command_within}
use Rattle.reader.proofs.Taking.{taken_refused, taken_all}
use Rattle.reader.proofs.item.take_words.Goals as goal

pub loop-word-init : goal.loop-word-init
loop-word-init c =
    let into = c.args.into.now in
    let ws = words_in (length into) (drop c.args.at c.args.stream.now) in
    rw (sub-zero (length into))
    (record { judged = refl; pending = record { size = refl; room = omega (arith, length_words (length into) (drop c.args.at c.args.stream.now)); makes = fill_all ws into (omega (arith, length_words (length into) (drop c.args.at c.args.stream.now))) } })

pub returns-in-Refused : goal.returns-in-Refused
returns-in-Refused c =
    let l = c.loop-word in
    let turn = loads_turn (length c.args.into.now - l.word-index) l.from c.args.stream.now (omega arith) in
    taken_refused _ _ _ _ _
    (and_then_stop _ _ _ _ _ (sym turn ∙ l.invariant.judged) (sym c.check_command.ensures.value ∙ c.in-Refused.is))

pub overflow_add-from : goal.overflow_add-from
overflow_add-from c = omega (arith, command_within load_op c.loop-word.from c.args.stream.now (sym c.check_command.ensures.value ∙ c.in_default.is))

pub loop-word-preserved : goal.loop-word-preserved
loop-word-preserved c =
    let s = c.args.stream.now in
    let n = length c.args.into.now in
    let l = c.loop-word in
    let i = l.word-index in
    let k : n - i - 1 ≡ n - (i + 1) = omega arith in
    let judged = loads_turn (n - i) l.from s (omega arith) in
    let turn = words_turn (n - i) (drop l.from s) (omega arith) ∙ ap₂ ◌∷◌ (sym c.number_at.ensures) (ap₂ words_in k (drop-drop 5 l.from s)) in
    record {
      judged = ap (λ m. loads_verdict m (l.from + 5) (drop (l.from + 5) s)) (sym k)
          ∙ and_then_go _ _ _ (sym judged ∙ l.invariant.judged) (sym c.check_command.ensures.value ∙ c.in_default.is);
      pending = pending_store _ _ i _ c.number_at.result _ l.into turn l.invariant.pending;
    }

pub returns : goal.returns
returns c =
    let s = c.args.stream.now in
    let l = c.loop-word in
    let n = length c.args.into.now - l.word-index in
    let none : n ≡ 0 = omega arith in
    let done : Pending _ _ _ [] l.into = rw (words_none n (drop l.from s) none) at l.invariant.pending in
    taken_all _ _ _ (sym (loads_none n l.from (drop l.from s) none) ∙ l.invariant.judged) (pending_end _ _ _ _ done)
