-- The verdict is that of the commands from `from` on, whose words are still to be stored.
use Rattle.std.proofs.Common.{◌≡◌, ◌-◌, length, drop}
use Rattle.buffer.proofs.Writing.{Pending}
use Rattle.command.specs.Reading.{loads_verdict, words_in}
use Rattle.reader.proofs.item.take_words.Given as goal

abbrev pub invariant-loop-word : goal.invariant-loop-word
invariant-loop-word l = record {
  judged :
      loads_verdict (length l.initial.into - l.word-index) l.from (drop l.from l.stream)
      ≡ loads_verdict (length l.initial.into) l.at (drop l.at l.stream);
  pending :
      Pending l.initial.into (words_in (length l.initial.into) (drop l.at l.stream)) l.word-index
      (words_in (length l.initial.into - l.word-index) (drop l.from l.stream)) l.into;
}
