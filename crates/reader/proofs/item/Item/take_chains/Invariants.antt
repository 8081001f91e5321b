-- The verdict is that of the chains from number `i` on, and the words taken before, with theirs behind them, are all the
-- words.
use Rattle.std.proofs.Common.{◌≡◌, ◌+◌, ◌-◌, ◌*◌, ◌++◌, take, drop, replicate}
use Rattle.kinds.specs.Table.{lengths_of}
use Rattle.compiler.specs.Chains.{words_read}
use Rattle.reader.specs.Judging.{chains_verdict}
use Rattle.reader.proofs.item.Item.take_chains.Given as goal

abbrev pub invariant-loop-i : goal.invariant-loop-i
invariant-loop-i l =
    let item = l.self in
    record {
      judged :
          chains_verdict (replicate (l.i-end - l.i) l.each) (item.address + l.i) l.from (drop l.from item.stream.now)
          ≡ chains_verdict (lengths_of item.place.section) item.address item.at (drop item.at item.stream.now);
      taken :
          take (l.i * l.each) l.words ++ words_read (replicate (l.i-end - l.i) l.each) (drop l.from item.stream.now)
          ≡ words_read (lengths_of item.place.section) (drop item.at item.stream.now);
    }
