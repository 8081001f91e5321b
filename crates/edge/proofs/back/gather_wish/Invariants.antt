-- `edge::back::gather_wish` meets its contract: what was gathered from the first words, and the words that are left.
-- Assumes nothing.
use Rattle.std.proofs.Common.{◌≡◌, ◌*◌, ◌^◌, ◌<◌, drop}
use Rattle.edge.specs.Back.{wish_from}
use Rattle.edge.proofs.back.gather_wish.Given as goal

abbrev pub invariant-loop-word : goal.invariant-loop-word
invariant-loop-word l = record {
  fits : l.wish < 2 ^ (4 * l.word-index);
  gathered : wish_from l.event.upper l.event.lower l.words 0 ≡ wish_from l.event.upper l.event.lower (drop l.word-index l.words) l.wish;
}
