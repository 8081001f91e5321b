-- Two ranges worked out: the widest, and a pair with different words that hits alike. Assumes nothing.
use Rattle.std.proofs.Common.{not, arith, T, lit<}
use lib.Count.{ones, ones-ones}
use Rattle.lines.specs.Gather.{scattered}
use Rattle.compare.specs.Same.{same}
use Rattle.lut.specs.Table.{down}
use Rattle.range.specs.Rule.{RangeAccepted}
use Rattle.range.specs.Words.{chain_words, lower_value, upper_value, sent_words}

-- the widest range is accepted [E9]
pub widest_accepted : RangeAccepted 1 0xFFFFFFFF 0xFFFFFFFF
widest_accepted =
    let width = ones-ones 32 in
    record { fits = lit< tt; positive = omega arith; ordered = omega arith; within = rw width (omega arith) }

-- the words of 2 to 3 with mask 3 are not those of 1 to 1 with mask 2, and yet no sample tells the two apart: the
-- table of examples (demands) has the WORD [E7, N10]
pub words_differ : T (not (same (sent_words 2 3 0x3) (sent_words 1 1 0x2)))
unfolding same sent_words chain_words down lower_value upper_value ones scattered
words_differ = tt
