-- What is decoded is encoded again and compared.
use Rattle.std.proofs.Common.{◌≡◌, arith}
use Rattle.term.specs.Back.{nibble_target, nibble_mask, read_term}
use Rattle.term.proofs.ReadingBack.{mask_small, answer_means, answer_numbered}
use Rattle.term.proofs.back.read_term.Goals as goal

pub four_part-requires-2-clause-four_lines : goal.four_part-requires-2-clause-four_lines
four_part-requires-2-clause-four_lines c table lines h e = omega (arith, mask_small table)

pub returns : goal.returns
unfolding read_term
returns c =
    let target = c.four_part.ensures nibble_target (λ table lines h e. e) in
    let mask = c.four_part-2.ensures nibble_mask (λ table lines h e. e) in
    let value : c.then_some.result ≡ read_term c.args.words.now = rw (c.then_some.ensures, c.same_words.ensures, c.term_words-again.ensures, target, mask) in
    record {
      value = value;
      read_means = answer_means _ _ value;
      read_numbered = answer_numbered _ _ value;
    }
