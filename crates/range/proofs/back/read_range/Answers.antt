-- What the words decode to is encoded again and compared.
use Rattle.std.proofs.Common.{◌≡◌, ◌+◌, ◌∙◌, arith}
use Rattle.range.specs.Words.{complement}
use Rattle.range.specs.Back.{decoded, read_range}
use Rattle.range.proofs.Tables.{flat_chains}
use Rattle.range.proofs.Decode.{answer_means, answer_numbered, read_other, read_unordered, read_ordered}
use Rattle.range.proofs.back.read_range.Goals as goal

pub returns-then-words-ne32 : goal.returns-then-words-ne32
returns-then-words-ne32 c =
    let value = read_other c.args.words.now c.if-words-ne32.true in
    record { value = value; read_means = answer_means _ _ value; read_numbered = answer_numbered _ _ value }

pub returns-then-below-upper : goal.returns-then-below-upper
returns-then-below-upper c =
    let words = c.args.words.now in
    let d : decoded words ≡ record { lower = c.chain_bound-below.result + 1; upper = c.chain_bound-upper.result; mask = complement c.lines_with-mask.result }
    = rw (c.chain_bound-below.ensures, c.chain_bound-upper.ensures, c.lines_with-mask.ensures, c.split_at.ensures.front, c.split_at.ensures.back) in
    let value = read_unordered words _ c.if-words-ne32.false d (omega arith) in
    record { value = value; read_means = answer_means _ _ value; read_numbered = answer_numbered _ _ value }

pub returns : goal.returns
returns c =
    let words = c.args.words.now in
    let d : decoded words ≡ record { lower = c.chain_bound-below.result + 1; upper = c.chain_bound-upper.result; mask = complement c.lines_with-mask.result }
    = rw (c.chain_bound-below.ensures, c.chain_bound-upper.ensures, c.lines_with-mask.ensures, c.split_at.ensures.front, c.split_at.ensures.back) in
    let value : c.then_some.result ≡ read_range words = c.then_some.ensures
    ∙ rw (c.same_words.ensures, c.as_flattened.ensures.value, c.range_words-chains.ensures, flat_chains) (read_ordered words _ c.if-words-ne32.false d (omega arith)) in
    record { value = value; read_means = answer_means _ _ value; read_numbered = answer_numbered _ _ value }
