use Rattle.std.proofs.Common.{◌-◌, rules}
use Rattle.range.specs.Words.{pair_word}
use Rattle.range.proofs.Tables.{chain_ext}
use Rattle.range.proofs.FromFn.{from_fn_at}
use Rattle.range.proofs.words.chain_words.Goals as goal

pub returns : goal.returns
returns c =
    chain_ext c.args.mask c.args.value _ c.from_fn.ensures.items.long (λ k h.
    rw (← c.scatter.ensures) (from_fn_at _ _ (λ i. pair_word c.args.mask c.scatter.result (15 - i)) 16 (λ i b f' l call. search rules) _ c.from_fn.ensures.items k 0 h))
