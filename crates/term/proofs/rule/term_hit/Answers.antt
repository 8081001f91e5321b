-- `term::rule::term_hit` meets its contract: the formula of XOR and AND is the plain rule [P2]. Assumes nothing.
use Rattle.term.proofs.PlainRule.{term_formula}
use Rattle.term.proofs.rule.term_hit.Goals as goal

pub returns : goal.returns
returns c = let f = c.ranges in term_formula _ _ _ f.target.fits f.mask.fits f.sample.fits
