-- `cli::is_decimal` meets its contract. Assumes nothing.
use borrow.Author.Tests.{lt-ltb, le-ltb}
use native.Mathlib.Omega.{arith}
use lib.ListN.{length}
use Rattle.decimal.proofs.is_decimal.Goals as goal

pub returns-then-word-eq0 : goal.returns-then-word-eq0
returns-then-word-eq0 c = simp (le-ltb 0 (length c.args.word.now) (omega arith))

pub returns : goal.returns
returns c = simp (lt-ltb 0 (length c.args.word.now) (omega arith)) c.all_within.ensures
