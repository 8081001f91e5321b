-- `kinds::telling_of` means what it says: each arm's answer is the definition's. Assumes nothing.
use Rattle.kinds.proofs.Told.{told_means}
use Rattle.lut.specs.declared.Input.TheVariants.{Nothing}
use Rattle.lut.specs.declared.Telling.TheVariants.{Apart}
use Rattle.kinds.specs.Table.{kind_of, telling_of}
use Rattle.kinds.proofs.describe.telling_of.Goals as goal

pub returns-in-0-clause-meaning : goal.returns-in-0-clause-meaning
unfolding kind_of telling_of
returns-in-0-clause-meaning c = told_means _ _ _ _ c.type_inv.old c.type_inv.new (rw c.in-0.is c.telling_of.ensures.value)

pub returns-in-1-clause-meaning : goal.returns-in-1-clause-meaning
unfolding kind_of telling_of
returns-in-1-clause-meaning c = told_means _ _ _ _ c.type_inv.old c.type_inv.new (rw c.in-1.is c.telling_of-in-1.ensures.value)

pub returns-in-2-clause-meaning : goal.returns-in-2-clause-meaning
unfolding kind_of telling_of
returns-in-2-clause-meaning c = told_means _ _ _ _ c.type_inv.old c.type_inv.new (rw c.in-2.is c.telling_of-in-2.ensures.value)

pub returns-in-3-clause-meaning : goal.returns-in-3-clause-meaning
unfolding kind_of telling_of
returns-in-3-clause-meaning c = told_means _ _ _ _ c.type_inv.old c.type_inv.new (rw c.in-3.is c.telling_of-in-3.ensures.value)

pub returns-in-4-clause-meaning : goal.returns-in-4-clause-meaning
unfolding kind_of telling_of
returns-in-4-clause-meaning c = told_means _ _ _ (Apart Nothing) c.type_inv.old c.type_inv.new (rw c.in-4.is)
