-- `put_entry` meets its contract: the arm that the search leaves. Assumes nothing.
use Rattle.kinds.specs.Table.{entry_of, kind_of}
use Rattle.entries.proofs.put_entry.Goals as goal

pub returns-in-2 : goal.returns-in-2
unfolding entry_of kind_of
returns-in-2 c =
    rw (c.in-2.is, ← c.field-in-2.ensures, ← c.field-in-2-2.ensures, ← c.field-in-2-3.ensures) c.put_words-in-2.ensures
