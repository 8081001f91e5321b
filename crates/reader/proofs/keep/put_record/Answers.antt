-- Slot, label and description are written one behind the other.
use Rattle.std.proofs.Common.{◌+◌, ◌∷◌, ◌++◌, append-nil, length, refl, sym, ap, arith}
use Rattle.buffer.proofs.Writing.{pending_start, pending_store, pending_step, pending_end}
use Rattle.kinds.specs.Table.{description_read}
use Rattle.records.specs.Sections.{label_size}
use Rattle.reader.specs.Back.{label_for}
use Rattle.reader.proofs.Keeping.{description_short}
use Rattle.reader.proofs.keep.put_record.Goals as goal

pub returns-in-Done-2-clause-out_after : goal.returns-in-Done-2-clause-out_after
returns-in-Done-2-clause-out_after c =
    let out = c.args.out.now in
    let k = c.args.place.section in
    let slot = c.args.place.slot in
    let label = label_for k slot in
    let d = description_read k c.args.words.now in
    let short = description_short k c.requires.0 c.args.words.now in
    let all = pending_start 0 (slot ∷ (label ++ d)) out (omega (arith, short, c.requires.1)) in
    let behind_slot = pending_store _ _ 0 (slot ∷ (label ++ d)) slot (label ++ d) out refl all in
    let behind_label =
    pending_step _ _ 1 (1 + label_size) _ c.label_for.result _ _ _ _ (ap (λ l. l ++ d) (sym c.label_for.ensures)) (ap (λ l. 1 + length l) (sym c.label_for.ensures)) behind_slot c.put_bytes.ensures in
    pending_end _ _ _ _ (pending_step _ _ (1 + label_size) _ _ d _ _ _ _ (sym (append-nil d)) refl behind_label c.put_back.ensures)
