-- `records::sum_record` meets its contract: label and operations have room in their arrays. Assumes nothing.
use native.Mathlib.Omega.{arith}
use mathlib.Core.Path.{◌≡◌, ◌∙◌, ap}
use lib.ListN.{take, drop, replicate, length-take}
use Rattle.buffer.proofs.Writing.{filled}
use Rattle.records.specs.Sections.{label_size, label_of, description_of}
use Rattle.records.proofs.fields.sum_record.Goals as goal

pub returns : goal.returns
returns c =
    let s = c.args.bytes.now in
    let l : c.label.result.now ≡ label_of s = c.label.ensures in
    let d : c.prefix.result.now ≡ take 11 (description_of s) = c.prefix.ensures ∙ ap (take 11) c.description.ensures in
    let one = filled (label_of s) (replicate label_size 0) _ _ (omega (arith, length-take label_size (drop 1 s)))
    (rw l at c.put_bytes.ensures) in
    let two = filled (take 11 (description_of s)) (replicate 11 0) _ _ (omega (arith, length-take 11 (description_of s)))
    (rw d at c.put_bytes-2.ensures) in
    rw (c.slot.ensures, one, two)
