-- The line at j is set in the mask where the answer is 0 once that line is changed.
use Rattle.std.proofs.Common.{◌≡◌, ℕ, refl, true, false, arith, ◌∙◌, ap₂, eq-eqb, ne_eqb}
use Rattle.lut.specs.Table.{table_of}
use Rattle.lut.proofs.Tables.{bit_set, bit_room, bit_clear}
use Rattle.term.specs.Back.{line_masked, nibble_mask}
use Rattle.term.proofs.Stepping.{flipped, flipped_lt}
use Rattle.term.proofs.back.nibble_mask.Goals.{then-table-a-eq0, else-table-a-eq0}
use Rattle.term.proofs.back.nibble_mask.Goals as goal

pub loop-j-init : goal.loop-j-init
unfolding table_of
loop-j-init c = refl

pub overflow_shr-table : goal.overflow_shr-table
overflow_shr-table c = omega (arith, flipped_lt c.nibble_target-a.result c.loop-j.j (omega arith) (omega arith))

pub overflow_add-mask : goal.overflow_add-mask
overflow_add-mask c =
    let masked = line_masked c.args.table c.nibble_target-a.result in
    record { fits = bit_room masked c.loop-j.j c.loop-j.mask (omega arith) c.loop-j.invariant }

pub loop-j-preserved : goal.loop-j-preserved
loop-j-preserved c =
    let j : ℕ = c.loop-j.j in
    let table : ℕ = c.args.table in
    let a : ℕ = c.nibble_target-a.result in
    let masked = line_masked table a in
    elim c.if-table-a-eq0.branch [
      | then-table-a-eq0 w ↦ w.mask-is ∙ bit_set masked j c.loop-j.mask (omega arith) c.loop-j.invariant (flipped table a j true (omega arith) (eq-eqb _ 0 w.if-table-a-eq0.true))
      | else-table-a-eq0 w ↦ w.mask-is ∙ bit_clear masked j c.loop-j.mask (omega arith) c.loop-j.invariant (flipped table a j false (omega arith) (ne_eqb _ 0 w.if-table-a-eq0.false))
    ]

pub returns : goal.returns
unfolding nibble_mask
returns c =
    let four : c.loop-j.j ≡ 4 = omega arith in
    c.loop-j.invariant ∙ ap₂ (λ (a j : ℕ). table_of (line_masked c.args.table a) j) c.nibble_target-a.ensures four
