-- `step_in` meets its contract: slot after slot, up to the first line. Assumes nothing.
use Rattle.std.proofs.Common.{arith, rules, ap, ◌∙◌}
use Rattle.kinds.proofs.Rows.{most_byte}
use Rattle.findings.specs.declared.Cursor.{Cursor}
use Rattle.findings.proofs.Walking.{part_end, met_nothing, met_label, met_last, cursor_small}
use Rattle.findings.proofs.walk.step_in.Goals as goal

pub overflow_cast-slot : goal.overflow_cast-slot
overflow_cast-slot c = omega (arith, c.loop-at.invariant.most, most_byte c.args.from.section)

pub behind-next-requires : goal.behind-next-requires
behind-next-requires c = record {
  slot_bound = omega (arith, c.loop-at.invariant.most, most_byte c.args.from.section);
  bound = cursor_small _ _ _ c.args.old.now _ (omega arith) (omega arith) c.record_with-a.ensures;
  bound_2 = cursor_small _ _ _ c.args.new.now _ (omega arith) (omega arith) c.record_with-b.ensures;
}

-- what is met at the slot, by the laws of a step
pub loop-at-preserved : goal.loop-at-preserved
loop-at-preserved c = record {
  most = c.loop-at.invariant.most;
  here = ap (λ (d : Cursor). d.section) c.behind-next.ensures ∙ c.loop-at.invariant.here;
  same = c.loop-at.invariant.same ∙ met_nothing c.args.old.now c.args.new.now c.loop-at.at _ c.loop-at.invariant.here _ _
      (omega (arith, c.loop-at.invariant.most)) c.record_with-a.ensures c.record_with-b.ensures _ (c.meet.ensures _) c.in-Nothing.is
      _ c.behind-next.ensures;
}

pub returns-in-Label-clause-from_value : goal.returns-in-Label-clause-from_value
returns-in-Label-clause-from_value c =
    c.loop-at.invariant.same ∙ met_label c.args.old.now c.args.new.now c.loop-at.at _ c.loop-at.invariant.here _ _
    (omega (arith, c.loop-at.invariant.most)) c.record_with-a.ensures c.record_with-b.ensures _ (c.meet.ensures _) c.in-Label.is
    c.line.result (search rules) _ c.named.ensures

pub returns-in-Last-clause-from_value : goal.returns-in-Last-clause-from_value
returns-in-Last-clause-from_value c =
    c.loop-at.invariant.same ∙ met_last c.args.old.now c.args.new.now c.loop-at.at _ c.loop-at.invariant.here _ _
    (omega (arith, c.loop-at.invariant.most)) c.record_with-a.ensures c.record_with-b.ensures _ (c.meet.ensures _) _ c.in-Last.is
    c.line-in-Last.result (search rules) _ c.behind-next.ensures

pub returns-clause-from_value : goal.returns-clause-from_value
returns-clause-from_value c =
    c.loop-at.invariant.same ∙ part_end _ _ _ (rw c.loop-at.invariant.here (omega (arith, c.loop-at.invariant.most)))
