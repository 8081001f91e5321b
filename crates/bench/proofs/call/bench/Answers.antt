-- `bench` meets its contract: by the table that is made of the sheet. Assumes nothing.
use Rattle.std.proofs.Common.{refl, sym, subst, List, arith}
use Rattle.peek.specs.Bytes.{Bytes}
use Rattle.programme.specs.Machine.{Agree}
use Rattle.programme.specs.Table.{plain}
use Rattle.programme.proofs.Theorems.{agrees}
use Rattle.bench.specs.Call.{machine_of}
use Rattle.bench.proofs.Numbered.{numbered}
use Rattle.bench.proofs.Through.{table_refused, table_made, refused_call, table_call}
use Rattle.bench.proofs.call.bench.Goals as goal

pub returns-in-Refused : goal.returns-in-Refused
returns-in-Refused c =
    let g = refused_call c.args.sheet.now c.args.samples.now c.args.run c.args.out.now _ _ (table_refused _ _ _ _ _ c.in-Refused.ensures refl) in
    record { value = g.0; out_after = g.1; bench_numbered = numbered _ _ _ _ _ g.0 }

pub returns-in-Done : goal.returns-in-Done
returns-in-Done c =
    let s = c.args.sheet.now in
    let bytes : Bytes c.args.sheet.now = λ i. omega (arith, c.type_inv.sheet i) in
    let m = table_made c.args.sheet.now _ _ _ c.in-Done.ensures refl in
    let agree = subst (λ (t : List _). Agree (plain t) (machine_of c.args.sheet.now)) (sym m.1) (agrees c.args.sheet.now bytes m.0) in
    let g = table_call c.args.sheet.now _ _ _ _ _ _ m.0 agree c.bench_table.ensures in
    record { value = g.0; out_after = g.1; bench_numbered = numbered _ _ _ _ _ g.0 }
