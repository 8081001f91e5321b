-- `bench_table` meets its contract: the refusals in their order, then the walk. Assumes nothing.
use Rattle.std.proofs.Common.{sym}
use Rattle.bench.proofs.Standing.{accepted_stands}
use Rattle.bench.proofs.Calling.{refused_20, refused_24, looked, ended_looked, none_looked, from_first}
use Rattle.bench.proofs.call.bench_table.Goals as goal

pub returns-then-samples-gt-MOST_SAMPLES : goal.returns-then-samples-gt-MOST_SAMPLES
returns-then-samples-gt-MOST_SAMPLES c = refused_20 _ _ _ _ c.if-samples-gt-MOST_SAMPLES.true

pub returns-then-not-start_accepted : goal.returns-then-not-start_accepted
returns-then-not-start_accepted c = refused_24 _ _ _ _ c.if-samples-gt-MOST_SAMPLES.false (sym c.if-not-start_accepted.ensures)

pub returns-then-run : goal.returns-then-run
returns-then-run c =
    looked _ _ _ _ c.if-samples-gt-MOST_SAMPLES.false (sym c.if-not-start_accepted.ensures) _ _ (ended_looked _ _ _ _ c.if-run.true)

pub returns-in_default : goal.returns-in_default
returns-in_default c =
    looked _ _ _ _ c.if-samples-gt-MOST_SAMPLES.false (sym c.if-not-start_accepted.ensures) _ _ (none_looked _ _ _ _ c.in_default.ensures.value)

pub deliver-requires : goal.deliver-requires
deliver-requires c =
    let s = accepted_stands _ _ (sym c.if-not-start_accepted.ensures) in
    record { few = c.if-samples-gt-MOST_SAMPLES.false; state_fits = s.0; count_fits = s.1 }

pub returns : goal.returns
returns c =
    looked _ _ _ _ c.if-samples-gt-MOST_SAMPLES.false (sym c.if-not-start_accepted.ensures) _ _
    (from_first _ _ _ _ _ _ _ _ c.if-run.false c.in-Some.ensures.value c.unwrap_or.ensures c.deliver.ensures)
