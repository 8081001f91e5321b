-- `bench_words` meets its contract: where the call is done, the words are a run's. Assumes nothing.
use Rattle.std.proofs.Common.{arith}
use Rattle.bench.proofs.Handing.{done_count}
use Rattle.bench.proofs.handed.bench_words.Goals as goal

pub copy_from_slice-requires : goal.copy_from_slice-requires
copy_from_slice-requires c =
    let five = done_count _ _ _ _ _ _ (rw c.run_of-handed.ensures at c.in-Done.ensures.value) in omega arith
