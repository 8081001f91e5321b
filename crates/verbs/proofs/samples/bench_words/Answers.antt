-- `bench_words` meets its contract: a fresh run over the words. Assumes nothing.
use Rattle.std.proofs.Common.{arith, refl, sym, ◌∙◌}
use Rattle.std.proofs.lemmas.Grind.{common_steps}
use Rattle.std.proofs.lemmas.List.{length-take-le}
use Rattle.bench.proofs.Succeeding.{sheet_accepted}
use Rattle.verbs.proofs.Benching.{words_count, refused_as_its_sheet, run_fits, run_takes}
use Rattle.verbs.proofs.samples.bench_words.Goals as goal

pub slice_bounds-taken-end : goal.slice_bounds-taken-end
slice_bounds-taken-end c = omega (arith, run_fits _ _ _ _ _ _ c.run_words.ensures.value c.in-Done.is, c.run_words.auto.taken)

pub slice_bounds-put_numbers-end : goal.slice_bounds-put_numbers-end
slice_bounds-put_numbers-end c =
    sym (length-take-le _ _ (omega (arith, run_fits _ _ _ _ _ _ c.run_words.ensures.value c.in-Done.is, c.run_words.auto.taken)))

pub returns-in-Refused : goal.returns-in-Refused
returns-in-Refused c =
    let count = words_count c.args.count 0 c.args.words.now in
    let refused = refused_as_its_sheet _ _ _ _ _ (omega (arith, count, c.requires.count_le_most_samples)) refl
    (sym c.run_words.ensures.value ∙ c.in-Refused.is) in
    grind (arith, common_steps)

pub returns-in-Done : goal.returns-in-Done
returns-in-Done c =
    let accepted = sheet_accepted _ _ _ _ _ _ (sym c.run_words.ensures.value ∙ c.in-Done.is) in
    let takes = run_takes _ _ _ _ _ _ _ c.run_words.ensures.value c.run_words.ensures.taken_after c.in-Done.is in
    grind (arith, common_steps)
