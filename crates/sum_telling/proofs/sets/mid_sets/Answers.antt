-- `sum_telling::sets::mid_sets` meets its contract, word by word. Assumes nothing.
use Rattle.std.proofs.Common.{◌≡◌, ◌%◌, ◌<◌, ◌∙◌, lit<, arith}
use Rattle.lines.specs.Line.{line}
use Rattle.sum_telling.proofs.Mids.{with_source, pair_drives, none_at, all_at, word_mid, four_words}
use Rattle.sum_telling.proofs.sets.mid_sets.Goals as goal

pub returns : goal.returns
returns c = λ n hn.
    let k = n % 64 in
    let hk : n % 64 < 64 = omega arith in
    let h = c.args.h.now in
    let a = c.pair_set-a.ensures k hk ∙ pair_drives _ n k 0 1 _ _ (with_source n 0 hn (lit< tt)) (with_source n 1 hn (lit< tt)) in
    let b = c.pair_set-b.ensures k hk ∙ pair_drives _ n k 2 5 _ _ (with_source n 2 hn (lit< tt)) (with_source n 5 hn (lit< tt)) in
    let third = with_source n 3 hn (lit< tt) in
    let fourth = with_source n 4 hn (lit< tt) in
    let c₀ = λ (e : line n 6 ≡ 0). c.pair_set-c0.ensures k hk ∙ pair_drives _ n k 3 6 _ _ third (none_at n hn 6 e) in
    let c₁ = λ (e : line n 6 ≡ 1). c.pair_set-c1.ensures k hk ∙ pair_drives _ n k 3 6 _ _ third (all_at n hn 6 e) in
    let d₀ = λ (e : line n 7 ≡ 0). c.pair_set-d0.ensures k hk ∙ pair_drives _ n k 4 7 _ _ fourth (none_at n hn 7 e) in
    let d₁ = λ (e : line n 7 ≡ 1). c.pair_set-d1.ensures k hk ∙ pair_drives _ n k 4 7 _ _ fourth (all_at n hn 7 e) in
    let l₀ = c.lower_set.ensures k hk in
    let l₁ = c.lower_set-2.ensures k hk in
    let l₂ = c.lower_set-3.ensures k hk in
    let l₃ = c.lower_set-4.ensures k hk in
    four_words _ _ _ _ _ n hn
    (λ e. word_mid h n k _ _ _ _ _ _ _ _ _ a b (c₀ (omega (arith, e))) (d₀ (omega (arith, e))) l₀ l₁ l₂ l₃ (c.upper_set.ensures k))
    (λ e. word_mid h n k _ _ _ _ _ _ _ _ _ a b (c₁ (omega (arith, e))) (d₀ (omega (arith, e))) l₀ l₁ l₂ l₃ (c.upper_set-2.ensures k))
    (λ e. word_mid h n k _ _ _ _ _ _ _ _ _ a b (c₀ (omega (arith, e))) (d₁ (omega (arith, e))) l₀ l₁ l₂ l₃ (c.upper_set-3.ensures k))
    (λ e. word_mid h n k _ _ _ _ _ _ _ _ _ a b (c₁ (omega (arith, e))) (d₁ (omega (arith, e))) l₀ l₁ l₂ l₃ (c.upper_set-4.ensures k))
