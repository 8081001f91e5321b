-- What is promised of sums. Assumes nothing.
use Prim.Native.Nat.{ℕ, ◌≤◌}
use mathlib.Core.Path.{◌≡◌, refl, ap, ◌∙◌}
use mathlib.Core.List.{List}
use mathlib.Core.Logic.{◌↔◌}
use Rattle.std.proofs.Common.{Option, Some, None}
use lib.ListN.{get_or}
use Rattle.lut.specs.Answer.{hit_or_miss}
use Rattle.lut.specs.Back.{Written}
use Rattle.lut.proofs.Runs.{run_needed}
use Rattle.sum.specs.Operation.{pair_ops, mid_ops, final_ops, op_word, Accepted}
use Rattle.sum.specs.Meaning.{two_means, first_half, second_half, sum_means}
use Rattle.sum.specs.Words.{words_of}
use Rattle.sum.specs.Model.{run_sum}
use Rattle.sum.specs.Back.{read_sum, read_number}
use Rattle.sum.proofs.Tables.{pairs, mids, finals, words_differ}
use Rattle.sum.proofs.Meanings.{sum_model}
use Rattle.sum.proofs.ReadingBack as back

-- over an accepted sum's words the model hits exactly when its operations do, as the rules mean them [W16, M8]
pub run_hits : (ops : List ℕ) → Accepted ops → (sources : ℕ) → run_sum (words_of ops) sources ≡ hit_or_miss (sum_means ops sources)
run_hits ops a s = run_needed 6 (words_of ops) _ _ (back.words_length ops) (sum_model ops s a.codes)

-- A as the final operation takes the first half and B the second, whatever the other half says [W16]
pub final_takes_one_half : (ops : List ℕ) → Accepted ops → (sources : ℕ)
    → (get_or ops 10 0 ≡ 8 → run_sum (words_of ops) sources ≡ hit_or_miss (first_half ops sources))
    × (get_or ops 10 0 ≡ 9 → run_sum (words_of ops) sources ≡ hit_or_miss (second_half ops sources))
final_takes_one_half ops a s = (by 8, by 9)
  where
    by : (code : ℕ) → get_or ops 10 0 ≡ code → run_sum (words_of ops) s ≡ hit_or_miss (two_means code (first_half ops s) (second_half ops s))
    by code e = run_hits ops a s ∙ ap (λ (c : ℕ). hit_or_miss (two_means c (first_half ops s) (second_half ops s))) e

-- each table has ten different words
pub operations_differ : (c d : ℕ) → c ≤ 9 → d ≤ 9
    → (op_word pair_ops c ≡ op_word pair_ops d → c ≡ d)
    × (op_word mid_ops c ≡ op_word mid_ops d → c ≡ d)
    × (op_word final_ops c ≡ op_word final_ops d → c ≡ d)
operations_differ c d hc hd = (
  words_differ pair_ops pairs c d hc hd,
  words_differ mid_ops mids c d hc hd,
  words_differ final_ops finals c d hc hd,
)

-- an accepted sum's words are read as its operations [C5, D2.5]
pub words_read_back : (ops : List ℕ) → Accepted ops → read_sum (words_of ops) ≡ Some ops
words_read_back ops a = back.read_written (words_of ops) ops (record { eleven = a.eleven; accepted = a.codes; written = refl })

-- words are refused unless an accepted sum writes them [C5, F16, D2.6]
pub accepted_iff_written : (words : List ℕ) → (read_sum words ≡ None → ⊥) ↔ Written Accepted words_of words
accepted_iff_written ws =
    let numbered = back.read_numbered ws (read_sum ws) (back.read_means ws) in
    (λ n. numbered.read.0 (unrefused (read_sum ws) n), λ w e. numbered.refused.0 (ap read_number e) w)
  where
    unrefused : (r : Option (List ℕ)) → (r ≡ None → ⊥) → read_number r ≡ 0
    unrefused (Some ops) n = refl
    unrefused None n = absurd (n refl)
