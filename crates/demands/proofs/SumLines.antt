-- What tells two sums apart, over the answers of the model: a sum shows on a pattern of the sources what the model
-- answers over the chain words that the compiler writes for it, and nothing but a pattern tells two apart. Assumes
-- nothing.
use Prim.Native.Nat.{ℕ, ◌<◌}
use mathlib.Core.Path.{◌≡◌, refl, sym, ap, ◌∙◌}
use mathlib.Core.Bool.{Bool, true, false}
use mathlib.Core.List.{List}
use mathlib.Core.Logic.{◌↔◌}
use Rattle.lut.specs.declared.Input.{Input}
use Rattle.lut.specs.declared.Input.TheVariants.{Nothing, Sample, Samples, Sources}
use Rattle.lut.specs.Table.{one_if}
use Rattle.lut.specs.declared.Answer.{Answer}
use Rattle.lut.specs.Answer.{hit_or_miss, answer_hit}
use Rattle.lut.specs.Telling.{HitAlike, TellsApart}
use Rattle.lut.proofs.Asked.{one_inj}
use Rattle.lut.proofs.Runs.{run_needed}
use Rattle.sum.specs.Description.{from_bytes, words}
use Rattle.sum.specs.Words.{words_of}
use Rattle.sum.specs.Model.{sum_hit, run_sum}
use Rattle.sum.proofs.ReadingBack.{words_length}
use Rattle.kinds.specs.Table as table
use Rattle.kinds.specs.Table.{SUMS, shows_of}
use Rattle.kinds.proofs.Ways.{chains_flat}
use Rattle.compiler.specs.Chains.{chain_words_of}

-- what the model answers over a sum's chain words
abbrev pub answer_on : (d : List ℕ) (sources : ℕ) → Answer
answer_on d s = run_sum (chain_words_of SUMS d) s

hits : List ℕ → ℕ → Bool
hits d s = sum_hit (words_of (from_bytes d)) s

chain_words_law : (d : List ℕ) → chain_words_of SUMS d ≡ words_of (from_bytes d)
unfolding table.words_of table.kind_of words
chain_words_law d = chains_flat SUMS d

runs : (d : List ℕ) (s : ℕ) → answer_on d s ≡ hit_or_miss (hits d s)
unfolding hits
runs d s = ap (λ (ws : List ℕ). run_sum ws s) (chain_words_law d) ∙ run_needed 6 (words_of (from_bytes d)) (hits d s) (hits d s) (words_length (from_bytes d)) refl

shows : (d : List ℕ) (s : ℕ) → shows_of SUMS d (Sources s) ≡ one_if (hits d s)
unfolding shows_of table.kind_of hits
shows d s = refl

hit_number : (b : Bool) → answer_hit (hit_or_miss b) ≡ one_if b
hit_number true = refl
hit_number false = refl

-- a sum shows what the model answers over its chain words
pub shows_answer : (d : List ℕ) (s : ℕ) → shows_of SUMS d (Sources s) ≡ answer_hit (answer_on d s)
shows_answer d s = shows d s ∙ sym (hit_number (hits d s)) ∙ ap answer_hit (sym (runs d s))

-- two show the same exactly where it answers alike
pub same_answers : (d e : List ℕ) (s : ℕ) → (shows_of SUMS d (Sources s) ≡ shows_of SUMS e (Sources s)) ↔ (answer_on d s ≡ answer_on e s)
same_answers d e s = (
  (λ q. runs d s ∙ ap hit_or_miss (one_inj (hits d s) (hits e s) (sym (shows d s) ∙ q ∙ shows e s)) ∙ sym (runs e s)),
  (λ q. shows_answer d s ∙ ap answer_hit q ∙ sym (shows_answer e s)),
)

-- what tells two apart is a pattern
pub a_pattern : (d e : List ℕ) (i : Input) → TellsApart (shows_of SUMS d) (shows_of SUMS e) i → (s : ℕ) × (i ≡ Sources s)
unfolding shows_of table.kind_of
a_pattern d e Nothing t = absurd (t.tells refl)
a_pattern d e (Sample s) t = absurd (t.tells refl)
a_pattern d e (Samples earlier later) t = absurd (t.tells refl)
a_pattern d e (Sources s) t = (s, refl)

-- so two hit alike on every input if they do on every pattern
pub every_pattern : (d e : List ℕ) → ((s : ℕ) → s < 65536 → shows_of SUMS d (Sources s) ≡ shows_of SUMS e (Sources s)) → HitAlike (shows_of SUMS d) (shows_of SUMS e)
unfolding shows_of table.kind_of
every_pattern d e h Nothing f = refl
every_pattern d e h (Sample s) f = refl
every_pattern d e h (Samples earlier later) f = refl
every_pattern d e h (Sources s) f = h s f
