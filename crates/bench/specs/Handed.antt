-- A run in numbers, for C and Rust: five words.
use Rattle.std.specs.Prelude.{ℕ, Bool, false, cond, ◌&&◌, ◌||◌, List, [], ◌∷◌, Option, None, Some, eqb, ltb, length, get_or}
use Rattle.lut.specs.Table.{one_if}
use Rattle.bench.specs.declared.Run.{Run}
use Rattle.bench.specs.declared.Benched.{Benched}
use Rattle.bench.specs.declared.Benched.TheVariants.{Done, Refused}
use Rattle.buffer.specs.declared.Outcome.{Outcome}

-- whether words are a run's: five, each flag 0 or 1, and no earlier word where there is none [A13]
unfoldable pub is_run : (words : List ℕ) → Bool
is_run ws =
    eqb (length ws) 5
    && (ltb (get_or ws 2 0) 2 && ltb (get_or ws 4 0) 2 && (eqb (get_or ws 2 0) 1 || eqb (get_or ws 3 0) 0))

-- what stands for no run: its state is above 15, so that 24 refuses it, in its turn [A13, F24]
abbrev pub no_run : Run
no_run = record { state = 16; count = 0; earlier = None; ended = false }

-- the run of words: state, count, whether there is an earlier word, that word, whether it has ended [A13]
unfoldable pub run_of : (words : List ℕ) → Run
run_of ws =
    cond (is_run ws)
    (record {
      state = get_or ws 0 0;
      count = get_or ws 1 0;
      earlier = cond (eqb (get_or ws 2 0) 1) (Some (get_or ws 3 0)) None;
      ended = eqb (get_or ws 4 0) 1;
    })
    no_run

-- whether there is an earlier word, and that word, 0 where there is none [A13]
abbrev pub earlier_words : Option ℕ → List ℕ → List ℕ
earlier_words None rest = 0 ∷ 0 ∷ rest
earlier_words (Some w) rest = 1 ∷ w ∷ rest

-- the words of a run [A13]
abbrev pub words_of : Run → List ℕ
words_of r = r.state ∷ r.count ∷ earlier_words r.earlier (one_if r.ended ∷ [])

-- the words after a call: those of the run that is handed on; as they were after a refusal [A13, A2]
abbrev pub handed_by : Benched → (words : List ℕ) → List ℕ
handed_by (Done n r) words = words_of r
handed_by (Refused number place) words = words

-- the answer without the run: how many words were written, or the refusal [A5, A6, A13]
abbrev pub outcome_of : Benched → Outcome
outcome_of (Done n r) = Outcome.Done n
outcome_of (Refused number place) = Outcome.Refused number place
