-- A file of samples.
use Rattle.std.specs.Prelude.{ℕ, ◌/◌, List, ltb, length}
use Rattle.peek.specs.Fields.{fields_from, field_bytes}
use Rattle.buffer.specs.Verdict.{refuse_if}
use Rattle.buffer.specs.declared.Verdict.{Verdict}
use Rattle.bench.specs.Call.{most_samples, machine_of}
use Rattle.bench.specs.Run.{fresh, taken}

-- the samples of a file: its whole words, least byte first [T5, B3]
unfoldable pub words_in : (bytes : List ℕ) → List ℕ
words_in bs = fields_from (length bs / 4) 0 bs

-- more samples than a call of the bench takes are refused [T5, F20]
abbrev pub samples_verdict : (words : List ℕ) → Verdict
samples_verdict ws = refuse_if (ltb most_samples (length ws)) 20 most_samples

-- what capture takes of samples in a fresh run, as the words of a file [T5, R6, R10]
unfoldable pub taken_bytes : (sheet words : List ℕ) → List ℕ
taken_bytes s ws = field_bytes (taken (machine_of s) fresh ws)
