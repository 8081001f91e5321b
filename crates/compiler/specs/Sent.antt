-- Where the commands of a record stand in a stream.
use Rattle.std.specs.Prelude.{ℕ, ◌+◌, ◌≤◌, List, [], ◌≡◌, length, get_or, take, drop}
use Rattle.records.specs.Sections.{description_of}
use Rattle.kinds.specs.Table.{lengths_of}
use Rattle.sheet.specs.Parsed.{parse}
use Rattle.compiler.specs.Items.{item_size}
use Rattle.compiler.specs.Chains.{loaded_of, commands_of, chain_words_of, words_read}
use Rattle.compiler.specs.Stream.{stream_of}

-- record i of section k of a sheet [S12]
abbrev pub record_of : (sheet : List ℕ) (k i : ℕ) → List ℕ
record_of sheet k i = get_or (get_or (parse sheet) k []) i []

-- the item of record r of section k stands at a place in a stream, and its chain words are read there [G13, D2.1]
pub record SentAt (stream : List ℕ) (k : ℕ) (r : List ℕ) : Type 0 where
  pub place : ℕ
  pub within : place + item_size k ≤ length stream
  pub there : take (item_size k) (drop place stream) ≡ commands_of (loaded_of k r)
  pub words : words_read (lengths_of k) (drop place stream) ≡ chain_words_of k (description_of r)

-- the words that are read where the item of record i stands in a sheet's stream [G4, D2.2, D2.3, D2.4]
abbrev pub stream_words : (sheet : List ℕ) (k i : ℕ) → SentAt (stream_of (parse sheet)) k (record_of sheet k i) → List ℕ
stream_words sheet k i there = words_read (lengths_of k) (drop there.place (stream_of (parse sheet)))
