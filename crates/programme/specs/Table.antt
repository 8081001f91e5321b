-- The table that a bench works with, made once from a sheet: for each section and each slot an entry of a few numbers,
-- by which the plain rules are asked. Nothing here has to be believed: theorem `agrees` has it that a machine that
-- looks answers up in the table of an accepted sheet is the sheet's programme run through its chain words.
use Rattle.std.specs.Prelude.{ℕ, zero, suc, ◌+◌, ◌*◌, Bool, ◌&&◌, List, [], ◌∷◌, ◌++◌, eqb, leb, get_or}
use Rattle.std.specs.Int.Bits.{bit_and}
use Rattle.lut.specs.Table.{one_if}
use Rattle.edge.specs.Rule.{edge_hit}
use Rattle.sum.specs.Model.{sum_hit}
use Rattle.buffer.specs.Room.{Reply, unless}
use Rattle.kinds.specs.Table.{sections, most_of, entry_of, missing_of}
use Rattle.records.specs.Sections.{description_of}
use Rattle.records.specs.Records.{find}
use Rattle.sheet.specs.Reading.{verdict}
use Rattle.sheet.specs.Parsed.{parse}
use Rattle.programme.specs.Machine.{Machine, sources_by}

-- the entry of a record of section k, and that of no record [R11, B7]
unfoldable pub entry_for : (k : ℕ) (r : List ℕ) → List ℕ
entry_for k [] = missing_of k
entry_for k (b ∷ bs) = entry_of k (description_of (b ∷ bs))

-- the entries of n slots of section k from `slot` on, of these records [R11]
unfoldable pub entries_from : (n slot k : ℕ) (rs : List (List ℕ)) → List ℕ
entries_from zero slot k rs = []
entries_from (suc n) slot k rs = entry_for k (find slot rs) ++ entries_from n (slot + 1) k rs

-- the entries of n sections from section k on, one behind the other [R11]
unfoldable pub table_from : (n k : ℕ) (p : List (List (List ℕ))) → List ℕ
table_from zero k p = []
table_from (suc n) k p = entries_from (most_of k) 0 k (get_or p k []) ++ table_from n (k + 1) p

-- the table of a sheet that is taken apart [R11]
unfoldable pub table_of : (p : List (List (List ℕ))) → List ℕ
table_of p = table_from sections 0 p

-- how many numbers it has: 10 * 2 + 2 * 3 + 2 * 3 + 48 * 6 + 16; theorem table_length_law [R11]
abbrev pub table_length : ℕ
table_length = 336

-- a sheet's refusal, else its table [R11, A2, O7]
abbrev pub prepared : (sheet : List ℕ) → Reply
prepared s = unless (verdict s) (table_of (parse s))

-- ---- the machine that looks its answers up

-- number i of a table, 0 past its end [B4]
abbrev pub at : (table : List ℕ) (i : ℕ) → ℕ
at t i = get_or t i 0

-- the term in slot i, from number 0 on: the sample cut to the mask is the cut target [P2, R11]
abbrev pub term_at : (table : List ℕ) (sample i : ℕ) → Bool
term_at t s i = eqb (bit_and s (at t (2 * i + 1))) (at t (2 * i))

-- a range by its bounds on the masked lines: masked samples are in the order of the numbers gathered from them [P5, R11]
abbrev pub spread_hit : (low high mask sample : ℕ) → Bool
spread_hit low high mask s = leb low (bit_and s mask) && leb (bit_and s mask) high

-- the range in slot i, from number 20 on [R11]
abbrev pub range_at : (table : List ℕ) (sample i : ℕ) → Bool
range_at t s i = spread_hit (at t (20 + 3 * i)) (at t (21 + 3 * i)) (at t (22 + 3 * i)) s

-- the edge in slot i, from number 26 on [P8, R11]
abbrev pub edge_at : (table : List ℕ) (earlier sample i : ℕ) → Bool
edge_at t e s i = edge_hit (at t (26 + 3 * i)) (at t (27 + 3 * i)) (at t (28 + 3 * i)) e s

-- six numbers from an index on: a sum's words [R11]
unfoldable pub six_at : (table : List ℕ) (i : ℕ) → List ℕ
six_at t i = at t i ∷ at t (i + 1) ∷ at t (i + 2) ∷ at t (i + 3) ∷ at t (i + 4) ∷ at t (i + 5) ∷ []

-- the machine of a table: sources by the plain rules, sums from number 32 on, states from 320 on [R11]
unfoldable pub plain : (table : List ℕ) → Machine
plain t =
    record {
      sources = λ earlier sample. sources_by (λ i. one_if (term_at t sample i)) (λ i. one_if (range_at t sample i)) (λ i. one_if (edge_at t earlier sample i));
      matches = λ slot sources. sum_hit (six_at t (32 + 6 * slot)) sources;
      word = λ state. at t (320 + state);
    }
