-- How the body asks a table: a sample's sources from the highest down, and its sums at addresses that are made once.
use Rattle.std.specs.Prelude.{ℕ, ◌+◌, ◌-◌, ◌*◌, ◌/◌, ◌%◌, Bool, List, eqb, get_or}
use Rattle.lines.specs.Line.{from_lines}
use Rattle.lut.specs.Table.{answer_at, high, low, one_if}
use Rattle.sum.specs.Model.{first_pairs, last_pairs, pair_address}
use Rattle.programme.specs.Machine.{source_by}
use Rattle.programme.specs.Table.{term_at, range_at, edge_at}

-- source i on an earlier word and a sample, 1 or 0 [M6, R2, R11]
unfoldable pub source_at : (table : List ℕ) (earlier sample i : ℕ) → ℕ
source_at t e s = source_by (λ i. one_if (term_at t s i)) (λ i. one_if (range_at t s i)) (λ i. one_if (edge_at t e s i))

-- the sources from i to 15, source i at bit 0; computed [M6, B6]
abbrev pub sources_from : (table : List ℕ) (earlier sample i : ℕ) → ℕ
sources_from t e s i = from_lines (16 - i) (λ j. source_at t e s (j + i))

-- where a pair's table is asked, shut, so that its bound is all that is seen of it [M7]
unfoldable pub address_at : (sources a b : ℕ) → ℕ
address_at s a b = pair_address s a b

-- the addresses of four pairs, four bits each, the first lowest; computed [M7, B6]
abbrev pub four_of : (sources : ℕ) (pairs : List ℕ) → ℕ
four_of s pairs =
    address_at s (get_or pairs 0 0) (get_or pairs 1 0)
    + 16 * (address_at s (get_or pairs 2 0) (get_or pairs 3 0)
    + 16 * (address_at s (get_or pairs 4 0) (get_or pairs 5 0) + 16 * address_at s (get_or pairs 6 0) (get_or pairs 7 0)))

-- those of the first four pairs in the low half, of the last four in the high half, for all sums of a sample; computed
-- [M6, M7, B6]
unfoldable pub addresses_of : (sources : ℕ) → ℕ
addresses_of s = four_of s first_pairs + 65536 * four_of s last_pairs

-- the inputs of a mid: the four pairs whose tables two words have, asked at the lowest four addresses [M8]
unfoldable pub inputs_at : (first second addresses : ℕ) → ℕ
inputs_at v w x =
    answer_at (low v) (x % 16)
    + 2 * answer_at (high v) (x / 16 % 16)
    + 4 * answer_at (low w) (x / 256 % 16)
    + 8 * answer_at (high w) (x / 4096 % 16)

-- whether a sum matches that is asked at the addresses; computed [M8, R4, B6]
unfoldable pub sum_asked : List ℕ → (addresses : ℕ) → Bool
sum_asked w x =
    eqb
    (answer_at (low (get_or w 0 0))
    (answer_at (low (get_or w 1 0)) (inputs_at (get_or w 5 0) (get_or w 4 0) x)
    + 2 * answer_at (high (get_or w 1 0)) (inputs_at (get_or w 3 0) (get_or w 2 0) (x / 65536))))
    1
