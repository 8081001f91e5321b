-- What the operations mean, from the words and truth tables of the source document and not from the operation words.
-- Where a figure and the listing there differ, the listing holds; the final A and B are the buyer's own [W15].
use Rattle.std.specs.Prelude.{ℕ, ◌+◌, Bool, true, false, not, ◌||◌, List, [], ◌∷◌, eqb, length, get_or}
use Rattle.lines.specs.Line.{line}
use Rattle.lut.specs.Table.{one_if}
use Rattle.sum.specs.Model.{first_pairs, last_pairs}

-- how many inputs are 1 [W16]
abbrev pub how_many : List Bool → ℕ
how_many [] = 0
how_many (x ∷ inputs) = one_if x + how_many inputs

-- AND: every input is 1 [W16]
abbrev pub every_input : List Bool → Bool
every_input inputs = eqb (how_many inputs) (length inputs)

-- OR: one or more inputs are 1 [W16]
abbrev pub some_input : List Bool → Bool
some_input inputs = not (eqb (how_many inputs) 0)

-- XOR: exactly one input is 1, which for four inputs is not odd parity [W16]
abbrev pub one_input : List Bool → Bool
one_input inputs = eqb (how_many inputs) 1

-- an operation by its code: never, always, AND, NAND, OR, NOR, XOR, NXOR, and what a stage calls A and B [W16]
abbrev pub op_means : (code : ℕ) (inputs : List Bool) (a b : Bool) → Bool
op_means code inputs a b =
    get_or
    (false
    ∷ true
    ∷ every_input inputs
    ∷ not (every_input inputs)
    ∷ some_input inputs
    ∷ not (some_input inputs)
    ∷ one_input inputs
    ∷ not (one_input inputs)
    ∷ a
    ∷ b
    ∷ [])
    code
    false

-- an operation of two inputs, a pair's sources or the mids: A is the first and B the second, whatever the other is [W16]
abbrev pub two_means : (code : ℕ) (a b : Bool) → Bool
two_means code a b = op_means code (a ∷ b ∷ []) a b

-- a mid's operation over four pairs: A is one or both of the first two, B one or both of the last two [W16]
abbrev pub mid_means : (code : ℕ) (p q r s : Bool) → Bool
mid_means code p q r s = op_means code (p ∷ q ∷ r ∷ s ∷ []) (p || q) (r || s)

-- source i is 1 [M6]
abbrev pub is_on : (sources i : ℕ) → Bool
is_on sources i = eqb (line sources i) 1

-- a mid operation over four pair operations, with their sources at the given places [M6, M8]
abbrev pub group_means : (places : List ℕ) (sources mid : ℕ) (pair1 pair2 pair3 pair4 : ℕ) → Bool
group_means places s mid p q r t =
    mid_means mid (two_means p (is_on s (get_or places 0 0)) (is_on s (get_or places 1 0))) (two_means q (is_on s (get_or places 2 0)) (is_on s (get_or places 3 0)))
    (two_means r (is_on s (get_or places 4 0)) (is_on s (get_or places 5 0))) (two_means t (is_on s (get_or places 6 0)) (is_on s (get_or places 7 0)))

-- the first half of a sum: mid1 over the pairs ab, c, d and e [S6, M8, W16]
abbrev pub first_half : (ops : List ℕ) (sources : ℕ) → Bool
first_half b s = group_means first_pairs s (get_or b 8 0) (get_or b 0 0) (get_or b 1 0) (get_or b 2 0) (get_or b 3 0)

-- the second half: mid2 over the pairs fg, h, i and j [S6, M8, W16]
abbrev pub second_half : (ops : List ℕ) (sources : ℕ) → Bool
second_half b s = group_means last_pairs s (get_or b 9 0) (get_or b 4 0) (get_or b 5 0) (get_or b 6 0) (get_or b 7 0)

-- when a sum hits by the meanings of its operations; theorem sum_model has it that its words do the same [M8, W16]
abbrev pub sum_means : (ops : List ℕ) (sources : ℕ) → Bool
sum_means b s = two_means (get_or b 10 0) (first_half b s) (second_half b s)
