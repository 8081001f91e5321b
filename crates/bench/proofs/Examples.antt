-- Steps and runs worked out over a machine made by hand: its samples say themselves which sums match. Then the refusals
-- in their order, and a run in words. All computed. Assumes nothing.
use Prim.Native.Nat.{ℕ, ◌+◌, ◌*◌, ◌^◌}
use mathlib.Core.Path.{◌≡◌, refl}
use mathlib.Core.Bool.{true, false}
use mathlib.Core.List.{List, [], ◌∷◌, map}
use Rattle.std.proofs.Common.{None, Some}
use lib.Dec.{eqb}
use lib.ListN.{get_or, drop, replicate}
use Rattle.lut.specs.Table.{one_if}
use Rattle.programme.specs.Machine.{Machine}
use Rattle.bench.specs.declared.Run.{Run}
use Rattle.bench.specs.declared.Benched.TheVariants.{Done, Refused}
use Rattle.lines.specs.Line.{line}
use Rattle.bench.specs.Run.{number_of, fresh, after_hit, moved, step, takes, next, captures, handed_on, taken, start_accepted}
use Rattle.bench.specs.Call.{delivered, answered}
use Rattle.bench.specs.Handed.{is_run, run_of, words_of}
use Rattle.bench.specs.Walk.{run_from}

-- the words of the states: flags in the two highest digits, else state in the next, number in the lower five [R5, S15]
pub states : List ℕ
states =
    0x00500000
    ∷ 0x00100001
    ∷ 0x40900003
    ∷ 0x80200002
    ∷ 0x7FB00001
    ∷ 0x00FFFFFF
    ∷ 1
    ∷ 1
    ∷ 1
    ∷ 1
    ∷ 1
    ∷ 1
    ∷ 1
    ∷ 1
    ∷ 1
    ∷ 0x00C00001
    ∷ []

-- the sum in slot i matches on a sample with line i set
pub by_hand : Machine
by_hand =
    record { sources = λ earlier sample. sample; matches = λ slot sources. eqb (line sources slot) 1; word = λ state. get_or states state 0 }

-- a sample on which one sum of a state matches: its hit sum, its else sum, its capture sum [R4]
pub hit : (state : ℕ) → ℕ
hit state = 2 ^ (3 * state)

pub other : (state : ℕ) → ℕ
other state = 2 ^ (3 * state + 1)

pub capture : (state : ℕ) → ℕ
capture state = 2 ^ (3 * state + 2)

-- ---- steps

-- what a row's state, count and sample lead to: state, count, whether the run has ended, whether the sample is taken
pub reached : (row : List ℕ) → List ℕ
reached row =
    let r = run_from (get_or row 0 0) (get_or row 1 0) 0 in
    let x = get_or row 2 0 in
    let n = next by_hand r x in
    n.state ∷ n.count ∷ one_if n.ended ∷ one_if (captures by_hand r x) ∷ []

-- state, count and sample, and then what they lead to
pub rows : List (List ℕ)
rows =
    -- a number of 0 counts as 1, a number of 1 is met at once, one of 3 is counted to [R5, R7]
    (0 ∷ 0 ∷ hit 0 ∷ 1 ∷ 0 ∷ 0 ∷ 0 ∷ [])
    ∷ (1 ∷ 0 ∷ hit 1 ∷ 2 ∷ 0 ∷ 0 ∷ 0 ∷ [])
    ∷ (2 ∷ 0 ∷ hit 2 ∷ 2 ∷ 1 ∷ 0 ∷ 0 ∷ [])
    ∷ (2 ∷ 1 ∷ hit 2 ∷ 2 ∷ 2 ∷ 0 ∷ 0 ∷ [])
    -- bit 30 does not end a run, nor does any flag but bit 31 [R5, R9]
    ∷ (2 ∷ 2 ∷ hit 2 ∷ 3 ∷ 0 ∷ 0 ∷ 0 ∷ [])
    ∷ (4 ∷ 0 ∷ hit 4 ∷ 5 ∷ 0 ∷ 0 ∷ 0 ∷ [])
    -- bit 31 does, once the number is reached; the state stays, and capture has its say [R9]
    ∷ (3 ∷ 0 ∷ hit 3 ∷ 3 ∷ 1 ∷ 0 ∷ 0 ∷ [])
    ∷ (3 ∷ 1 ∷ (hit 3 + capture 3) ∷ 3 ∷ 0 ∷ 1 ∷ 1 ∷ [])
    -- a number of twenty bits [S15]
    ∷ (5 ∷ 0xFFFFD ∷ hit 5 ∷ 5 ∷ 0xFFFFE ∷ 0 ∷ 0 ∷ [])
    ∷ (5 ∷ 0xFFFFE ∷ hit 5 ∷ 6 ∷ 0 ∷ 0 ∷ 0 ∷ [])
    -- the else sum leads to the else state and clears the count [R8]
    ∷ (0 ∷ 0 ∷ other 0 ∷ 5 ∷ 0 ∷ 0 ∷ 0 ∷ [])
    ∷ (2 ∷ 2 ∷ other 2 ∷ 9 ∷ 0 ∷ 0 ∷ 0 ∷ [])
    ∷ (3 ∷ 1 ∷ other 3 ∷ 2 ∷ 0 ∷ 0 ∷ 0 ∷ [])
    ∷ (4 ∷ 0 ∷ other 4 ∷ 11 ∷ 0 ∷ 0 ∷ 0 ∷ [])
    ∷ (5 ∷ 7 ∷ other 5 ∷ 15 ∷ 0 ∷ 0 ∷ 0 ∷ [])
    -- the hit sum is looked at first [R7]
    ∷ (0 ∷ 0 ∷ (hit 0 + other 0) ∷ 1 ∷ 0 ∷ 0 ∷ 0 ∷ [])
    ∷ (2 ∷ 1 ∷ (hit 2 + other 2) ∷ 2 ∷ 2 ∷ 0 ∷ 0 ∷ [])
    -- where neither matches all stays, whatever another state's sums say [R8]
    ∷ (2 ∷ 1 ∷ 0 ∷ 2 ∷ 1 ∷ 0 ∷ 0 ∷ [])
    ∷ (2 ∷ 1 ∷ (hit 1 + other 3 + capture 0) ∷ 2 ∷ 1 ∷ 0 ∷ 0 ∷ [])
    -- capture takes by the state before the step, and moves nothing [R6]
    ∷ (0 ∷ 0 ∷ capture 0 ∷ 0 ∷ 0 ∷ 0 ∷ 1 ∷ [])
    ∷ (0 ∷ 0 ∷ (hit 0 + capture 0) ∷ 1 ∷ 0 ∷ 0 ∷ 1 ∷ [])
    ∷ (0 ∷ 0 ∷ (hit 0 + capture 1) ∷ 1 ∷ 0 ∷ 0 ∷ 0 ∷ [])
    -- state 15 ends the run without the flag, and branches as others do [R9]
    ∷ (14 ∷ 0 ∷ hit 14 ∷ 15 ∷ 0 ∷ 0 ∷ 0 ∷ [])
    ∷ (15 ∷ 0 ∷ hit 15 ∷ 15 ∷ 0 ∷ 1 ∷ 0 ∷ [])
    ∷ (15 ∷ 0 ∷ other 15 ∷ 12 ∷ 0 ∷ 0 ∷ 0 ∷ [])
    ∷ []

pub steps_hold : map reached rows ≡ map (drop 3) rows
unfolding states by_hand hit other capture reached rows number_of after_hit moved step takes
steps_hold = refl

-- ---- runs

-- up to the end, and a sample behind it that nobody looks at
pub samples : List ℕ
samples = capture 0 ∷ hit 0 ∷ (hit 1 + capture 1) ∷ hit 2 ∷ hit 2 ∷ (hit 2 + capture 3) ∷ hit 3 ∷ (hit 3 + capture 3) ∷ capture 3 ∷ []

-- what is taken of it, and the run that is handed on, in words [R6, R9, R10]
pub run_takes : taken by_hand fresh samples ≡ capture 0 ∷ (hit 1 + capture 1) ∷ (hit 3 + capture 3) ∷ []
unfolding states by_hand hit other capture samples number_of after_hit moved step takes taken
run_takes = refl

pub run_ends : words_of (handed_on by_hand fresh samples) ≡ 3 ∷ 0 ∷ 1 ∷ (hit 3 + capture 3) ∷ 1 ∷ []
unfolding states by_hand hit other capture samples number_of after_hit moved step takes handed_on
run_ends = refl

-- a machine whose sums see the earlier word alone: the first sample of all is its own, the others have the one before
-- [R3]
pub by_earlier : Machine
by_earlier = record { sources = λ earlier sample. earlier; matches = λ slot sources. eqb (line sources slot) 1; word = λ state. 1 }

pub first_is_its_own : taken by_earlier fresh (4 ∷ 0 ∷ 8 ∷ 12 ∷ 16 ∷ []) ≡ 4 ∷ 0 ∷ 16 ∷ []
unfolding by_earlier number_of after_hit moved step takes taken
first_is_its_own = refl

-- ---- refusals

-- a run that may not be handed in
pub bad : Run
bad = record { state = 16; count = 0; earlier = None; ended = false }

-- 20 before 24 before 12, of too many samples in a run that cannot be, without room; and room for what is taken [O8]
pub refusals_in_turn : answered by_hand (replicate 4097 (capture 0)) bad 0
    ∷ answered by_hand (capture 0 ∷ []) bad 0
    ∷ answered by_hand (capture 0 ∷ []) fresh 0
    ∷ answered by_hand (0 ∷ []) fresh 0
    ∷ []
    ≡ Refused 20 4096 ∷ Refused 24 0 ∷ Refused 12 1 ∷ Done 0 (run_from 0 0 0) ∷ []
unfolding states by_hand bad hit other capture number_of after_hit moved step takes handed_on taken start_accepted delivered answered
refusals_in_turn = refl

-- a count is below the number of its state, where 0 counts as 1; an ended run is judged too [F24]
pub starts : map (λ (r : Run). one_if (start_accepted by_hand r))
    (run_from 0 0 0 ∷ run_from 0 1 0 ∷ run_from 2 2 0 ∷ run_from 2 3 0 ∷ record { state = 3; count = 2; earlier = None; ended = true } ∷ run_from 15 0 0 ∷ bad ∷ [])
    ≡ 1 ∷ 0 ∷ 1 ∷ 0 ∷ 0 ∷ 1 ∷ 0 ∷ []
unfolding states by_hand bad number_of start_accepted
starts = refl

-- ---- a run in words

-- state, count, whether there is an earlier word, that word, whether it has ended [A13]
pub words_in_order : (words_of (record { state = 3; count = 7; earlier = Some 9; ended = true }) ≡ 3 ∷ 7 ∷ 1 ∷ 9 ∷ 1 ∷ [])
    × (words_of (record { state = 3; count = 7; earlier = None; ended = false }) ≡ 3 ∷ 7 ∷ 0 ∷ 0 ∷ 0 ∷ [])
words_in_order = (refl, refl)

pub words_are_read : run_of (3 ∷ 7 ∷ 1 ∷ 9 ∷ 1 ∷ []) ≡ record { state = 3; count = 7; earlier = Some 9; ended = true }
unfolding is_run run_of
words_are_read = refl
