-- The table of sections, read row by row: what holds of each kind of the table, and of the empty one, holds of every section number.
-- The bounds leave room for more sections. Assumes nothing.
use Prim.Native.Nat.{ℕ, zero, suc, ◌≤◌, ◌<◌}
use mathlib.Core.List.{List, [], ◌∷◌}
use mathlib.Core.Path.{◌≡◌}
use mathlib.Core.Bool.{Bool, true, ◌&&◌}
use Rattle.lines.proofs.Truth.{and_left, and_right}
use native.Mathlib.Decide.{dec_lt}
use native.Mathlib.Omega.{arith}
use lib.Dec.{T, eqb, leb, eqb→eq, leb→le}
use lib.ListN.{length, get_or, get_or-eq_default}
use Rattle.kinds.specs.Table.{Kind, kinds, no_kind, sections, kind_of, letter_of, most_of, description_size, chain_count, chain_length}

abbrev pub Each : (P : Kind → Type 0) → List Kind → Type 0
Each P [] = Unit
Each P (x ∷ xs) = P x × Each P xs

each_at : (P : Kind → Type 0) (xs : List Kind) → Each P xs → (k : ℕ) → k < length xs → P (get_or xs k no_kind)
each_at P [] e k h = absurd (omega arith)
each_at P (x ∷ xs) e zero h = e.0
each_at P (x ∷ xs) e (suc k) h = each_at P xs e.1 k (omega arith)

-- of a section that a sheet has
pub of_kind : (P : Kind → Type 0) → Each P kinds → (k : ℕ) → k < sections → P (kind_of k)
unfolding kind_of
of_kind P e k h = each_at P kinds e k h

-- of one that none has
pub past : (k : ℕ) → sections ≤ k → kind_of k ≡ no_kind
unfolding kind_of
past k h = get_or-eq_default kinds no_kind {n = k} h

-- of any
pub of_any : (P : Kind → Type 0) → Each P kinds → P no_kind → (k : ℕ) → P (kind_of k)
of_any P e n k =
    elim (dec_lt k sections) [
      | yes h ↦ of_kind P e k h
      | no h ↦ rw (past k (omega arith)) n
    ]

-- ---- the numbers of the table, by one computed test for each column

abbrev every : (Kind → Bool) → List Kind → Bool
every test [] = true
every test (x ∷ xs) = test x && every test xs

each_passes : (test : Kind → Bool) (xs : List Kind) → T (every test xs) → Each (λ x. T (test x)) xs
each_passes test [] t = tt
each_passes test (x ∷ xs) t = (and_left (test x) (every test xs) t, each_passes test xs (and_right (test x) (every test xs) t))

-- of every section, also one that no sheet has; of those that a sheet has
passes : (test : Kind → Bool) → T (every test (no_kind ∷ kinds)) → (k : ℕ) → T (test (kind_of k))
passes test t k = let p = each_passes test (no_kind ∷ kinds) t in of_any (λ x. T (test x)) p.1 p.0 k

pub at_most : (f : Kind → ℕ) (n : ℕ) → T (every (λ x. leb (f x) n) (no_kind ∷ kinds)) → (k : ℕ) → f (kind_of k) ≤ n
at_most f n t k = leb→le (f (kind_of k)) n (passes (λ x. leb (f x) n) t k)

pub always : (f : Kind → ℕ) (n : ℕ) → T (every (λ x. eqb (f x) n) (no_kind ∷ kinds)) → (k : ℕ) → f (kind_of k) ≡ n
always f n t k = eqb→eq (f (kind_of k)) n (passes (λ x. eqb (f x) n) t k)

pub at_least : (f : Kind → ℕ) (n : ℕ) → T (every (λ x. leb n (f x)) kinds) → (k : ℕ) → k < sections → n ≤ f (kind_of k)
at_least f n t k h = leb→le n (f (kind_of k)) (of_kind (λ x. T (leb n (f x))) (each_passes (λ x. leb n (f x)) kinds t) k h)

-- every number is small, with room for more
pub most_byte : (k : ℕ) → most_of k ≤ 255
unfolding most_of
most_byte = at_most (λ x. x.most) 255 tt

pub description_byte : (k : ℕ) → description_size k ≤ 255
unfolding description_size
description_byte = at_most (λ x. x.size) 255 tt

pub chains_few : (k : ℕ) → chain_count k ≤ 15
unfolding chain_count
chains_few = at_most (λ x. x.chains) 15 tt

pub chain_short : (k : ℕ) → chain_length k ≤ 32
unfolding chain_length
chain_short = at_most (λ x. x.each) 32 tt

-- every section may have a record, and a record a description
pub most_positive : (k : ℕ) → k < sections → 0 < most_of k
unfolding most_of
most_positive = at_least (λ x. x.most) 1 tt

pub size_positive : (k : ℕ) → k < sections → 0 < description_size k
unfolding description_size
size_positive = at_least (λ x. x.size) 1 tt

-- a section's letter may stand in a label
pub letter_plain : (k : ℕ) → k < sections → (0x20 ≤ letter_of k) × (letter_of k ≤ 0x7E)
unfolding letter_of
letter_plain k h = (at_least (λ x. x.letter) 0x20 tt k h, at_most (λ x. x.letter) 0x7E tt k)
