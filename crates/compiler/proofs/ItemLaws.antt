-- Laws of the items of a stream: how many words and bytes each has, that its words fit 32 bits, and that the addresses rise
-- from item to item in sending order. What holds of a section is shown once for the table of kinds. Assumes nothing.
use Prim.Native.Nat.{ℕ, zero, suc, ◌+◌, ◌*◌, ◌-◌, ◌≤◌, ◌<◌, ◌^◌}
use mathlib.Core.Path.{◌≡◌, refl, sym, ap, ap₂, ◌∙◌}
use mathlib.Core.List.{List, [], ◌∷◌, ◌++◌, map}
use native.Mathlib.Decide.{dec_lt}
use native.Mathlib.Omega.{arith}
use native.Mathlib.Nat.{zero-mul, add-zero, sub-zero, sub_self, add_assoc, mul-le-mul_right}
use lib.Dec.{lit<}
use lib.Seq.{drop-drop, length-take-le}
use lib.ListN.{length, get_or, take, drop, replicate, length-append, length-drop}
use Rattle.command.specs.Command.{chain, Words}
use Rattle.command.proofs.Written.{length_chain}
use Rattle.records.specs.Sections.{sections, kind_of, most_of, slot_of, description_of}
use Rattle.records.proofs.Bounds.{times, one_more}
use Rattle.kinds.specs.Table.{words_of, chain_count, chain_length, pieces}
use Rattle.kinds.proofs.Rows.{past, at_most}
use Rattle.kinds.proofs.Ways as ways
pub use Rattle.kinds.proofs.Ways.{chains_lengths}
use Rattle.compiler.specs.Items.{address_of, lengths_of, chains_of, size_of, item_size}
use Rattle.compiler.proofs.Joined.{chains_from, item}

-- ---- words

pieces_fit : (lengths ws : List ℕ) → Words ws → (i : ℕ) → Words (get_or (pieces lengths ws) i [])
unfolding pieces
pieces_fit [] ws h i = λ j. lit< tt
pieces_fit (n ∷ ns) ws h zero = λ j. take_fits n ws h j
  where
    take_fits : (n : ℕ) (ws : List ℕ) → Words ws → (j : ℕ) → get_or (take n ws) j 0 < 2 ^ 32
    take_fits zero ws h j = lit< tt
    take_fits (suc n) [] h j = lit< tt
    take_fits (suc n) (w ∷ ws) h zero = h 0
    take_fits (suc n) (w ∷ ws) h (suc j) = take_fits n ws (λ i. h (suc i)) j
pieces_fit (n ∷ ns) ws h (suc i) = pieces_fit ns (drop n ws) (λ j. drop_fits n ws h j) i
  where
    drop_fits : (n : ℕ) (ws : List ℕ) → Words ws → (j : ℕ) → get_or (drop n ws) j 0 < 2 ^ 32
    drop_fits zero ws h j = h j
    drop_fits (suc n) [] h j = lit< tt
    drop_fits (suc n) (w ∷ ws) h j = drop_fits n ws (λ i. h (suc i)) j

pub words_fit : (k : ℕ) (d : List ℕ) (i : ℕ) → Words (get_or (chains_of k d) i [])
unfolding chains_of
words_fit k d = pieces_fit (lengths_of k) (words_of k d) (ways.words_fit k d)

-- ---- bytes

pub chains_length : (address : ℕ) (chains : List (List ℕ)) → length (chains_from address chains) ≡ size_of (map length chains)
unfolding chains_from size_of
chains_length address [] = refl
chains_length address (words ∷ more) =
    length-append (chain address words) (chains_from (address + 1) more)
    ∙ ap₂ ◌+◌ (length_chain address words) (chains_length (address + 1) more)

pub item_length : (k : ℕ) (r : List ℕ) → length (item k r) ≡ item_size k
unfolding item item_size
item_length k r = chains_length (address_of k (slot_of r)) (chains_of k (description_of r)) ∙ ap size_of (chains_lengths k (description_of r))

-- so many chains of as many words each
pub size_chains : (c n : ℕ) → size_of (replicate c n) ≡ c * (5 + 5 * n)
unfolding size_of
size_chains zero n = let z : 0 ≡ 0 * (5 + 5 * n) = sym (zero-mul (5 + 5 * n)) in z
size_chains (suc c) n = ap (λ (x : ℕ). 5 + 5 * n + x) (size_chains c n) ∙ sym (times c (5 + 5 * n))

pub item_size_law : (k : ℕ) → item_size k ≡ chain_count k * (5 + 5 * chain_length k)
unfolding item_size lengths_of
item_size_law k = size_chains (chain_count k) (chain_length k)

-- no item is long
pub item_bound : (k : ℕ) → item_size k ≤ 1024
unfolding item_size lengths_of chain_count chain_length size_of
item_bound = at_most (λ x. size_of (replicate x.chains x.each)) 1024 tt

-- what is sent for words that lie in longer room
pub pieces_front : (c n : ℕ) (ws more : List ℕ) → length ws ≡ c * n → pieces (replicate c n) (ws ++ more) ≡ pieces (replicate c n) ws
unfolding pieces
pieces_front zero n ws more l = refl
pieces_front (suc c) n ws more l =
    let e : length ws ≡ n + c * n = omega arith in
    ap₂ (λ (x : List ℕ) (xs : List (List ℕ)). x ∷ xs) (take_front n ws more (omega arith))
    (ap (pieces (replicate c n)) (drop_front n ws more (omega arith)) ∙ pieces_front c n (drop n ws) more (omega (arith, length-drop n ws)))
  where
    take_front : (n : ℕ) (ws more : List ℕ) → n ≤ length ws → take n (ws ++ more) ≡ take n ws
    take_front zero ws more h = refl
    take_front (suc n) [] more h = absurd (omega arith)
    take_front (suc n) (w ∷ ws) more h = ap (λ (xs : List ℕ). w ∷ xs) (take_front n ws more (omega arith))

    drop_front : (n : ℕ) (ws more : List ℕ) → n ≤ length ws → drop n (ws ++ more) ≡ drop n ws ++ more
    drop_front zero ws more h = refl
    drop_front (suc n) [] more h = absurd (omega arith)
    drop_front (suc n) (w ∷ ws) more h = drop_front n ws more (omega arith)

-- only a section of the sheet has slots
pub section_known : (k slot : ℕ) → slot < most_of k → k < sections
unfolding most_of kind_of
section_known k slot h =
    elim (dec_lt k sections) [
      | yes l ↦ l
      | no n ↦ absurd (omega (arith, rw (past k (omega arith)) at h))
    ]

-- ---- the steps of a run of chains

-- all of them together
pub chains_size : (address count each : ℕ) (ws : List ℕ) → count * each ≤ length ws
    → length (chains_from address (pieces (replicate count each) ws)) ≡ count * (5 + 5 * each)
chains_size address count each ws h =
    chains_length address (pieces (replicate count each) ws) ∙ ap size_of (ways.pieces_lengths count each ws h) ∙ size_chains count each

-- those from number i on
abbrev pub chains_behind : (address count each : ℕ) (ws : List ℕ) (i : ℕ) → List ℕ
chains_behind address count each ws i = chains_from (address + i) (pieces (replicate (count - i) each) (drop (i * each) ws))

module _ (address count each : ℕ) (ws : List ℕ) where
  pub chains_all : chains_from address (pieces (replicate count each) ws) ≡ chains_behind address count each ws 0
  chains_all = rw (zero-mul each, add-zero address, sub-zero count)

  pub chains_over : chains_behind address count each ws count ≡ []
  unfolding chains_from pieces
  chains_over = rw (sub_self count)

  module _ (i : ℕ) (h : i < count) where
    pub chains_step : chains_behind address count each ws i
        ≡ chain (address + i) (take ((i + 1) * each - i * each) (drop (i * each) ws)) ++ chains_behind address count each ws (i + 1)
    unfolding chains_from pieces
    chains_step =
        let left : count - i ≡ suc (count - (i + 1)) = omega arith in
        let part : (i + 1) * each - i * each ≡ each = omega (arith, one_more i each) in
        let more : (i + 1) * each ≡ i * each + each = omega (arith, one_more i each) in
        rw (left, part, more, add_assoc, ← drop-drop each (i * each) ws)

    pub chain_size : count * each ≤ length ws → length (chain (address + i) (take ((i + 1) * each - i * each) (drop (i * each) ws))) ≡ 5 + 5 * each
    chain_size fits =
        let part : (i + 1) * each - i * each ≡ each = omega (arith, one_more i each) in
        let within : (i + 1) * each ≤ count * each = mul-le-mul_right each (omega arith) in
        rw (part, length_chain (address + i) (take each (drop (i * each) ws)), length-take-le each (drop (i * each) ws) (omega (arith, length-drop (i * each) ws, one_more i each)))

-- ---- the item of a record, whatever its section: the numbers of the table and the words that lie in longer room

pub item_sent : (k : ℕ) (r : List ℕ) (address count each : ℕ) (ws more : List ℕ) → address ≡ address_of k (slot_of r) → count ≡ chain_count k
    → each ≡ chain_length k → ws ≡ words_of k (description_of r) ++ more → chains_from address (pieces (replicate count each) ws) ≡ item k r
unfolding item chains_of lengths_of
item_sent k r address count each ws more ea ec ee ew =
    rw (ea, ec, ee, ew, pieces_front (chain_count k) (chain_length k) (words_of k (description_of r)) more (ways.words_count k (description_of r)))

pub room_fits : (k : ℕ) (d : List ℕ) (count each : ℕ) (ws more : List ℕ) → count ≡ chain_count k → each ≡ chain_length k → ws ≡ words_of k d ++ more
    → count * each ≤ length ws
room_fits k d count each ws more ec ee ew = rw (ec, ee, ew) (omega (arith, length-append (words_of k d) more, ways.words_count k d))
