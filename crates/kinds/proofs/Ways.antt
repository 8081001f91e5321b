-- What the rooms above need of every section, stated once: how many words a description has, the way there and back, and what
-- tells two apart. Each kind's part of it is in the kind's own crate. Assumes nothing.
use Prim.Native.Nat.{ℕ, zero, suc, ◌+◌, ◌*◌, ◌≤◌, ◌<◌, ◌^◌}
use mathlib.Core.List.{List, [], ◌∷◌, ◌++◌, map, flatten}
use mathlib.Core.Path.{◌≡◌, refl, sym, ap, ap₂, ◌∙◌}
use native.Mathlib.Omega.{arith}
use lib.Dec.{lit<}
use lib.ListN.{length, get_or, take, drop, replicate, length-drop, take-append-drop}
use lib.Seq.{length-take-le}
use Rattle.peek.specs.Bytes.{Bytes}
use Rattle.peek.specs.Fields.{Writes}
use mathlib.Core.Logic.{◌↔◌}
use Rattle.lut.specs.Telling.{HitAlike, Says}
use Rattle.lut.specs.declared.Telling.TheVariants.{Alike}
use Rattle.lut.proofs.Asked.{alike_iff, says_in_numbers}
use Rattle.term.specs.Description as term
use Rattle.term.proofs.Ways as term_ways
use Rattle.term.proofs.Theorems as term_theorems
use Rattle.range.specs.Description as range
use Rattle.range.proofs.Ways as range_ways
use Rattle.range_telling.specs.Description as range_telling
use Rattle.range_telling.proofs.Theorems as range_theorems
use Rattle.edge.specs.Description as edge
use Rattle.edge.proofs.Ways as edge_ways
use Rattle.edge.proofs.Theorems as edge_theorems
use Rattle.sum.specs.Description as sum
use Rattle.sum.proofs.Ways as sum_ways
use Rattle.sum_telling.specs.Description as sum_telling
use Rattle.sum_telling.proofs.Theorems as sum_theorems
use Rattle.state.proofs.Ways as state_ways
use Rattle.kinds.specs.Table.{Kind, term_kind, range_kind, edge_kind, sum_kind, state_kind, sections, kind_of, description_size, description_fault, Accepted, chain_count, chain_length, words_of, description_read, cut_description, shows_of, telling_of, entry_of, missing_of, entry_size, lengths_of, pieces, chains_of}
use Rattle.kinds.proofs.Rows.{of_kind, of_any, at_most, size_positive}

-- ---- words and chains

-- the words are as many as the chains hold
pub words_count : (k : ℕ) (d : List ℕ) → length (words_of k d) ≡ chain_count k * chain_length k
unfolding words_of chain_count chain_length
words_count k d =
    of_any (λ x. length (x.words d) ≡ x.chains * x.each)
    (term_ways.words_count d, (range_ways.words_count d, (edge_ways.words_count d, (sum_ways.words_count d, (state_ways.words_count d, tt))))) refl k

-- and never more than 32
pub words_few : (k : ℕ) (d : List ℕ) → length (words_of k d) ≤ 32
unfolding chain_count chain_length
words_few k d = rw (words_count k d) (at_most (λ x. x.chains * x.each) 32 tt k)

-- an entry has as many numbers as that of a slot without record
pub entry_count : (k : ℕ) (d : List ℕ) → length (entry_of k d) ≡ entry_size k
unfolding entry_of entry_size missing_of
entry_count k d = of_any (λ x. length (x.entry d) ≡ length x.missing) (refl, (refl, (refl, (sum_ways.words_count d, (state_ways.words_count d, tt))))) refl k

pub pieces_lengths : (c n : ℕ) (ws : List ℕ) → c * n ≤ length ws → map length (pieces (replicate c n) ws) ≡ replicate c n
unfolding pieces
pieces_lengths zero n ws h = refl
pieces_lengths (suc c) n ws h =
    let l : n + c * n ≤ length ws = omega arith in
    ap₂ (λ (x : ℕ) (xs : List ℕ). x ∷ xs) (length-take-le n ws (omega arith)) (pieces_lengths c n (drop n ws) (omega (arith, length-drop n ws)))

-- chain lengths are those of the words [W4, W6, W11, W14]
pub chains_lengths : (k : ℕ) (d : List ℕ) → map length (chains_of k d) ≡ lengths_of k
unfolding chains_of lengths_of
chains_lengths k d = pieces_lengths (chain_count k) (chain_length k) (words_of k d) (omega (arith, words_count k d))

pieces_flat : (c n : ℕ) (ws : List ℕ) → length ws ≡ c * n → flatten (pieces (replicate c n) ws) ≡ ws
unfolding pieces flatten
pieces_flat zero n [] l = refl
pieces_flat zero n (w ∷ ws) l = absurd (omega arith)
pieces_flat (suc c) n ws l =
    let e : length ws ≡ n + c * n = omega arith in
    ap (λ (xs : List ℕ). take n ws ++ xs) (pieces_flat c n (drop n ws) (omega (arith, length-drop n ws))) ∙ take-append-drop n ws

pub chains_flat : (k : ℕ) (d : List ℕ) → flatten (chains_of k d) ≡ words_of k d
unfolding chains_of lengths_of
chains_flat k d = pieces_flat (chain_count k) (chain_length k) (words_of k d) (words_count k d)

-- ---- there and back

-- a cut description is whole
pub cut_whole : (k : ℕ) → k < sections → (d : List ℕ) → length d ≡ description_size k → length (cut_description k d) ≡ description_size k
unfolding description_size cut_description
cut_whole k h =
    of_kind (λ x. (d : List ℕ) → length d ≡ x.size → length (x.cut d) ≡ x.size)
    (term_ways.cut_whole, ((λ d l. l), ((λ d l. l), ((λ d l. l), ((λ d l. l), tt))))) k h

pub back : (k : ℕ) → k < sections → (d : List ℕ) → Bytes d → length d ≡ description_size k → description_fault k d ≡ 0
    → description_read k (words_of k d) ≡ cut_description k d
unfolding description_size description_fault description_read words_of cut_description
back k h =
    of_kind (λ x. (d : List ℕ) → Bytes d → length d ≡ x.size → x.fault d ≡ 0 → x.back (x.words d) ≡ x.cut d)
    (term_ways.back_words, (range_ways.back_words, (edge_ways.back_words, (sum_ways.back_words, (state_ways.back_words, tt))))) k h

-- d is a description of section k without fault, and its words are ws
pub record Described (k : ℕ) (ws d : List ℕ) : Type 0 where
  pub are_bytes : Bytes d
  pub whole : length d ≡ description_size k
  pub faultless : description_fault k d ≡ 0
  pub written : words_of k d ≡ ws

described : (k : ℕ) (ws d : List ℕ) → Writes (kind_of k).size (kind_of k).fault (kind_of k).words ws d → Described k ws d
unfolding description_size description_fault words_of
described k ws d w = record { are_bytes = w.are_bytes; whole = w.whole; faultless = w.faultless; written = w.written }

-- what is read is what was written
pub exactly : (k : ℕ) → k < sections → (ws : List ℕ) → 0 < length (description_read k ws) → Described k ws (description_read k ws)
unfolding description_read
exactly k h ws p =
    described k ws ((kind_of k).back ws)
    (of_kind (λ x. (ws : List ℕ) → 0 < length (x.back ws) → Writes x.size x.fault x.words ws (x.back ws))
    (term_ways.back_writes, (range_ways.back_writes, (edge_ways.back_writes, (sum_ways.back_writes, (state_ways.back_writes, tt))))) k h ws p)

-- words are refused exactly where no accepted description writes them
pub refused : (k : ℕ) → k < sections → (ws d : List ℕ) → length (description_read k ws) ≡ 0 → Described k ws d → ⊥
refused k h ws d e w =
    let there : length (description_read k ws) ≡ description_size k =
    ap (λ (vs : List ℕ). length (description_read k vs)) (sym w.written)
    ∙ ap length (back k h d w.are_bytes w.whole w.faultless)
    ∙ cut_whole k h d w.whole in
    absurd (omega (arith, size_positive k h))

-- ---- no fault exactly where accepted

pub faultless_iff_accepted : (k : ℕ) → k < sections → (d : List ℕ) → Bytes d → length d ≡ description_size k
    → (description_fault k d ≡ 0) ↔ Accepted k d
unfolding description_size description_fault kind_of
faultless_iff_accepted zero h = term_ways.faultless_iff
faultless_iff_accepted (suc zero) h = range_ways.faultless_iff
faultless_iff_accepted (suc (suc zero)) h = edge_ways.faultless_iff
faultless_iff_accepted (suc (suc (suc zero))) h = sum_ways.faultless_iff
faultless_iff_accepted (suc (suc (suc (suc zero)))) h = state_ways.faultless_iff
faultless_iff_accepted (suc (suc (suc (suc (suc k))))) h = absurd (omega arith)

-- ---- what tells two apart says what it should

-- two descriptions of one kind, without fault, whose bytes differ
pub record Changed (x : Kind) (d e : List ℕ) : Type 0 where
  pub old_bytes : Bytes d
  pub new_bytes : Bytes e
  pub old_whole : length d ≡ x.size
  pub new_whole : length e ≡ x.size
  pub old_faultless : x.fault d ≡ 0
  pub new_faultless : x.fault e ≡ 0
  pub differ : d ≡ e → ⊥

abbrev TellingSays : Kind → Type 0
TellingSays x = (d e : List ℕ) → Changed x d e → Says (x.shows d) (x.shows e) (x.telling d e)

terms_say : TellingSays term_kind
unfolding term.telling
terms_say d e c =
    says_in_numbers _ _ (term.telling d e)
    (term_theorems.telling_says (term.from_bytes d) (term.from_bytes e) (term_ways.accepted d c.old_bytes c.old_faultless)
    (term_ways.accepted e c.new_bytes c.new_faultless))

ranges_say : TellingSays range_kind
unfolding range_telling.telling
ranges_say d e c =
    says_in_numbers _ _ (range_telling.telling d e)
    (range_theorems.telling_says (range.from_bytes d) (range.from_bytes e) (range_ways.accepted d c.old_bytes c.old_faultless)
    (range_ways.accepted e c.new_bytes c.new_faultless))

edges_say : TellingSays edge_kind
unfolding edge.telling
edges_say d e c =
    says_in_numbers _ _ (edge.telling d e)
    (edge_theorems.telling_says (edge.from_bytes d) (edge.from_bytes e) (edge_ways.accepted d c.old_bytes c.old_faultless)
    (edge_ways.accepted e c.new_bytes c.new_faultless))

sums_say : TellingSays sum_kind
unfolding sum_telling.telling
sums_say d e c = says_in_numbers _ _ (sum_telling.telling d e) (sum_theorems.telling_says (sum.from_bytes d) (sum.from_bytes e))

states_say : TellingSays state_kind
states_say d e c =
    record {
      fits = tt;
      tells =
          λ q.
          c.differ
          (state_ways.words_differ d e c.old_bytes c.new_bytes c.old_whole c.new_whole c.old_faultless c.new_faultless q);
    }

-- an input that tells the two apart, or that none does, of every section: no notice may say either each time
-- [D3.5, D3.6, K4]
pub telling_says : (k : ℕ) → k < sections → (d e : List ℕ) → Changed (kind_of k) d e → Says (shows_of k d) (shows_of k e) (telling_of k d e)
unfolding shows_of telling_of
telling_says k h = of_kind TellingSays (terms_say, (ranges_say, (edges_say, (sums_say, (states_say, tt))))) k h

-- it is Alike exactly where no input tells
pub alike_exactly : (k : ℕ) → k < sections → (d e : List ℕ) → Changed (kind_of k) d e → (telling_of k d e ≡ Alike) ↔ HitAlike (shows_of k d) (shows_of k e)
alike_exactly k h d e c = alike_iff (shows_of k d) (shows_of k e) (telling_of k d e) (telling_says k h d e c)

-- ---- every word has 32 bits

pub words_fit : (k : ℕ) (d : List ℕ) (i : ℕ) → get_or (words_of k d) i 0 < 2 ^ 32
unfolding words_of
words_fit k d =
    of_any (λ x. (i : ℕ) → get_or (x.words d) i 0 < 2 ^ 32) (term_ways.words_fit d, (range_ways.words_fit d, (edge_ways.words_fit d, (sum_ways.words_fit d, (state_ways.words_fit d, tt)))))
    (λ i. lit< tt) k
