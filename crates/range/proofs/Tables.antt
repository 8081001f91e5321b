-- The laws of chain words: how many there are, which word stands where, and which table a word holds for a line. Assumes nothing.
use Rattle.std.proofs.Common.{◌≡◌, ℕ, zero, suc, ◌+◌, ◌-◌, ◌*◌, ◌/◌, ◌%◌, ◌^◌, ◌<◌, List, ◌++◌, length, get_or, take, drop, sym, ap, ◌∙◌, ap₂, div-add-mod', arith, lit<, length-append, length-drop, take-append-drop, length-take, take_at, get_or-append-add, ext_get_or, drop_at}
use native.Mathlib.Decide.{dec_lt}
use Rattle.std.specs.List.{flat_map}
use Rattle.std.proofs.lemmas.List.{append-nil}
use lib.ListN.{get_or-append}
use Rattle.lines.specs.Line.{line, choose}
use Rattle.lines.specs.Gather.{scattered}
use Rattle.lut.specs.Table.{high, low, word_of, down}
use Rattle.lut.proofs.Halves.{high_half, low_half, word_lt}
use Rattle.lut.proofs.Down.{length_down, down_at, down_lt}
use Rattle.range.specs.Words.{table_for, line_table, pair_word, chain_words, lower_value, upper_value, lower_chain, upper_chain, range_words, sent_words}
use Rattle.range.specs.Model.{table_at, lower_table, upper_table}

-- a table has sixteen bits
table_for_lt : (masked bit : ℕ) → table_for masked bit < 65536
table_for_lt zero b = lit< tt
table_for_lt (suc d) zero = lit< tt
table_for_lt (suc d) (suc b) = lit< tt

pub table_lt : (mask spread i : ℕ) → line_table mask spread i < 65536
table_lt mask spread i = table_for_lt (line mask i) (line spread i)

-- ---- counts

pub length_chain : (mask value : ℕ) → length (chain_words mask value) ≡ 16
unfolding chain_words
length_chain mask value = length_down (pair_word mask (scattered 32 value mask)) 16

-- ---- the words in their places

-- sixteen words that are those of a chain, place by place, are the chain
pub chain_ext : (mask value : ℕ) (words : List ℕ) → length words ≡ 16
    → ((k : ℕ) → k < 16 → get_or words k 0 ≡ pair_word mask (scattered 32 value mask) (15 - k)) → words ≡ chain_words mask value
unfolding chain_words
chain_ext mask value words len e =
    let spread = scattered 32 value mask in
    ext_get_or 0 words (down (pair_word mask spread) 16) (len ∙ sym (length_down (pair_word mask spread) 16))
    (λ k l. let h : k < 16 = omega arith in e k h ∙ sym (down_at (pair_word mask spread) 16 k h ∙ ap (pair_word mask spread) (omega arith)))

-- every word has 32 bits
pub chain_fits : (mask value k : ℕ) → get_or (chain_words mask value) k 0 < 2 ^ 32
unfolding chain_words
chain_fits mask value = down_lt (pair_word mask spread) (2 ^ 32) (lit< tt) (λ p.
    word_lt (line_table mask spread (p * 2 + 1)) (line_table mask spread (p * 2)) (table_lt mask spread (p * 2 + 1)) (table_lt mask spread (p * 2))) 16
  where
    spread : ℕ
    spread = scattered 32 value mask

-- ---- the tables of the lines

-- the half of a word that holds a line's table
half : (mask spread i d p w : ℕ) → i ≡ p * 2 + d → d < 2 → w ≡ pair_word mask spread p → choose d (low w) (high w) ≡ line_table mask spread i
half mask spread i zero p w e h ew =
    let at : p * 2 ≡ i = omega arith in
    ap low ew ∙ low_half (line_table mask spread (p * 2 + 1)) (line_table mask spread (p * 2)) (table_lt mask spread (p * 2))
    ∙ ap (line_table mask spread) at
half mask spread i (suc zero) p w e h ew =
    let at : p * 2 + 1 ≡ i = omega arith in
    ap high ew ∙ high_half (line_table mask spread (p * 2 + 1)) (line_table mask spread (p * 2)) (table_lt mask spread (p * 2))
    ∙ ap (line_table mask spread) at
half mask spread i (suc (suc d)) p w e h ew = absurd (omega arith)

-- what the model asks at line i is the table that was written for line i
pub table_down : (mask spread i : ℕ) → i < 32 → table_at (down (pair_word mask spread) 16) i ≡ line_table mask spread i
table_down mask spread i h =
    half mask spread i (i % 2) (i / 2) _ (omega arith) (omega arith)
    (down_at (pair_word mask spread) 16 (15 - i / 2) (omega arith) ∙ ap (pair_word mask spread) (omega arith))

pub table_at_law : (mask value i : ℕ) → i < 32 → table_at (chain_words mask value) i ≡ line_table mask (scattered 32 value mask) i
unfolding chain_words
table_at_law mask value i h = table_down mask (scattered 32 value mask) i h

-- ---- both chains, as they are sent

module _ (lower upper mask : ℕ) where
  -- the words of two chains, one after the other
  pub flat_chains : flat_map (λ x. x) (range_words lower upper mask) ≡ sent_words lower upper mask
  unfolding range_words sent_words
  flat_chains = ap (◌++◌ (lower_chain lower mask)) (append-nil (upper_chain upper mask))

  pub take_sent : take 16 (sent_words lower upper mask) ≡ lower_chain lower mask
  unfolding sent_words
  take_sent = take_at (lower_chain lower mask) (upper_chain upper mask) 16 (length_chain mask (lower_value lower mask))

  pub drop_sent : drop 16 (sent_words lower upper mask) ≡ upper_chain upper mask
  unfolding sent_words
  drop_sent = drop_at (lower_chain lower mask) (upper_chain upper mask) 16 (length_chain mask (lower_value lower mask))

  pub length_sent : length (sent_words lower upper mask) ≡ 32
  unfolding sent_words
  length_sent =
      let a = length_chain mask (lower_value lower mask) in
      let b = length_chain mask (upper_value upper mask) in
      omega (arith, length-append (lower_chain lower mask) (upper_chain upper mask))

  pub sent_fits : (k : ℕ) → get_or (sent_words lower upper mask) k 0 < 2 ^ 32
  unfolding sent_words
  sent_fits k = go (dec_lt k 16)
    where
      len : length (lower_chain lower mask) ≡ 16
      len = length_chain mask (lower_value lower mask)

      go : Dec (k < 16) → get_or (lower_chain lower mask ++ upper_chain upper mask) k 0 < 2 ^ 32
      go (yes h) =
          rw (get_or-append (lower_chain lower mask) (upper_chain upper mask) 0 k (omega (arith, len))) (chain_fits mask (lower_value lower mask) k)
      go (no h) =
          let at : k ≡ length (lower_chain lower mask) + (k - 16) = omega (arith, len) in
          rw (at, get_or-append-add (lower_chain lower mask) (upper_chain upper mask) (k - 16) 0) (chain_fits mask (upper_value upper mask) (k - 16))

  -- the tables of line i in the words that are sent
  pub lower_sent : (i : ℕ) → i < 32
      → lower_table (sent_words lower upper mask) i ≡ line_table mask (scattered 32 (lower_value lower mask) mask) i
  lower_sent i h = ap (λ (ws : List ℕ). table_at ws i) take_sent ∙ table_at_law mask (lower_value lower mask) i h

  pub upper_sent : (i : ℕ) → i < 32
      → upper_table (sent_words lower upper mask) i ≡ line_table mask (scattered 32 (upper_value upper mask) mask) i
  upper_sent i h = ap (λ (ws : List ℕ). table_at ws i) drop_sent ∙ table_at_law mask (upper_value upper mask) i h

-- ---- words are known by their tables

-- the word at place k is made of the tables of lines 31 - 2 k and 30 - 2 k
word_tables : (chain : List ℕ) (k : ℕ) → k < 16
    → get_or chain k 0 ≡ word_of (table_at chain ((15 - k) * 2 + 1)) (table_at chain ((15 - k) * 2))
word_tables chain k h =
    let odd : ((15 - k) * 2 + 1) % 2 ≡ 1 = omega arith in
    let even : (15 - k) * 2 % 2 ≡ 0 = omega arith in
    let at-odd : 15 - ((15 - k) * 2 + 1) / 2 ≡ k = omega arith in
    let at-even : 15 - (15 - k) * 2 / 2 ≡ k = omega arith in
    rw (odd, even, at-odd, at-even) (sym (div-add-mod' (get_or chain k 0) 65536))

pub tables_same : (c d : List ℕ) → length c ≡ 16 → length d ≡ 16 → ((i : ℕ) → i < 32 → table_at c i ≡ table_at d i) → c ≡ d
tables_same c d hc hd e =
    ext_get_or 0 c d (hc ∙ sym hd) (λ k l.
    let h : k < 16 = omega arith in
    word_tables c k h ∙ ap₂ word_of (e ((15 - k) * 2 + 1) (omega arith)) (e ((15 - k) * 2) (omega arith)) ∙ sym (word_tables d k h))

pub words_same : (v w : List ℕ) → length v ≡ 32 → length w ≡ 32
    → ((i : ℕ) → i < 32 → (lower_table v i ≡ lower_table w i) × (upper_table v i ≡ upper_table w i)) → v ≡ w
words_same v w hv hw e =
    sym (take-append-drop 16 v)
    ∙ ap₂ (λ (a b : List ℕ). a ++ b)
    (tables_same (take 16 v) (take 16 w) (first v hv) (first w hw) (λ i h. (e i h).0))
    (tables_same (drop 16 v) (drop 16 w) (second v hv) (second w hw) (λ i h. (e i h).1))
    ∙ take-append-drop 16 w
  where
    first : (u : List ℕ) → length u ≡ 32 → length (take 16 u) ≡ 16
    first u h = simp length-take (omega arith)

    second : (u : List ℕ) → length u ≡ 32 → length (drop 16 u) ≡ 16
    second u h = simp length-drop (omega arith)
