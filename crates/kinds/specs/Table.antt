-- The table of sections: the only place that knows how many kinds of record there are, and what each has. A section is
-- known by its number; what one has and another has not is a field of its row.
use Rattle.std.specs.Prelude.{ℕ, zero, suc, ◌+◌, ◌*◌, max, cond, List, [], ◌∷◌, eqb, ltb, length, get_or, take, drop, replicate}
use Rattle.term.specs.Description as term
use Rattle.term.specs.Rule as term_rule
use Rattle.range.specs.Description as range
use Rattle.range.specs.Rule as range_rule
use Rattle.range_telling.specs.Description as range_telling
use Rattle.edge.specs.Description as edge
use Rattle.edge.specs.Rule as edge_rule
use Rattle.sum.specs.Description as sum
use Rattle.sum.specs.Operation as sum_rule
use Rattle.sum.specs.Model as sum_model
use Rattle.sum.specs.Address.{sum_address}
use Rattle.sum_telling.specs.Description as sum_telling
use Rattle.state.specs.Description as state
use Rattle.state.specs.Fields as state_rule
use Rattle.state.specs.Words as state_words
use Rattle.lut.specs.Input.{in_numbers, on_nothing}
use Rattle.lut.specs.declared.Input.{Input}
use Rattle.lut.specs.declared.Input.TheVariants.{Nothing}
use Rattle.lut.specs.declared.Telling.{Telling}
use Rattle.lut.specs.declared.Telling.TheVariants.{Alike, Apart}
use Rattle.kinds.specs.declared.Row.{Row}
use Rattle.kinds.specs.Entry.{pattern_entry, range_entry, edge_entry}

-- what each kind has, a row of the table of sections [S13]
pub record Kind : Type 0 where
  -- the four letters of the notice, and the one of the labels that the reader gives
  pub name : List ℕ
  pub letter : ℕ
  -- the most records, and the bytes of a description
  pub most : ℕ
  pub size : ℕ
  -- the first fault of a description, 0 if it has none
  pub fault : List ℕ → ℕ
  -- the address of a slot; how many chains, at neighbouring addresses, and how many words each
  pub address : ℕ → ℕ
  pub chains : ℕ
  pub each : ℕ
  -- a description's words, the description that words are read as ([]: none), and what is then left of a description
  pub words : List ℕ → List ℕ
  pub back : List ℕ → List ℕ
  pub cut : List ℕ → List ℕ
  -- what a description shows on an input, and what tells two whose bytes differ apart
  pub shows : List ℕ → Input → ℕ
  pub telling : List ℕ → List ℕ → Telling
  -- a description's entry in a bench's table, and the entry of a slot without record, which never hits
  pub entry : List ℕ → List ℕ
  pub missing : List ℕ

-- the number of the section that holds terms [S1]
abbrev pub TERMS : ℕ
TERMS = 0

-- the number of the section that holds ranges [S1]
abbrev pub RANGES : ℕ
RANGES = 1

-- the number of the section that holds edges [S1]
abbrev pub EDGES : ℕ
EDGES = 2

-- the number of the section that holds sums [S1]
abbrev pub SUMS : ℕ
SUMS = 3

-- the number of the section that holds states [S1]
abbrev pub STATES : ℕ
STATES = 4

-- terms: TERM and T, at most 10, address 0x20 + slot, one chain of four words [S1, W4, N3, C7, G3]
abbrev pub term_kind : Kind
term_kind =
    record {
      name = 84 ∷ 69 ∷ 82 ∷ 77 ∷ [];
      letter = 84;
      most = 10;
      size = term.size;
      fault = term.fault;
      address = λ slot. 0x20 + slot;
      chains = 1;
      each = 4;
      words = term.words;
      back = term.back;
      cut = term.cut;
      shows = λ d. in_numbers (term_rule.hit (term.from_bytes d));
      telling = term.telling;
      entry = λ d. pattern_entry (term.from_bytes d);
      missing = 1 ∷ 0 ∷ [];
    }

-- ranges: RANG and R, at most 2, address 0x30 + 2 * slot, two chains of sixteen words [S1, W6, N3, C7]
abbrev pub range_kind : Kind
range_kind =
    record {
      name = 82 ∷ 65 ∷ 78 ∷ 71 ∷ [];
      letter = 82;
      most = 2;
      size = range.size;
      fault = range.fault;
      address = λ slot. 0x30 + 2 * slot;
      chains = 2;
      each = 16;
      words = range.words;
      back = range.back;
      cut = λ d. d;
      shows = λ d. in_numbers (range_rule.hit (range.from_bytes d));
      telling = range_telling.telling;
      entry = λ d. range_entry (range.from_bytes d);
      missing = 1 ∷ 0 ∷ 0 ∷ [];
    }

-- edges: EDGE and E, at most 2, address 0x34 + slot, one chain of eight words [S1, W11, N3, C7]
abbrev pub edge_kind : Kind
edge_kind =
    record {
      name = 69 ∷ 68 ∷ 71 ∷ 69 ∷ [];
      letter = 69;
      most = 2;
      size = edge.size;
      fault = edge.fault;
      address = λ slot. 0x34 + slot;
      chains = 1;
      each = 8;
      words = edge.words;
      back = edge.back;
      cut = λ d. d;
      shows = λ d. in_numbers (edge_rule.hit (edge.from_bytes d));
      telling = edge.telling;
      entry = λ d. edge_entry (edge.from_bytes d);
      missing = 0 ∷ 0 ∷ 0 ∷ [];
    }

-- sums: SUMS and S, at most 48, one chain of six words [S1, W14, N3, C7]
abbrev pub sum_kind : Kind
sum_kind =
    record {
      name = 83 ∷ 85 ∷ 77 ∷ 83 ∷ [];
      letter = 83;
      most = 48;
      size = sum.size;
      fault = sum.fault;
      address = sum_address;
      chains = 1;
      each = 6;
      words = sum.words;
      back = sum.back;
      cut = λ d. d;
      shows = λ d. in_numbers (sum_model.hit (sum.from_bytes d));
      telling = sum_telling.telling;
      entry = sum.words;
      missing = 0 ∷ 0 ∷ 0 ∷ 0 ∷ 0 ∷ 0 ∷ [];
    }

-- states: STAT and Q, at most 16, address the slot, one chain of one word; two that differ are told apart by nothing
-- that is shown [S1, W19, N3, N6, N8, C7]
abbrev pub state_kind : Kind
state_kind =
    record {
      name = 83 ∷ 84 ∷ 65 ∷ 84 ∷ [];
      letter = 81;
      most = 16;
      size = state.size;
      fault = state.fault;
      address = λ slot. slot;
      chains = 1;
      each = 1;
      words = state.words;
      back = state.back;
      cut = λ d. d;
      shows = λ d. on_nothing (state_words.word_of (state.from_bytes d));
      telling = λ old new. Apart Nothing;
      entry = state.words;
      missing = 1 ∷ [];
    }

-- a section that no sheet has: no records, no words, and it shows 0 [S13]
abbrev pub no_kind : Kind
no_kind =
    record {
      name = 0 ∷ 0 ∷ 0 ∷ 0 ∷ [];
      letter = 0;
      most = 0;
      size = 0;
      fault = λ d. 0;
      address = λ slot. 0;
      chains = 0;
      each = 0;
      words = λ d. [];
      back = λ ws. [];
      cut = λ d. d;
      shows = λ d i. 0;
      telling = λ old new. Alike;
      entry = λ d. [];
      missing = [];
    }

-- THE TABLE, by section number [S1, S13]
abbrev pub kinds : List Kind
kinds = term_kind ∷ range_kind ∷ edge_kind ∷ sum_kind ∷ state_kind ∷ []

-- how many sections a sheet has [S1]
abbrev pub sections : ℕ
sections = length kinds

-- the row of section k; past the table that of a section that no sheet has [S13, B4]
unfoldable pub kind_of : ℕ → Kind
kind_of k = get_or kinds k no_kind

-- ---- its columns

-- the four letters of section k's name in the notice [N3]
unfoldable pub name_of : ℕ → List ℕ
name_of k = (kind_of k).name

-- the letter of the labels that the reader gives in section k [C7]
unfoldable pub letter_of : ℕ → ℕ
letter_of k = (kind_of k).letter

-- the most records of section k [S1]
unfoldable pub most_of : ℕ → ℕ
most_of k = (kind_of k).most

-- the bytes of a description of section k [S1, G1]
unfoldable pub description_size : ℕ → ℕ
description_size k = (kind_of k).size

-- the first fault of a description of section k, by refusal number; 0 is none
-- [F6, F7, F8, F9, F10, F18, O1]
unfoldable pub description_fault : ℕ → List ℕ → ℕ
description_fault k d = (kind_of k).fault d

-- the address of the first chain of the item in a slot of section k [W4, W6, W11, W14, W19]
unfoldable pub address_of : (k slot : ℕ) → ℕ
address_of k slot = (kind_of k).address slot

-- how many chains an item of section k has: two for a range, one for the others [G13, W6]
unfoldable pub chain_count : ℕ → ℕ
chain_count k = (kind_of k).chains

-- how many words each chain of section k has [W4, W6, W11, W14, W19]
unfoldable pub chain_length : ℕ → ℕ
chain_length k = (kind_of k).each

-- a description's chain words, first sent first (*chain words* is the buyer's term) [G4]
unfoldable pub words_of : (k : ℕ) (d : List ℕ) → List ℕ
words_of k d = (kind_of k).words d

-- computed: the description that words are read as, no bytes if none; theorems exactly and refused [B6, B7, C5, F16]
unfoldable pub description_read : (k : ℕ) (ws : List ℕ) → List ℕ
description_read k ws = (kind_of k).back ws

-- what is left of a description when its words are read back: a term's target is cut to its mask [C7]
unfoldable pub cut_description : (k : ℕ) (d : List ℕ) → List ℕ
cut_description k d = (kind_of k).cut d

-- what a description of section k shows on an input: 1 for a hit, 0 for a miss; a state, on nothing, its word
-- [G5, G16, P1, P5, P8, M8, W19]
unfoldable pub shows_of : (k : ℕ) (d : List ℕ) → Input → ℕ
shows_of k d = (kind_of k).shows d

-- computed: what tells two descriptions of section k apart whose bytes differ; theorem telling_says [B6, N6, N10]
unfoldable pub telling_of : (k : ℕ) (old new : List ℕ) → Telling
telling_of k old new = (kind_of k).telling old new

-- the entry of a description of section k in a bench's table; of a sum or a state it is the words [R11]
unfoldable pub entry_of : (k : ℕ) (d : List ℕ) → List ℕ
entry_of k d = (kind_of k).entry d

-- the entry of a slot of section k without record: a detector that never hits, a sum that never matches, a state of
-- number 1, else state 0 and no flags [R2, R4, R5, R11]
unfoldable pub missing_of : ℕ → List ℕ
missing_of k = (kind_of k).missing

-- how many numbers an entry of section k has: 2, 3, 3, 6 and 1 [R11]
unfoldable pub entry_size : ℕ → ℕ
entry_size k = length (missing_of k)

-- the same by meaning: which descriptions of section k are accepted (*accepted* is the buyer's term) [G2]
abbrev pub Accepted : (k : ℕ) (d : List ℕ) → Type 0
Accepted zero d = term_rule.Accepted (term.from_bytes d)
Accepted (suc zero) d = range_rule.Accepted (range.from_bytes d)
Accepted (suc (suc zero)) d = edge_rule.Accepted (edge.from_bytes d)
Accepted (suc (suc (suc zero))) d = sum_rule.Accepted (sum.from_bytes d)
Accepted (suc (suc (suc (suc zero)))) d = state_rule.Accepted (state.from_bytes d)
Accepted (suc (suc (suc (suc (suc k))))) d = ⊥

-- ---- what follows from them

-- the numbers of section k, side by side [S13]
abbrev pub row_of : ℕ → Row
row_of k = record { name = name_of k; letter = letter_of k; most = most_of k; size = description_size k; chains = chain_count k; each = chain_length k; entry = entry_size k }

-- how many words each chain of section k's items has [W4, W6, W11, W14, W19]
unfoldable pub lengths_of : (k : ℕ) → List ℕ
lengths_of k = replicate (chain_count k) (chain_length k)

-- the most words that a description of n sections from section k on has [W4, W6, W11, W14, W19]
unfoldable pub most_words_from : (n k : ℕ) → ℕ
most_words_from zero k = 0
most_words_from (suc n) k = max (chain_count k * chain_length k) (most_words_from n (k + 1))

-- the most words that a description of any section has: a range's [W6]
abbrev pub most_words : ℕ
most_words = most_words_from sections 0

-- words cut into chains of so many words each [W1, W6]
unfoldable pub pieces : (lengths words : List ℕ) → List (List ℕ)
pieces [] ws = []
pieces (n ∷ ns) ws = take n ws ∷ pieces ns (drop n ws)

-- the chains of a description in sending order; of a range the lower one is the first [G4, G13]
unfoldable pub chains_of : (k : ℕ) (d : List ℕ) → List (List ℕ)
chains_of k d = pieces (lengths_of k) (words_of k d)

-- ---- the order of sending

-- the sections in the order in which they are sent; theorem address_later has it that addresses rise [W17]
abbrev pub sending_order : List ℕ
sending_order = STATES ∷ TERMS ∷ RANGES ∷ EDGES ∷ SUMS ∷ []

-- ---- the way back from an address to the section and the slot whose item is sent there

-- computed: of n slots of section k from `slot` on, the first with the address; the one behind them if none [B6, C2]
unfoldable pub slot_from : (n slot k address : ℕ) → ℕ
slot_from zero slot k address = slot
slot_from (suc n) slot k address = cond (eqb (address_of k slot) address) slot (slot_from n (slot + 1) k address)

-- computed: the slot of section k whose item begins at the address; theorem slot_of_address [B6, C2]
unfoldable pub slot_at : (k address : ℕ) → ℕ
slot_at k address = slot_from (most_of k) 0 k address

-- computed: of n sections from k on, the first that has the address; the one behind them if none [B6, C2]
unfoldable pub section_from : (n k address : ℕ) → ℕ
section_from zero k address = k
section_from (suc n) k address = cond (ltb (slot_at k address) (most_of k)) k (section_from n (k + 1) address)

-- computed: the section whose item begins at the address, past the last if none; theorem section_of_slot [B6, C2]
unfoldable pub section_at : (address : ℕ) → ℕ
section_at address = section_from sections 0 address
