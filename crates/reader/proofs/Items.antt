-- Items, there and back: the item of a record without fault is accepted and read as that record relabelled, and an
-- accepted item is that of the record it is read as. Assumes nothing.
use Prim.Native.Nat.{ℕ, ◌+◌, ◌/◌, ◌%◌, ◌≤◌, ◌<◌, ◌^◌}
use mathlib.Core.Path.{◌≡◌, refl, sym, ap, ◌∙◌, subst}
use mathlib.Core.Bool.{true, ◌||◌}
use mathlib.Core.List.{List, ◌∷◌, ◌++◌}
use native.Mathlib.Omega.{arith}
use borrow.Author.Tests.{le-leb, lt-leb, le-ltb, ne_eqb, leb-false, ltb-false, eqb-false}
use lib.Dec.{eqb, ltb, leb, leb→le, lit<}
use lib.ListN.{length, get_or, take, drop, length-append, length-drop, length-map}
use lib.Seq.{take_at, drop_at}
use Rattle.lines.proofs.Computed.{every_below_law}
use Rattle.lines.proofs.Truth.{neither}
use Rattle.peek.specs.Bytes.{Bytes}
use Rattle.compare.specs.Within.{all_within}
use Rattle.buffer.specs.Verdict.{refuse_if}
use Rattle.buffer.specs.declared.Verdict.TheVariants.{Accepted}
use Rattle.buffer.proofs.Faults.{and_then_accepted, and_then_both, refuse_if_accepted}
use Rattle.peek.proofs.Numbers.{bytes_cons, bytes_append, bytes_drop}
use Rattle.compare.proofs.Within.{within_bytes}
use Rattle.command.specs.Command.{select_op}
use Rattle.command.specs.Reading.{number, command_verdict}
use Rattle.records.specs.Sections.{sections, label_size, most_of, description_size, record_size, description_fault, slot_of, label_of, description_of}
use Rattle.sheet.specs.Parsed.{Faultless}
use Rattle.kinds.proofs.Rows.{most_byte, letter_plain}
use Rattle.compiler.specs.Items.{kind_of, address_of, lengths_of, chains_of, item_size}
use Rattle.compiler.proofs.Joined.{item}
use Rattle.compiler.specs.Chains.{words_read}
use Rattle.compiler.proofs.ItemLaws.{chains_lengths, item_length}
use Rattle.kinds.proofs.Addresses.{address_small, chains_some}
use Rattle.compiler.proofs.Held as held
use Rattle.kinds.specs.Table.{letter_of, slot_at, section_at}
use Rattle.reader.specs.Judging.{description_in, first_verdict, chains_verdict, item_verdict, step_size}
use Rattle.reader.specs.Back.{label_for, record_in}
use Rattle.reader.specs.Relabelled.{cut_description, relabel}
use Rattle.kinds.proofs.Places.{slot_fits, slot_address, section_of_slot, slot_of_address}
use Rattle.reader.proofs.Cutting.{step_known}
use Rattle.reader.proofs.Ways.{Described, way}
use Rattle.reader.proofs.Chains.{chains_accepted, chains_number, chains_select, chains_whole, chains_written}
use Rattle.kinds.specs.Table.{chain_count, chain_length}

-- ---- labels

pub label_length : (k slot : ℕ) → length (label_for k slot) ≡ label_size
label_length k slot = refl

-- its bytes are allowed
pub label_plain : (k slot : ℕ) → k < sections → slot < most_of k → all_within 0x20 0x7E (label_for k slot) ≡ true
unfolding all_within
label_plain k slot h fits =
    let letter = letter_plain k h in
    let small : slot < 256 = omega (arith, most_byte k) in
    simp (
      le-leb 0x20 (letter_of k) letter.0,
      le-leb (letter_of k) 0x7E letter.1,
      le-leb 0x20 (48 + slot / 10) (omega arith),
      le-leb (48 + slot / 10) 0x7E (omega arith),
      le-leb 0x20 (48 + slot % 10) (omega arith),
      le-leb (48 + slot % 10) 0x7E (omega arith),
    )

pub label_bytes : (k slot : ℕ) → k < sections → slot < most_of k → Bytes (label_for k slot)
label_bytes k slot h fits = within_bytes 0x20 0x7E (label_for k slot) (lit< tt) (label_plain k slot h fits)

-- and it tells the slot, so no two slots of a section get one label
pub label_tells : (k a b : ℕ) → label_for k a ≡ label_for k b → a ≡ b
label_tells k a b e =
    let tens : 48 + a / 10 ≡ 48 + b / 10 = ap (λ (l : List ℕ). get_or l 1 0) e in
    let ones : 48 + a % 10 ≡ 48 + b % 10 = ap (λ (l : List ℕ). get_or l 2 0) e in
    omega arith

-- a record with such a label
module _ (k slot : ℕ) (d : List ℕ) where
  pub made_label : label_of (slot ∷ (label_for k slot ++ d)) ≡ label_for k slot
  made_label = take_at (label_for k slot) d label_size (label_length k slot)

  pub made_description : description_of (slot ∷ (label_for k slot ++ d)) ≡ d
  made_description = drop_at (label_for k slot) d label_size (label_length k slot)

  pub made_length : length d ≡ description_size k → length (slot ∷ (label_for k slot ++ d)) ≡ record_size k
  made_length h = omega (arith, length-append (label_for k slot) d, label_length k slot)

-- ---- how many chains

few_chains : (k : ℕ) → k < sections → length (lengths_of k) ≤ 255
unfolding lengths_of chain_count chain_length kind_of
few_chains k h = leb→le _ _ (every_below_law sections (λ k. leb (length (lengths_of k)) 255) tt k h)

chains_count : (k : ℕ) (d : List ℕ) → length (chains_of k d) ≡ length (lengths_of k)
chains_count k d = sym (length-map (chains_of k d) length) ∙ ap length (chains_lengths k d)

-- ---- what makes an item accepted

item_judged : (low at : ℕ) (s : List ℕ) → section_at (number s) < sections → low ≤ number s
    → chains_verdict (lengths_of (section_at (number s))) (number s) at s ≡ Accepted → 0 < length (description_in s) → item_verdict low at s ≡ Accepted
unfolding item_verdict first_verdict
item_judged low at s known rising chains some =
    let k = section_at (number s) in
    let select : command_verdict select_op at s ≡ Accepted = chains_select (lengths_of k) (number s) at s (chains_some k known) chains in
    let due : refuse_if (leb sections k || ltb (number s) low) 15 at ≡ Accepted = simp (lt-leb sections k known, le-ltb (number s) low rising) in
    let read : refuse_if (eqb (length (description_in s)) 0) 16 at ≡ Accepted = simp (ne_eqb (length (description_in s)) 0 (λ e. omega arith)) in
    and_then_both _ _ (and_then_both _ _ select due) (and_then_both _ _ chains read)

-- ---- there

module _ (k floor : ℕ) (r rest : List ℕ) (hk : k < sections) (f : Faultless k floor r) (b : Bytes r) where
  fits : address_of k (slot_of r) < 0x80
  fits = address_small k (slot_of r) hk f.slot_fits

  pub item_number : number (item k r ++ rest) ≡ address_of k (slot_of r)
  unfolding item
  item_number = chains_number (address_of k (slot_of r)) (chains_of k (description_of r)) rest (omega (arith, chains_count k (description_of r), chains_some k hk)) (omega (arith, fits))

  pub item_section : section_at (number (item k r ++ rest)) ≡ k
  item_section = ap section_at item_number ∙ section_of_slot k (slot_of r) hk f.slot_fits

  pub item_slot : slot_at k (number (item k r ++ rest)) ≡ slot_of r
  item_slot = ap (slot_at k) item_number ∙ slot_of_address k (slot_of r) hk f.slot_fits

  pub item_step : step_size (item k r ++ rest) ≡ item_size k
  item_step = step_known (item k r ++ rest) (rw item_section hk) ∙ ap item_size item_section

  pub item_past : drop (step_size (item k r ++ rest)) (item k r ++ rest) ≡ rest
  item_past = rw item_step (drop_at (item k r) rest (item_size k) (item_length k r))

  whole : length (description_of r) ≡ description_size k
  whole = omega (arith, length-drop (1 + label_size) r, f.whole)

  pub item_description : description_in (item k r ++ rest) ≡ cut_description k (description_of r)
  unfolding description_in
  item_description =
      rw (item_section, held.item_read k r rest) ((way k hk).back (description_of r) (bytes_drop (1 + label_size) r b) whole f.description_fits)

  pub item_record : record_in (item k r ++ rest) ≡ relabel k r
  unfolding record_in relabel
  item_record = rw (item_section, item_slot, item_description)

  pub item_accepted : (low at : ℕ) → low ≤ address_of k (slot_of r) → item_verdict low at (item k r ++ rest) ≡ Accepted
  unfolding item
  item_accepted low at h =
      let chains = chains_of k (description_of r) in
      let few : address_of k (slot_of r) + length chains ≤ 2 ^ 32 = omega (arith, fits, chains_count k (description_of r), few_chains k hk) in
      let some : 0 < length (description_in (item k r ++ rest)) =
      rw (item_description, (way k hk).cut_whole (description_of r) whole) (way k hk).some in
      item_judged low at (item k r ++ rest) (rw item_section hk) (rw item_number h)
      (rw (item_section, item_number, ← chains_lengths k (description_of r)) (chains_accepted (address_of k (slot_of r)) at chains rest few)) some

-- ---- and back

-- an item's first select that is accepted
pub first_accepted : (low at : ℕ) (s : List ℕ) → first_verdict low at s ≡ Accepted → (section_at (number s) < sections) × (low ≤ number s)
unfolding first_verdict
first_accepted low at s e =
    let unknown = leb sections (section_at (number s)) in
    let below = ltb (number s) low in
    let due = neither unknown below (refuse_if_accepted (unknown || below) 15 at (and_then_accepted (command_verdict select_op at s) _ e).1) in
    (leb-false sections (section_at (number s)) due.0, ltb-false (number s) low due.1)

module _ (low at : ℕ) (s : List ℕ) (e : item_verdict low at s ≡ Accepted) where
  first_ok : (section_at (number s) < sections) × (low ≤ number s)
  unfolding item_verdict
  first_ok = first_accepted low at s (and_then_accepted (first_verdict low at s) _ e).0

  later_ok : (chains_verdict (lengths_of (section_at (number s))) (number s) at s ≡ Accepted) × (0 < length (description_in s))
  unfolding item_verdict
  later_ok =
      let p = and_then_accepted (chains_verdict (lengths_of (section_at (number s))) (number s) at s) _ (and_then_accepted (first_verdict low at s) _ e).1 in
      let q = eqb-false (length (description_in s)) 0 (refuse_if_accepted (eqb (length (description_in s)) 0) 16 at p.1) in
      (p.0, positive (length (description_in s)) q)
    where
      positive : (n : ℕ) → (n ≡ 0 → ⊥) → 0 < n
      positive n h = omega arith

  pub item_known : section_at (number s) < sections
  item_known = first_ok.0

  pub item_rising : low ≤ number s
  item_rising = first_ok.1

  pub item_whole : item_size (section_at (number s)) ≤ length s
  unfolding item_size
  item_whole = chains_whole (lengths_of (section_at (number s))) (number s) at s later_ok.0

  described : Described (section_at (number s)) (words_read (lengths_of (section_at (number s))) s) (description_in s)
  unfolding description_in
  described = (way (section_at (number s)) item_known).exactly (words_read (lengths_of (section_at (number s))) s) later_ok.1

  pub record_bytes : Bytes (record_in s)
  unfolding record_in
  record_bytes =
      let k = section_at (number s) in
      let slot = slot_at k (number s) in
      bytes_cons slot (label_for k slot ++ description_in s) (omega (arith, slot_fits (number s) item_known, most_byte k))
      (bytes_append (label_for k slot) (description_in s) (label_bytes k slot item_known (slot_fits (number s) item_known)) described.are_bytes)

  pub record_faultless : (floor : ℕ) → floor ≤ slot_at (section_at (number s)) (number s) → Faultless (section_at (number s)) floor (record_in s)
  unfolding record_in
  record_faultless floor h =
      let k = section_at (number s) in
      let slot = slot_at k (number s) in
      record {
        whole = made_length k slot (description_in s) described.whole;
        slot_fits = slot_fits (number s) item_known;
        rising = h;
        label_fits = ap (all_within 0x20 0x7E) (made_label k slot (description_in s)) ∙ label_plain k slot item_known (slot_fits (number s) item_known);
        description_fits = ap (description_fault k) (made_description k slot (description_in s)) ∙ described.faultless;
      }

  pub item_written : Bytes s → take (item_size (section_at (number s))) s ≡ item (section_at (number s)) (record_in s)
  unfolding record_in item item_size
  item_written b =
      let k = section_at (number s) in
      let lengths = chains_lengths k (description_in s) in
      let chains = rw (← lengths) at later_ok.0 in
      let words = rw (← lengths) at described.written in
      rw (slot_address (number s) item_known, made_description k (slot_at k (number s)) (description_in s), ← lengths)
      (chains_written (chains_of k (description_in s)) (number s) at s b chains words)

-- what an accepted item tells of the section that has it
pub record Read (k : ℕ) (s : List ℕ) : Type 0 where
  pub label_is : label_of (record_in s) ≡ label_for k (slot_of (record_in s))
  pub slot_below : slot_of (record_in s) < most_of k
  pub address_is : address_of k (slot_of (record_in s)) ≡ number s
  pub good : (floor : ℕ) → floor ≤ slot_of (record_in s) → Faultless k floor (record_in s)
  pub are_bytes : Bytes (record_in s)
  pub there : item_size k ≤ length s
  pub written : Bytes s → take (item_size k) s ≡ item k (record_in s)

pub item_read : (low at : ℕ) (s : List ℕ) → item_verdict low at s ≡ Accepted → (k : ℕ) → section_at (number s) ≡ k → Read k s
unfolding record_in
item_read low at s e k q =
    subst (λ (j : ℕ). Read j s) q
    (record {
      label_is = made_label (section_at (number s)) (slot_at (section_at (number s)) (number s)) (description_in s);
      slot_below = slot_fits (number s) (item_known low at s e);
      address_is = slot_address (number s) (item_known low at s e);
      good = record_faultless low at s e;
      are_bytes = record_bytes low at s e;
      there = item_whole low at s e;
      written = item_written low at s e;
    })
