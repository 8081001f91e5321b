-- How much of a stream the reader looks at: an accepted stream has at most `longest_stream` bytes, and of any other one whole
-- command more settles the refusal. Assumes nothing.
use Prim.Native.Nat.{ℕ, zero, suc, ◌+◌, ◌*◌, ◌≤◌, ◌<◌, ◌-◌}
use mathlib.Core.Path.{◌≡◌, refl, sym, ap, ap₂, ◌∙◌}
use mathlib.Core.Bool.{Bool, not, cond}
use mathlib.Core.List.{List, [], ◌∷◌, ◌++◌}
use native.Mathlib.Decide.{dec_lt, dec_le}
use native.Mathlib.Nat.{le_refl}
use native.Mathlib.Omega.{arith}
use borrow.Author.Tests.{lt-ltb, le-ltb}
use lib.Dec.{eqb, ltb}
use lib.ListN.{length, take, drop, length-take, length-drop}
use lib.Seq.{get_or-take, take_all}
use Rattle.buffer.specs.Verdict.{and_then, refuse_if}
use Rattle.buffer.specs.Room.{bytes, unless}
use Rattle.buffer.specs.declared.Verdict.{Verdict}
use Rattle.buffer.specs.declared.Verdict.TheVariants.{Accepted, Refused}
use Rattle.buffer.proofs.Faults.{and_then_accepted, and_then_assoc}
use Rattle.peek.proofs.Numbers.{u32_take}
use Rattle.command.specs.Command.{select_op, load_op}
use Rattle.command.specs.Reading.{number, command_verdict, loads_verdict, words_in}
use Rattle.records.specs.Sections.{sections, kind_of, most_of}
use Rattle.sheet.specs.Parsed.{render}
use Rattle.records.proofs.Records.{drop_take}
use Rattle.compiler.specs.Stream.{longest_by, longest_stream}
use Rattle.compiler.specs.Items.{address_of, lengths_of, size_of, item_size}
use Rattle.compiler.specs.Chains.{words_read}
use Rattle.kinds.specs.Table.{slot_from, slot_at, section_from, section_at}
use Rattle.reader.specs.Judging.{description_in, first_verdict, chains_verdict, item_verdict, step_size, rests, items_verdict, stream_verdict}
use Rattle.reader.specs.Back.{sheet_in, read_back}
use Rattle.kinds.proofs.Places.{known_small}
use Rattle.reader.proofs.Cutting.{step_known, rests_none, rests_some, by_rests}
use Rattle.reader.proofs.Items.{first_accepted, item_known, item_rising}
use Rattle.kinds.specs.Table.{chain_count, chain_length}

-- ---- what the first n bytes settle

command_prefix : (op at n : ℕ) (s : List ℕ) → 5 ≤ n → command_verdict op at (take n s) ≡ command_verdict op at s
unfolding command_verdict
command_prefix op at n s h =
    ap₂ (λ (a : Bool) (b : ℕ). and_then (refuse_if a 13 at) (refuse_if (not (eqb b op)) 14 at)) (short (dec_lt (length s) 5)) (get_or-take n s 0 0 (omega arith))
  where
    short : Dec (length s < 5) → ltb (length (take n s)) 5 ≡ ltb (length s) 5
    short (yes l) = lt-ltb (length (take n s)) 5 (omega (arith, length-take n s)) ∙ sym (lt-ltb (length s) 5 l)
    short (no l) = le-ltb (length (take n s)) 5 (omega (arith, length-take n s)) ∙ sym (le-ltb (length s) 5 (omega arith))

number_prefix : (n : ℕ) (s : List ℕ) → 5 ≤ n → number (take n s) ≡ number s
number_prefix n s h = u32_take n s 1 h

loads_prefix : (k at n : ℕ) (s : List ℕ) → 5 * k ≤ n → loads_verdict k at (take n s) ≡ loads_verdict k at s
unfolding loads_verdict
loads_prefix zero at n s h = refl
loads_prefix (suc k) at n s h =
    ap₂ and_then (command_prefix load_op at n s (omega arith))
    (ap (loads_verdict k (at + 5)) (drop_take 5 n s) ∙ loads_prefix k (at + 5) (n - 5) (drop 5 s) (omega arith))

words_prefix : (k n : ℕ) (s : List ℕ) → 5 * k ≤ n → words_in k (take n s) ≡ words_in k s
unfolding words_in
words_prefix zero n s h = refl
words_prefix (suc k) n s h =
    ap₂ (λ (w : ℕ) (ws : List ℕ). w ∷ ws) (number_prefix n s (omega arith))
    (ap (words_in k) (drop_take 5 n s) ∙ words_prefix k (n - 5) (drop 5 s) (omega arith))

item_words_prefix : (lengths : List ℕ) (n : ℕ) (s : List ℕ) → size_of lengths ≤ n → words_read lengths (take n s) ≡ words_read lengths s
unfolding words_read size_of
item_words_prefix [] n s h = refl
item_words_prefix (m ∷ ms) n s h =
    ap₂ (λ (a b : List ℕ). a ++ b) (ap (words_in m) (drop_take 5 n s) ∙ words_prefix m (n - 5) (drop 5 s) (omega arith))
    (ap (words_read ms) (drop_take (5 + 5 * m) n s) ∙ item_words_prefix ms (n - (5 + 5 * m)) (drop (5 + 5 * m) s) (omega arith))

chains_prefix : (lengths : List ℕ) (address at n : ℕ) (s : List ℕ) → size_of lengths ≤ n
    → chains_verdict lengths address at (take n s) ≡ chains_verdict lengths address at s
unfolding chains_verdict size_of
chains_prefix [] address at n s h = refl
chains_prefix (m ∷ ms) address at n s h =
    let k = 5 + 5 * m in
    ap₂ and_then (command_prefix select_op at n s (omega arith))
    (ap₂ and_then (ap (λ (a : ℕ). refuse_if (not (eqb a address)) 15 at) (number_prefix n s (omega arith)))
    (ap₂ and_then (ap (loads_verdict m (at + 5)) (drop_take 5 n s) ∙ loads_prefix m (at + 5) (n - 5) (drop 5 s) (omega arith))
    (ap (chains_verdict ms (address + 1) (at + k)) (drop_take k n s) ∙ chains_prefix ms (address + 1) (at + k) (n - k) (drop k s) (omega arith))))

-- of an item
module _ (n : ℕ) (s : List ℕ) (five : 5 ≤ n) where
  step_prefix : step_size (take n s) ≡ step_size s
  unfolding step_size
  step_prefix = rw (number_prefix n s five)

  first_prefix : (low at : ℕ) → first_verdict low at (take n s) ≡ first_verdict low at s
  unfolding first_verdict
  first_prefix low at = rw (command_prefix select_op at n s five, number_prefix n s five)

  item_prefix : (low at : ℕ) → item_size (section_at (number s)) ≤ n → item_verdict low at (take n s) ≡ item_verdict low at s
  unfolding item_verdict description_in item_size
  item_prefix low at h =
      let lengths = lengths_of (section_at (number s)) in
      rw (first_prefix low at, number_prefix n s five, chains_prefix lengths (number s) at n s h, item_words_prefix lengths n s h)

-- ---- how many bytes the items from an address on can have

-- the item at an address; none at an unknown one
size_at : (a : ℕ) → ℕ
size_at a = cond (ltb (section_at a) sections) (item_size (section_at a)) 0

-- the items at n addresses from a on
sizes_from : (n a : ℕ) → ℕ
sizes_from zero a = 0
sizes_from (suc n) a = size_at a + sizes_from n (a + 1)

-- those from `low` on; no address is above 7E
left : (low : ℕ) → ℕ
left low = sizes_from (0x80 - low) low

left_next : (low : ℕ) → low < 0x80 → left low ≡ size_at low + left (low + 1)
unfolding left sizes_from
left_next low h =
    let e : 0x80 - low ≡ suc (0x80 - (low + 1)) = omega arith in ap (λ (n : ℕ). sizes_from n low) e

left_falls : (d low : ℕ) → low + d ≤ 0x80 → left (low + d) ≤ left low
left_falls zero low h = let e : low + 0 ≡ low = omega arith in rw e (le_refl (left low))
left_falls (suc d) low h =
    let e : low + suc d ≡ low + 1 + d = omega arith in
    rw e (omega (arith, left_falls d (low + 1) (omega arith), left_next low (omega arith)))

-- an item at an address from `low` on, and what may come behind it
module _ (low a : ℕ) (h : low ≤ a) (known : section_at a < sections) where
  left_item : item_size (section_at a) + left (a + 1) ≤ left low
  unfolding size_at
  left_item =
      let small = known_small a known in
      let e : low + (a - low) ≡ a = omega arith in
      let falls = rw e at (left_falls (a - low) low (omega arith)) in
      let size : size_at a ≡ item_size (section_at a) = simp (lt-ltb (section_at a) sections known) in
      omega (arith, left_next a small)

-- all the items that there are
all_items : left 0 ≡ longest_stream
unfolding longest_by left sizes_from size_at item_size size_of lengths_of chain_count chain_length kind_of section_at section_from slot_at slot_from most_of address_of
all_items = refl

-- ---- streams

-- a refusal settles all
stop : (v a b : Verdict) → (v ≡ Accepted → ⊥) → and_then v a ≡ and_then v b
stop Accepted a b n = absurd (n refl)
stop (Refused number place) a b n = refl

-- an item, where what follows is settled if its address is one that may come
module _ (s : List ℕ) (low at n : ℕ) (enough : left low + 5 ≤ n) (later later' : Verdict) where
  refused_first : (first_verdict low at s ≡ Accepted → ⊥) → and_then (item_verdict low at (take n s)) later' ≡ and_then (item_verdict low at s) later
  unfolding item_verdict
  refused_first never =
      let v = first_verdict low at s in
      rw (first_prefix n s (omega arith) low at) (and_then_assoc v _ later' ∙ stop v _ _ never ∙ sym (and_then_assoc v _ later))

  settled : (section_at (number s) < sections → low ≤ number s → later' ≡ later)
      → and_then (item_verdict low at (take n s)) later' ≡ and_then (item_verdict low at s) later
  settled same = go (dec_lt (section_at (number s)) sections) (dec_le low (number s))
    where
      go : Dec (section_at (number s) < sections) → Dec (low ≤ number s)
          → and_then (item_verdict low at (take n s)) later' ≡ and_then (item_verdict low at s) later
      go (yes known) (yes rising) =
          ap₂ and_then (item_prefix n s (omega arith) low at (omega (arith, left_item low (number s) rising known))) (same known rising)
      go (yes known) (no below) = refused_first (λ e. below (first_accepted low at s e).1)
      go (no unknown) rising = refused_first (λ e. unknown (first_accepted low at s e).0)

prefix_judged : (s : List ℕ) (low at n : ℕ) → left low + 5 ≤ n → items_verdict low at (rests (take n s)) ≡ items_verdict low at (rests s)
unfolding items_verdict
prefix_judged =
    by_rests (λ s. (low at n : ℕ) → left low + 5 ≤ n → items_verdict low at (rests (take n s)) ≡ items_verdict low at (rests s))
    (λ s h low at n l. rw (rests_none s h, rests_none (take n s) (omega (arith, length-take n s))))
    (λ s h ih low at n l.
    let c = rests_some s h in
    let d = rests_some (take n s) (omega (arith, length-take n s)) in
    let five : 5 ≤ n = omega arith in
    rw (c, d, number_prefix n s five, step_prefix n s five, drop_take (step_size s) n s)
    (settled s low at n l _ _ (λ known rising.
    ih (number s + 1) (at + step_size s) (n - step_size s) (omega (arith, step_known s known, left_item low (number s) rising known)))))

accepted_fits : (s : List ℕ) (low at : ℕ) → items_verdict low at (rests s) ≡ Accepted → length s ≤ left low
unfolding items_verdict
accepted_fits =
    by_rests (λ s. (low at : ℕ) → items_verdict low at (rests s) ≡ Accepted → length s ≤ left low)
    (λ s h low at e. omega arith)
    (λ s h ih low at e.
    let p = and_then_accepted (item_verdict low at s) _ (rw (rests_some s h) at e) in
    let known = item_known low at s p.0 in
    omega (
      arith,
      ih (number s + 1) (at + step_size s) p.1,
      step_known s known,
      left_item low (number s) (item_rising low at s p.0) known,
      length-drop (step_size s) s,
    ))

-- an accepted stream is no longer than the longest
pub accepted_short : (s : List ℕ) → stream_verdict s ≡ Accepted → length s ≤ longest_stream
unfolding stream_verdict
accepted_short s e = rw all_items at (accepted_fits s 0 0 e)

-- the verdict, and so the answer, is settled by five bytes more than the longest stream has
pub prefix_verdict : (s : List ℕ) (n : ℕ) → longest_stream + 5 ≤ n → stream_verdict (take n s) ≡ stream_verdict s
unfolding stream_verdict
prefix_verdict s n h = prefix_judged s 0 0 n (rw all_items h)

pub prefix_read : (s : List ℕ) (n : ℕ) → longest_stream + 5 ≤ n → read_back (take n s) ≡ read_back s
prefix_read s n h = rw (prefix_verdict s n h) (go (stream_verdict s) refl)
  where
    go : (v : Verdict) → stream_verdict s ≡ v → unless v (render (sheet_in (take n s))) ≡ unless v (render (sheet_in s))
    go Accepted e = ap (λ (t : List ℕ). bytes (render (sheet_in t))) (take_all n s (omega (arith, accepted_short s e)))
    go (Refused number place) e = refl
