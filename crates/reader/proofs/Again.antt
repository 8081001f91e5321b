-- Read and compiled again: an accepted stream gives an accepted sheet, and that sheet's commands are the stream. Its
-- items come by rising address, so taking them section by section in sending order changes nothing. Assumes nothing.
use Prim.Native.Nat.{ℕ, zero, suc, zero-le, ◌+◌, ◌≤◌, ◌<◌}
use mathlib.Core.Path.{◌≡◌, refl, sym, ap, ap₂, ◌∙◌, subst}
use mathlib.Core.List.{List, [], ◌∷◌, ◌++◌, append_assoc, Memᴰ}
use mathlib.Core.Logic.{⊎_elim}
use native.Mathlib.Decide.{dec_lt, ℕ_discrete}
use native.Mathlib.Nat.{add-zero, zero-add, not-suc-le-zero, le_refl}
use native.Mathlib.Omega.{arith}
use borrow.Author.Tests.{eq-eqb, ne_eqb}
use lib.ListN.{length, get_or, take, take-append-drop, get_or-eq_default}
use Rattle.peek.specs.Bytes.{Bytes}
use Rattle.buffer.specs.declared.Verdict.TheVariants.{Accepted}
use Rattle.buffer.proofs.Faults.{and_then_accepted}
use Rattle.peek.proofs.Numbers.{bytes_nil, bytes_drop}
use Rattle.command.specs.Reading.{number}
use Rattle.records.specs.Sections.{sections, most_of, slot_of, label_of}
use Rattle.sheet.specs.Parsed.{render, Ordered, LabelsDiffer, Sections, WellFormed}
use Rattle.sheet.proofs.Descriptions.{bytes_rendered}
use Rattle.sheet.proofs.Records as records
use Rattle.compiler.specs.Items.{address_of}
use Rattle.compiler.proofs.Joined.{item, stream_sent}
use Rattle.compiler.specs.Stream.{stream_of}
use Rattle.compiler.proofs.Joined.{items, sent}
use Rattle.kinds.specs.Table.{section_at}
use Rattle.reader.specs.Judging.{item_verdict, step_size, rests, items_verdict, stream_verdict}
use Rattle.reader.specs.Back.{label_for, record_in, records_of, sections_of, sheet_in}
use Rattle.reader.proofs.Sending.{slots_rise, Clear, Ranked, sending_ranked, sent_all}
use Rattle.reader.proofs.Cutting.{step_known, rests_none, rests_some, by_rests}
use Rattle.reader.proofs.Items.{label_tells, item_known, item_rising, item_read}
use Rattle.reader.proofs.Trip.{AllBytes}

-- ---- accepted items: their addresses rise, from `low` on

pub data Rising : ℕ → List (List ℕ) → Type 0 where
  done : {low : ℕ} → Rising low []
  next : {low : ℕ} {s : List ℕ} {ss : List (List ℕ)} (low' at : ℕ) → low ≤ number s → item_verdict low' at s ≡ Accepted → Rising (number s + 1) ss
      → Rising low (s ∷ ss)

pub is_rising : (ss : List (List ℕ)) (low at : ℕ) → items_verdict low at ss ≡ Accepted → Rising low ss
unfolding items_verdict
is_rising [] low at e = Rising.done
is_rising (s ∷ ss) low at e =
    let p = and_then_accepted (item_verdict low at s) (items_verdict (number s + 1) (at + step_size s) ss) e in
    Rising.next low at (item_rising low at s p.0) p.0 (is_rising ss (number s + 1) (at + step_size s) p.1)

-- a section whose addresses are all passed has no records
passed : (k : ℕ) {low : ℕ} {ss : List (List ℕ)} → Rising low ss → ((slot : ℕ) → slot < most_of k → address_of k slot < low) → records_of k ss ≡ []
unfolding records_of
passed k Rising.done h = refl
passed k (Rising.next {s = s} low' at l e more) h =
    let other = ne_eqb (section_at (number s)) k (λ q.
    let read = item_read low' at s e k q in
    omega (arith, h (slot_of (record_in s)) read.slot_below, read.address_is)) in
    rw other (passed k more (λ slot m. let z = h slot m in omega arith))

-- one record of bytes more
more_bytes : (r : List ℕ) (rs : List (List ℕ)) → Bytes r → AllBytes rs → AllBytes (r ∷ rs)
more_bytes r rs h b zero = h
more_bytes r rs h b (suc i) = b i

-- the records of a section are in order, and consist of bytes
module _ (k : ℕ) (hk : k < sections) where
  rising_ordered : {low : ℕ} {ss : List (List ℕ)} → Rising low ss → (floor : ℕ)
      → ((slot : ℕ) → slot < most_of k → low ≤ address_of k slot → floor ≤ slot) → Ordered k floor (records_of k ss)
  unfolding records_of
  rising_ordered Rising.done floor h = Ordered.done
  rising_ordered (Rising.next {s = s} low' at l e more) floor h =
      elim (ℕ_discrete (section_at (number s)) k) [
        | yes q ↦
            let mine = eq-eqb (section_at (number s)) k q in
            let read = item_read low' at s e k q in
            rw mine
            (Ordered.next (read.good floor (h (slot_of (record_in s)) read.slot_below (rw read.address_is l)))
            (rising_ordered more (slot_of (record_in s) + 1)
            (λ slot m g.
            let up = slots_rise k (slot_of (record_in s)) slot hk read.slot_below m (rw read.address_is (omega arith)) in
            omega arith)))
        | no n ↦
            let other = ne_eqb (section_at (number s)) k n in
            rw other (rising_ordered more floor (λ slot m g. h slot m (omega arith)))
      ]

  -- each has the reader's label
  rising_labelled : {low : ℕ} {ss : List (List ℕ)} → Rising low ss → (i : ℕ) → i < length (records_of k ss)
      → label_of (get_or (records_of k ss) i []) ≡ label_for k (slot_of (get_or (records_of k ss) i []))
  unfolding records_of
  rising_labelled Rising.done i h = absurd (omega arith)
  rising_labelled (Rising.next {s = s} {ss = ss} low' at l e more) i h =
      elim (ℕ_discrete (section_at (number s)) k) [
        | yes q ↦
            let mine = eq-eqb (section_at (number s)) k q in
            rw mine (labelled (record_in s) (records_of k ss) (item_read low' at s e k q).label_is (rising_labelled more) i (rw mine at h))
        | no n ↦ let other = ne_eqb (section_at (number s)) k n in rw other (rising_labelled more i (rw other at h))
      ]
    where
      labelled : (r : List ℕ) (rs : List (List ℕ)) → label_of r ≡ label_for k (slot_of r)
          → ((i : ℕ) → i < length rs → label_of (get_or rs i []) ≡ label_for k (slot_of (get_or rs i [])))
          → (i : ℕ) → i < length (r ∷ rs) → label_of (get_or (r ∷ rs) i []) ≡ label_for k (slot_of (get_or (r ∷ rs) i []))
      labelled r rs here later zero h = here
      labelled r rs here later (suc i) h = later i (omega arith)

  -- so no two have the same
  rising_differ : {low : ℕ} {ss : List (List ℕ)} → Rising low ss → Ordered k 0 (records_of k ss) → LabelsDiffer (records_of k ss)
  rising_differ {ss = ss} r o i j l h e =
      let a = rising_labelled r i (omega arith) in
      let b = rising_labelled r j h in
      let same = label_tells k (slot_of (get_or (records_of k ss) i [])) (slot_of (get_or (records_of k ss) j [])) (sym a ∙ e ∙ b) in
      omega (arith, records.slots_rise o i j l h)

  rising_bytes : {low : ℕ} {ss : List (List ℕ)} → Rising low ss → AllBytes (records_of k ss)
  unfolding records_of
  rising_bytes Rising.done = λ i. bytes_nil
  rising_bytes (Rising.next {s = s} {ss = ss} low' at l e more) =
      elim (ℕ_discrete (section_at (number s)) k) [
        | yes q ↦ let mine = eq-eqb (section_at (number s)) k q in rw mine (more_bytes (record_in s) (records_of k ss) (item_read low' at s e k q).are_bytes (rising_bytes more))
        | no n ↦ let other = ne_eqb (section_at (number s)) k n in rw other (rising_bytes more)
      ]

-- ---- section by section in sending order

-- the items of some sections, of the records of those sections
sent_from : (order : List ℕ) (ss : List (List ℕ)) → List ℕ
sent_from [] ss = []
sent_from (k ∷ ks) ss = items k (records_of k ss) ++ sent_from ks ss

-- the items as they come
pieces : (ss : List (List ℕ)) → List ℕ
pieces [] = []
pieces (s ∷ ss) = item (section_at (number s)) (record_in s) ++ pieces ss

-- every section that still has an address is one of these
Covers : (order : List ℕ) (low : ℕ) → Type 0
Covers order low = (k slot : ℕ) → k < sections → slot < most_of k → low ≤ address_of k slot → Memᴰ k order

sent_nothing : (order : List ℕ) → sent_from order [] ≡ []
unfolding sent_from records_of items
sent_nothing [] = refl
sent_nothing (k ∷ ks) = sent_nothing ks

-- an item of a section that none of these is
sent_other : (order : List ℕ) (s : List ℕ) (ss : List (List ℕ)) → (Memᴰ (section_at (number s)) order → ⊥) → sent_from order (s ∷ ss) ≡ sent_from order ss
unfolding sent_from records_of
sent_other [] s ss n = refl
sent_other (k ∷ ks) s ss n =
    let other = ne_eqb (section_at (number s)) k (λ q. n (mathlib.Core.List.Memᴰ.head q)) in
    rw other (ap (λ (r : List ℕ). items k (records_of k ss) ++ r) (sent_other ks s ss (λ m. n (mathlib.Core.List.Memᴰ.tail m))))

module _ (k : ℕ) (ks : List ℕ) (hk : k < sections) (above : (slot : ℕ) → slot < most_of k → Clear (address_of k slot + 1) ks)
    (later : (low : ℕ) (ss : List (List ℕ)) → Rising low ss → Covers ks low → sent_from ks ss ≡ pieces ss) where
  gather_next : (low : ℕ) {ss : List (List ℕ)} → Rising low ss → Covers (k ∷ ks) low → items k (records_of k ss) ++ sent_from ks ss ≡ pieces ss
  unfolding records_of items pieces Covers
  gather_next low Rising.done c = sent_nothing ks
  gather_next low (Rising.next {s = s} {ss = ss} low' at l e more) c =
      elim (ℕ_discrete (section_at (number s)) k) [
        | yes q ↦
            let mine = eq-eqb (section_at (number s)) k q in
            let read = item_read low' at s e k q in
            let once : Memᴰ (section_at (number s)) ks → ⊥ = λ m.
            let z = above (slot_of (record_in s)) read.slot_below k (slot_of (record_in s)) (subst (λ (j : ℕ). Memᴰ j ks) q m) read.slot_below in
            omega arith in
            rw (mine, sent_other ks s ss once, append_assoc (item k (record_in s)) (items k (records_of k ss)) (sent_from ks ss))
            (ap₂ (λ (a b : List ℕ). a ++ b) (ap (λ (j : ℕ). item j (record_in s)) (sym q))
            (gather_next (number s + 1) more (λ j slot hj m g. c j slot hj m (omega arith))))
        | no n ↦
            let j = section_at (number s) in
            let known = item_known low' at s e in
            let read = item_read low' at s e j refl in
            let among = c j (slot_of (record_in s)) known read.slot_below (rw read.address_is l) in
            let after : Memᴰ j ks = ⊎_elim (λ q. absurd (n q)) (λ m. m) (mathlib.Core.List.Memᴰ.cases_cons among) in
            let over : (slot : ℕ) → slot < most_of k → address_of k slot < number s = λ slot m.
            omega (arith, above slot m j (slot_of (record_in s)) after read.slot_below, read.address_is) in
            let here : Rising (number s) (s ∷ ss) = Rising.next low' at (le_refl (number s)) e more in
            ap (λ (rs : List (List ℕ)). items k rs ++ sent_from ks (s ∷ ss)) (passed k here over)
            ∙ later (number s) (s ∷ ss) here
            (λ i slot hi m g.
            ⊎_elim (λ q. absurd (not_passed i slot q m g over)) (λ m. m) (mathlib.Core.List.Memᴰ.cases_cons (c i slot hi m (omega arith))))
      ]
    where
      not_passed : (i slot : ℕ) → i ≡ k → slot < most_of i → number s ≤ address_of i slot
          → ((slot : ℕ) → slot < most_of k → address_of k slot < number s) → ⊥
      not_passed i slot q m g over =
          omega (arith, over slot (subst (λ (j : ℕ). slot < most_of j) q m), ap (λ (j : ℕ). address_of j slot) q)

gather : {order : List ℕ} → Ranked order → (low : ℕ) (ss : List (List ℕ)) → Rising low ss → Covers order low → sent_from order ss ≡ pieces ss
unfolding sent_from pieces Covers
gather Ranked.done low ss Rising.done c = refl
gather Ranked.done low ss (Rising.next {s = s} low' at l e more) c =
    let read = item_read low' at s e (section_at (number s)) refl in
    absurd (mathlib.Core.List.Memᴰ.not-nil (c (section_at (number s)) (slot_of (record_in s)) (item_known low' at s e) read.slot_below (rw read.address_is l)))
gather (Ranked.next {k = k} {ks = ks} hk above more) low ss r c = gather_next k ks hk above (gather more) low r c

-- ---- the stream again

-- the items of an accepted stream are the stream
pieces_whole : (s : List ℕ) → Bytes s → (low at : ℕ) → items_verdict low at (rests s) ≡ Accepted → pieces (rests s) ≡ s
unfolding pieces items_verdict
pieces_whole =
    by_rests (λ s. Bytes s → (low at : ℕ) → items_verdict low at (rests s) ≡ Accepted → pieces (rests s) ≡ s)
    (λ s h b low at e. rw (rests_none s h) (nothing s h))
    (λ s h ih b low at e.
    let c = rests_some s h in
    let p = and_then_accepted (item_verdict low at s) _ (rw c at e) in
    let known = item_known low at s p.0 in
    let step = step_known s known in
    let written = (item_read low at s p.0 (section_at (number s)) refl).written b in
    rw c
    (ap₂ (λ (a b : List ℕ). a ++ b) (sym written ∙ ap (λ (n : ℕ). take n s) (sym step))
    (ih (bytes_drop (step_size s) s b) (number s + 1) (at + step_size s) p.1)
    ∙ take-append-drop (step_size s) s))
  where
    nothing : (s : List ℕ) → length s ≤ 0 → [] ≡ s
    nothing [] h = refl
    nothing (x ∷ s) h = absurd (not-suc-le-zero h)

-- section k of the sheet that is read
section_read : (ss : List (List ℕ)) (n k i : ℕ) → i < n → get_or (sections_of n k ss) i [] ≡ records_of (k + i) ss
unfolding sections_of
section_read ss zero k i h = absurd (not-suc-le-zero h)
section_read ss (suc n) k zero h = ap (λ (j : ℕ). records_of j ss) (sym (add-zero k))
section_read ss (suc n) k (suc i) h =
    let e : k + 1 + i ≡ k + suc i = omega arith in section_read ss n (k + 1) i (omega arith) ∙ ap (λ (j : ℕ). records_of j ss) e

read_count : (ss : List (List ℕ)) (n k : ℕ) → length (sections_of n k ss) ≡ n
unfolding sections_of
read_count ss zero k = refl
read_count ss (suc n) k = ap suc (read_count ss n (k + 1))

-- sections of such records are well formed
read_good : (ss : List (List ℕ)) (n k : ℕ) → ((j : ℕ) → j < k + n → Ordered j 0 (records_of j ss) × LabelsDiffer (records_of j ss))
    → Sections k (sections_of n k ss)
unfolding sections_of
read_good ss zero k h = Sections.done
read_good ss (suc n) k h = Sections.next (h k (omega arith)).0 (h k (omega arith)).1 (read_good ss n (k + 1) (λ j l. h j (omega arith)))

pub sheet_section : (s : List ℕ) (k : ℕ) → k < sections → get_or (sheet_in s) k [] ≡ records_of k (rests s)
unfolding sheet_in
sheet_section s k h = section_read (rests s) sections 0 k h ∙ ap (λ (j : ℕ). records_of j (rests s)) (zero-add k)

sent_read : (s : List ℕ) {order : List ℕ} → Ranked order → sent order (sheet_in s) ≡ sent_from order (rests s)
unfolding sent sent_from
sent_read s Ranked.done = refl
sent_read s (Ranked.next {k = k} hk above more) =
    ap₂ (λ (a b : List ℕ). a ++ b) (ap (items k) (sheet_section s k hk)) (sent_read s more)

module _ (s : List ℕ) (e : stream_verdict s ≡ Accepted) where
  rising : Rising 0 (rests s)
  unfolding stream_verdict
  rising = is_rising (rests s) 0 0 e

  -- compiling the sheet that is read gives the stream
  pub again_stream : Bytes s → stream_of (sheet_in s) ≡ s
  unfolding Covers stream_verdict
  again_stream b =
      stream_sent (sheet_in s)
      ∙ sent_read s sending_ranked
      ∙ gather sending_ranked 0 (rests s) rising (λ k slot h m g. sent_all k h)
      ∙ pieces_whole s b 0 0 e

  -- the records of a section are in order
  pub again_ordered : (k : ℕ) → k < sections → Ordered k 0 (records_of k (rests s))
  again_ordered k h = rising_ordered k h rising 0 (λ slot m g. zero-le)

  -- under different labels
  pub again_differ : (k : ℕ) → k < sections → LabelsDiffer (records_of k (rests s))
  again_differ k h = rising_differ k h rising (again_ordered k h)

  -- that sheet is well formed
  pub again_well_formed : WellFormed (sheet_in s)
  unfolding sheet_in
  again_well_formed = record { all = read_count (rests s) sections 0; good = read_good (rests s) sections 0 (λ k h. (again_ordered k h, again_differ k h)) }

  -- and consists of bytes
  pub again_bytes : Bytes (render (sheet_in s))
  again_bytes = bytes_rendered again_well_formed.good (λ k. records (dec_lt k sections))
    where
      records : {k : ℕ} → Dec (k < sections) → AllBytes (get_or (sheet_in s) k [])
      records {k} (yes h) = rw (sheet_section s k h) (rising_bytes k h rising)
      records {k} (no h) =
          let past : length (sheet_in s) ≤ k = omega (arith, again_well_formed.all) in
          rw (get_or-eq_default (sheet_in s) [] {n = k} past) (λ i. bytes_nil)
