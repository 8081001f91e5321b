-- The walk over a stream, item by item: the verdict is that of the items that are left, and each part of the room holds
-- the records of its section's items before them. Assumes nothing.
use Prim.Native.Nat.{ℕ, zero, suc, zero-le, ◌+◌, ◌*◌, ◌≤◌, ◌<◌}
use mathlib.Core.Path.{◌≡◌, refl, sym, ap, ap₂, ◌∙◌, subst}
use mathlib.Core.List.{List, [], ◌∷◌, ◌++◌, append_assoc, append-nil}
use native.Mathlib.Decide.{dec_lt, ℕ_discrete}
use native.Mathlib.Nat.{le_refl, mul-le-mul, zero-mul}
use native.Mathlib.Omega.{arith}
use borrow.Author.Tests.{eq-eqb, ne_eqb}
use lib.Dec.{eqb}
use lib.ListN.{length, get_or, take, drop, replicate, length-append, length-drop, length-replicate, get_or-replicate, get_or-eq_default}
use lib.Seq.{drop-cons}
use Rattle.buffer.specs.Verdict.{and_then, refuse_if}
use Rattle.buffer.specs.declared.Verdict.{Verdict}
use Rattle.buffer.specs.declared.Verdict.TheVariants.{Accepted, Refused}
use Rattle.buffer.proofs.Faults.{no_refusal_law, and_then_accepted, and_then_assoc, and_then_stop, and_then_go}
use Rattle.command.specs.Reading.{number, words_in}
use Rattle.command.proofs.Checked.{length_words}
use Rattle.kinds.specs.Table.{sections, most_of, address_of, chain_count, chain_length, lengths_of, slot_at, section_at, description_read}
use Rattle.kinds.proofs.Places.{slot_fits, slot_address}
use Rattle.records.specs.Sections.{record_size}
use Rattle.sheet.specs.Parsed.{joined, render}
use Rattle.compiler.specs.Items.{item_size}
use Rattle.compiler.specs.Chains.{words_read}
use Rattle.records.proofs.Bounds.{times, one_more}
use Rattle.reader.specs.Judging.{description_in, first_verdict, chains_verdict, item_verdict, step_size, rests, items_verdict, stream_verdict}
use Rattle.reader.specs.Back.{label_for, record_in, records_of, sections_of, sheet_in}
use Rattle.reader.specs.Taking.{part_size, count_in, part_of, parts_from, kept, Empty, Walked}
use Rattle.reader.proofs.Sending.{slots_rise}
use Rattle.reader.proofs.Cutting.{step_known}
use Rattle.reader.proofs.Items.{first_accepted, item_read}
use Rattle.reader.proofs.Judged.{items_turn, items_end}
use Rattle.reader.proofs.Cutting.{records_own, records_other, records_end}
use Rattle.reader.proofs.Keeping.{section_fits}
use Rattle.reader.proofs.Parts.{Holds, holds_count, holds_part, joined_more, kept_size, holds_other, holds_more}

-- what the room holds of section k: rs, the records of its items before `at`; there are no more of them than slots
-- whose addresses are below `low`
pub record Kept (s : List ℕ) (low at k : ℕ) (room : List ℕ) : Type 0 where
  pub rs : List (List ℕ)
  pub holds : Holds k rs room
  pub more : rs ++ records_of k (rests (drop at s)) ≡ records_of k (rests s)
  pub even : length (joined rs) ≡ length rs * record_size k
  pub few : length rs ≤ most_of k
  pub passed : (slot : ℕ) → slot < most_of k → low ≤ address_of k slot → length rs ≤ slot

pub record Walking (s : List ℕ) (low at : ℕ) (room : List ℕ) : Type 0 where
  pub verdict : items_verdict low at (rests (drop at s)) ≡ stream_verdict s
  pub size : length room ≡ sections * part_size
  pub parts : (k : ℕ) → k < sections → Kept s low at k room

-- ---- at the start

pub walking_start : (s room : List ℕ) → Empty room → Walking s 0 0 room
unfolding stream_verdict joined
walking_start s room e =
    record {
      verdict = refl;
      size = e.size;
      parts = λ k h.
          record {
            rs = [];
            holds =
                ap (take 1) (drop-cons room (part_size * k) 0 (omega (arith, e.size)))
                ∙ ap (λ (n : ℕ). n ∷ []) (e.none k);
            more = refl;
            even = sym (zero-mul (record_size k));
            few = zero-le;
            passed = λ slot m g. zero-le;
          };
    }

-- a room of zeros
pub empty_room : (n : ℕ) → n ≡ sections * part_size → Empty (replicate n 0)
empty_room n e = record { size = length-replicate n 0 ∙ e; none = λ k. zero_at (part_size * k) }
  where
    zero_at : (i : ℕ) → ◌≡◌ {A = ℕ} (get_or (replicate n 0) i 0) 0
    zero_at i =
        elim (dec_lt i n) [
          | yes l ↦ get_or-replicate n i 0 0 l
          | no m ↦ get_or-eq_default (replicate n 0) 0 {n = i} (omega (arith, length-replicate {A = ℕ} n 0))
        ]

-- ---- the words of an item are as many as its chains hold

words_total : (c n : ℕ) (s : List ℕ) → length (words_read (replicate c n) s) ≡ c * n
unfolding words_read
words_total zero n s = sym (zero-mul n)
words_total (suc c) n s =
    length-append (words_in n (drop 5 s)) (words_read (replicate c n) (drop (5 + 5 * n) s))
    ∙ ap₂ ◌+◌ (length_words n (drop 5 s)) (words_total c n (drop (5 + 5 * n) s))
    ∙ sym (times c n)

pub words_of_law : (k : ℕ) (s words : List ℕ) → take (length (words_read (lengths_of k) s)) words ≡ words_read (lengths_of k) s
    → take (chain_count k * chain_length k) words ≡ words_read (lengths_of k) s
unfolding lengths_of
words_of_law k s words e = ap (λ (n : ℕ). take n words) (sym (words_total (chain_count k) (chain_length k) s)) ∙ e

pub read_is : (k a at : ℕ) (s words : List ℕ) → a ≡ number (drop at s) → k ≡ section_at a
    → take (length (words_read (lengths_of k) (drop at s))) words ≡ words_read (lengths_of k) (drop at s)
    → description_read k (take (chain_count k * chain_length k) words) ≡ description_in (drop at s)
unfolding description_in
read_is k a at s words selected is e = rw (← selected, ← is) (ap (description_read k) (words_of_law k (drop at s) words e))

-- ---- an item at `at`

module _ (s : List ℕ) (low at : ℕ) (room : List ℕ) (w : Walking s low at room) (h : at < length s) (k a : ℕ) (selected : a ≡ number (drop at s))
    (is : k ≡ section_at a) where
  judged : Verdict
  judged = and_then (first_verdict low at (drop at s)) (chains_verdict (lengths_of k) a at (drop at s))

  is_its : k ≡ section_at (number (drop at s))
  is_its = is ∙ ap section_at selected

  split : item_verdict low at (drop at s) ≡ and_then judged (refuse_if (eqb (length (description_in (drop at s))) 0) 16 at)
  unfolding item_verdict judged
  split = rw (← is_its, ← selected) (sym (and_then_assoc (first_verdict low at (drop at s)) (chains_verdict (lengths_of k) a at (drop at s)) _))

  turn : and_then (item_verdict low at (drop at s)) (items_verdict (number (drop at s) + 1) (at + step_size (drop at s)) (rests (drop (at + step_size (drop at s)) s))) ≡ stream_verdict s
  turn = sym (items_turn low at s h) ∙ w.verdict

  pub walking_stops : (n p : ℕ) → and_then (first_verdict low at (drop at s)) (chains_verdict (lengths_of k) a at (drop at s)) ≡ Refused n p → Refused n p ≡ stream_verdict s
  unfolding judged
  walking_stops n p e = and_then_stop _ _ _ n p turn (split ∙ rw e)

  module _ (fine : and_then (first_verdict low at (drop at s)) (chains_verdict (lengths_of k) a at (drop at s)) ≡ Accepted) where
    due : (section_at (number (drop at s)) < sections) × (low ≤ number (drop at s))
    due = first_accepted low at (drop at s) (and_then_accepted (first_verdict low at (drop at s)) _ fine).0

    pub walking_known : k < sections
    walking_known = rw is_its due.0

    abbrev slot : ℕ
    slot = slot_at (section_at a) a

    slot_below : slot < most_of k
    slot_below = rw is (slot_fits a (rw (← is) walking_known))

    slot_place : address_of k slot ≡ a
    slot_place = rw is (slot_address a (rw (← is) walking_known))

    -- those of its section that came before have lower slots
    slots_before : length (w.parts k walking_known).rs ≤ slot
    slots_before = (w.parts k walking_known).passed slot slot_below (omega (arith, slot_place, selected, due.1))

    pub walking_room : count_in k room < most_of k
    walking_room =
        let kp = w.parts k walking_known in omega (arith, holds_count k kp.rs room kp.holds, slots_before, slot_below)

    pub walking_unread : length (description_in (drop at s)) ≡ 0 → Refused 16 at ≡ stream_verdict s
    unfolding judged
    walking_unread e = and_then_stop _ _ _ 16 at turn (split ∙ rw fine (simp (eq-eqb (length (description_in (drop at s))) 0 e)))

    -- it is accepted, and its record was kept
    module _ (read : length (description_in (drop at s)) ≡ 0 → ⊥) where
      accepted : item_verdict low at (drop at s) ≡ Accepted
      unfolding judged
      accepted = split ∙ rw fine (simp (ne_eqb (length (description_in (drop at s))) 0 read))

      step : at + step_size (drop at s) ≡ at + item_size k
      step = ap (λ (n : ℕ). at + n) (step_known (drop at s) due.0 ∙ ap item_size (sym is_its))

      pub walking_within : at + item_size k ≤ length s
      walking_within = omega (arith, (item_read low at (drop at s) accepted k (sym is_its)).there, length-drop at s)

      abbrev x : List ℕ
      x = slot ∷ (label_for k slot ++ description_in (drop at s))

      record_is : record_in (drop at s) ≡ x
      unfolding record_in
      record_is = rw (← selected, ← is)

      whole : length x ≡ record_size k
      whole = ap length (sym record_is) ∙ ((item_read low at (drop at s) accepted k (sym is_its)).good 0 zero-le).whole

      abbrev room' : List ℕ
      room' = kept k slot (description_in (drop at s)) room

      own : Kept s (a + 1) (at + item_size k) k room'
      own =
          let kp = w.parts k walking_known in
          let count : length (kp.rs ++ (x ∷ [])) ≡ length kp.rs + 1 = length-append kp.rs (x ∷ []) in
          let next : records_of k (rests (drop at s)) ≡ x ∷ records_of k (rests (drop (at + item_size k) s)) =
          records_own k at s h (sym is_its) ∙ ap₂ (λ (r : List ℕ) (n : ℕ). r ∷ records_of k (rests (drop n s))) record_is step in
          let size : length (joined (kp.rs ++ (x ∷ []))) ≡ length (joined kp.rs) + length x =
          ap length (joined_more kp.rs x) ∙ length-append (joined kp.rs) x in
          let one : (length kp.rs + 1) * record_size k ≡ record_size k + length kp.rs * record_size k =
          one_more (length kp.rs) (record_size k) in
          record {
            rs = kp.rs ++ (x ∷ []);
            holds = holds_more k slot (description_in (drop at s)) room walking_known w.size walking_room whole kp.rs kp.holds kp.even;
            more =
                append_assoc kp.rs (x ∷ []) (records_of k (rests (drop (at + item_size k) s)))
                ∙ ap (λ (l : List (List ℕ)). kp.rs ++ l) (sym next)
                ∙ kp.more;
            even = size ∙ omega (arith, kp.even, whole, one, ap (λ (n : ℕ). n * record_size k) count);
            few = omega (arith, count, slots_before, slot_below);
            passed = λ slot' m g.
                let up = slots_rise k slot slot' walking_known slot_below m (omega (arith, slot_place)) in omega (arith, count, slots_before, up);
          }

      other : (j : ℕ) → j < sections → (j ≡ k → ⊥) → Kept s (a + 1) (at + item_size k) j room'
      other j hj n =
          let kp = w.parts j hj in
          let next : records_of j (rests (drop at s)) ≡ records_of j (rests (drop (at + item_size k) s)) =
          records_other j at s h (λ q. n (sym (is_its ∙ q))) ∙ ap (λ (m : ℕ). records_of j (rests (drop m s))) step in
          let short : 1 + length (joined kp.rs) ≤ part_size =
          omega (
            arith,
            kp.even,
            mul-le-mul {n₁ = length kp.rs} {m₁ = record_size j} {n₂ = most_of j} {m₂ = record_size j} kp.few (le_refl (record_size j)),
            section_fits j hj,
          ) in
          record {
            rs = kp.rs;
            holds = holds_other k slot (description_in (drop at s)) room walking_known w.size walking_room whole j n kp.rs short kp.holds;
            more = ap (λ (l : List (List ℕ)). kp.rs ++ l) (sym next) ∙ kp.more;
            even = kp.even;
            few = kp.few;
            passed = λ slot' m g. kp.passed slot' m (omega (arith, due.1, selected));
          }

      pub walking_on : Walking s (a + 1) (at + item_size k) (kept k slot (description_in (drop at s)) room)
      walking_on =
          record {
            verdict =
                ap₂ (λ (n m : ℕ). items_verdict (n + 1) m (rests (drop m s))) selected (sym step)
                ∙ and_then_go _ _ _ turn accepted;
            size = kept_size k slot (description_in (drop at s)) room walking_known w.size walking_room whole;
            parts = λ j hj.
                elim (ℕ_discrete j k) [
                  | yes e ↦ subst (λ (i : ℕ). Kept s (a + 1) (at + item_size k) i room') (sym e) own
                  | no n ↦ other j hj n
                ];
          }

      -- as the code finds it
      pub walking_next : (slot' size : ℕ) (d room'' : List ℕ) → slot' ≡ slot_at (section_at a) a → size ≡ item_size k → d ≡ description_in (drop at s)
          → room'' ≡ kept k slot' d room → Walking s (a + 1) (at + size) room''
      walking_next slot' size d room'' es ez ed er = rw (er, es, ez, ed) walking_on

-- ---- at the end

parts_render : (ss : List (List ℕ)) (room : List ℕ) (n k : ℕ) → ((j : ℕ) → j < k + n → part_of j room ≡ length (records_of j ss) ∷ joined (records_of j ss))
    → parts_from n k room ≡ render (sections_of n k ss)
unfolding parts_from sections_of render
parts_render ss room zero k h = refl
parts_render ss room (suc n) k h =
    ap₂ (λ (a b : List ℕ). a ++ b) (h k (omega arith)) (parts_render ss room n (k + 1) (λ j l. h j (omega arith)))

module _ (s : List ℕ) (low at : ℕ) (room : List ℕ) (w : Walking s low at room) (h : length s ≤ at) where
  pub walking_accepted : Accepted ≡ stream_verdict s
  walking_accepted = sym (items_end low at s h) ∙ w.verdict

  pub walking_sheet : parts_from sections 0 room ≡ render (sheet_in s)
  unfolding sheet_in
  walking_sheet =
      parts_render (rests s) room sections 0
      (λ j l.
      let hj : j < sections = omega arith in
      let kp = w.parts j hj in
      let all : kp.rs ≡ records_of j (rests s) =
      sym (append-nil kp.rs) ∙ ap (λ (l : List (List ℕ)). kp.rs ++ l) (sym (records_end j at s h)) ∙ kp.more in
      holds_part j kp.rs room kp.holds kp.even ∙ ap (λ (rs : List (List ℕ)). length rs ∷ joined rs) all)

-- ---- what is answered

pub walked_refused : (s room : List ℕ) (n p : ℕ) → Refused n p ≡ stream_verdict s → Walked s (Refused n p) room
walked_refused s room n p e = record { answer = e; sheet = λ a. absurd (no_refusal_law n p (e ∙ a)) }

pub walked_all : (s : List ℕ) (low at : ℕ) (room : List ℕ) → Walking s low at room → length s ≤ at → Walked s Accepted room
walked_all s low at room w h = record { answer = walking_accepted s low at room w h; sheet = λ a. walking_sheet s low at room w h }
