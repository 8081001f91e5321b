-- Compiled and read back: the stream of a sheet is accepted, and read as that sheet relabelled. Assumes nothing.
use Prim.Native.Nat.{ℕ, zero, suc, zero-le, ◌+◌, ◌≤◌, ◌<◌}
use mathlib.Core.Path.{◌≡◌, refl, sym, ap, ap₂, ◌∙◌, subst}
use mathlib.Core.List.Memᴰ
use mathlib.Core.List.{List, [], ◌∷◌, ◌++◌, append_assoc, append-nil, map, Memᴰ}
use mathlib.Core.Logic.{⊎_elim}
use native.Mathlib.Decide.{ℕ_discrete}
use native.Mathlib.Nat.{add-zero, zero-add}
use native.Mathlib.Omega.{arith}
use borrow.Author.Tests.{eq-eqb, ne_eqb}
use lib.ListN.{length, get_or, length-append}
use Rattle.peek.specs.Bytes.{Bytes}
use Rattle.buffer.specs.declared.Verdict.TheVariants.{Accepted}
use Rattle.buffer.proofs.Faults.{and_then_both}
use Rattle.command.specs.Reading.{number}
use Rattle.records.specs.Sections.{sections, most_of, slot_of}
use Rattle.sheet.specs.Parsed.{Faultless, Ordered, parse}
use Rattle.sheet.specs.Reading.{verdict}
use Rattle.kinds.proofs.Rows.{most_positive}
use Rattle.sheet.proofs.Descriptions.{bytes_parsed}
use Rattle.sheet.proofs.Records.{section_ordered}
use Rattle.compiler.specs.Items.{address_of}
use Rattle.compiler.proofs.Joined.{item, stream_sent}
use Rattle.compiler.specs.Stream.{stream_of}
use Rattle.compiler.proofs.Joined.{items, sent}
use Rattle.compiler.proofs.ItemLaws.{item_length}
use Rattle.kinds.specs.Table.{section_at}
use Rattle.reader.specs.Judging.{item_verdict, step_size, rests, items_verdict, stream_verdict}
use Rattle.reader.specs.Back.{records_of, sections_of, sheet_in}
use Rattle.reader.specs.Relabelled.{relabel, relabelled_from, relabelled}
use Rattle.reader.proofs.Sending.{addresses_rise, Clear, Ranked, sending_ranked, sent_all}
use Rattle.reader.proofs.Cutting.{item_positive, rests_none, rests_some}
use Rattle.reader.proofs.Items.{item_number, item_section, item_past, item_record, item_accepted}

-- each of these records consists of bytes
abbrev pub AllBytes : List (List ℕ) → Type 0
AllBytes rs = (i : ℕ) → Bytes (get_or rs i [])

-- what is asked of a sheet that is taken apart
pub record Sound (p : List (List (List ℕ))) : Type 0 where
  pub ordered : (k : ℕ) → k < sections → Ordered k 0 (get_or p k [])
  pub are_bytes : (k : ℕ) → k < sections → AllBytes (get_or p k [])

-- ---- the items of one section, with anything behind them

-- the stream behind an item
cut : (k floor : ℕ) (r rest : List ℕ) → k < sections → Faultless k floor r → Bytes r → rests (item k r ++ rest) ≡ (item k r ++ rest) ∷ rests rest
cut k floor r rest hk f b =
    rests_some (item k r ++ rest) (omega (arith, length-append (item k r) rest, item_length k r, item_positive k hk))
    ∙ ap (λ (t : List ℕ). (item k r ++ rest) ∷ rests t) (item_past k floor r rest hk f b)

module _ (k : ℕ) (hk : k < sections) (rest : List ℕ) where
  module _ (ks : List ℕ) (above : (slot : ℕ) → slot < most_of k → Clear (address_of k slot + 1) ks)
      (accepted : (low at : ℕ) → Clear low ks → items_verdict low at (rests rest) ≡ Accepted) where
    section_accepted : {floor : ℕ} {rs : List (List ℕ)} → Ordered k floor rs → AllBytes rs → (low at : ℕ)
        → ((slot : ℕ) → floor ≤ slot → slot < most_of k → low ≤ address_of k slot) → Clear low ks
        → items_verdict low at (rests (items k rs ++ rest)) ≡ Accepted
    unfolding items items_verdict
    section_accepted Ordered.done b low at h c = accepted low at c
    section_accepted {floor} (Ordered.next {r = r} {rs = rs} f o) b low at h c =
        let tail = items k rs ++ rest in
        let number_is : number (item k r ++ tail) ≡ address_of k (slot_of r) = item_number k floor r tail hk f (b 0) in
        rw (append_assoc (item k r) (items k rs) rest, cut k floor r tail hk f (b 0))
        (and_then_both (item_verdict low at (item k r ++ tail)) _
        (item_accepted k floor r tail hk f (b 0) low at (h (slot_of r) f.rising f.slot_fits))
        (rw number_is
        (section_accepted o (λ i. b (suc i)) (address_of k (slot_of r) + 1) (at + step_size (item k r ++ tail))
        (λ slot l m. let up = addresses_rise k slot hk m (slot_of r) (omega arith) in omega arith)
        (above (slot_of r) f.slot_fits))))

  -- its own records, and none of another section
  section_records : {floor : ℕ} {rs : List (List ℕ)} → Ordered k floor rs → AllBytes rs
      → records_of k (rests (items k rs ++ rest)) ≡ map (relabel k) rs ++ records_of k (rests rest)
  unfolding items records_of
  section_records Ordered.done b = refl
  section_records {floor} (Ordered.next {r = r} {rs = rs} f o) b =
      let tail = items k rs ++ rest in
      let mine = eq-eqb (section_at (number (item k r ++ tail))) k (item_section k floor r tail hk f (b 0)) in
      rw (append_assoc (item k r) (items k rs) rest, cut k floor r tail hk f (b 0), mine, item_record k floor r tail hk f (b 0))
      (ap (λ (rs : List (List ℕ)). relabel k r ∷ rs) (section_records o (λ i. b (suc i))))

  other_records : (j : ℕ) → (k ≡ j → ⊥) → {floor : ℕ} {rs : List (List ℕ)} → Ordered k floor rs → AllBytes rs
      → records_of j (rests (items k rs ++ rest)) ≡ records_of j (rests rest)
  unfolding items records_of
  other_records j n Ordered.done b = refl
  other_records j n {floor} (Ordered.next {r = r} {rs = rs} f o) b =
      let tail = items k rs ++ rest in
      let is = item_section k floor r tail hk f (b 0) in
      let other = ne_eqb (section_at (number (item k r ++ tail))) j (λ e. n (sym is ∙ e)) in
      rw (append_assoc (item k r) (items k rs) rest, cut k floor r tail hk f (b 0), other) (other_records j n o (λ i. b (suc i)))

-- ---- the sections in sending order

-- a section is sent once
once : {k : ℕ} {ks : List ℕ} → Ranked (k ∷ ks) → Memᴰ k ks → ⊥
once (Ranked.next {k = k} hk above more) m =
    let z = above 0 (most_positive k hk) k 0 m (most_positive k hk) in omega arith

-- sections that have these records, one by one
relabelled_sections : (ss : List (List ℕ)) (n k : ℕ) (p : List (List (List ℕ))) → length p ≡ n
    → ((i : ℕ) → i < n → records_of (k + i) ss ≡ map (relabel (k + i)) (get_or p i [])) → sections_of n k ss ≡ relabelled_from k p
unfolding sections_of relabelled_from
relabelled_sections ss zero k [] l h = refl
relabelled_sections ss zero k (rs ∷ p) l h = absurd (omega arith)
relabelled_sections ss (suc n) k [] l h = absurd (omega arith)
relabelled_sections ss (suc n) k (rs ∷ p) l h =
    ap₂ (λ (q : List (List ℕ)) (qs : List (List (List ℕ))). q ∷ qs) (rw add-zero at (h 0 (omega arith)))
    (relabelled_sections ss n (k + 1) p (omega arith)
    (λ i m. let e : k + suc i ≡ k + 1 + i = omega arith in rw e at (h (suc i) (omega arith))))

module _ (p : List (List (List ℕ))) (sound : Sound p) where
  sent_accepted : {order : List ℕ} → Ranked order → (low at : ℕ) → Clear low order → items_verdict low at (rests (sent order p)) ≡ Accepted
  unfolding sent items_verdict
  sent_accepted Ranked.done low at c = rw (rests_none [] zero-le)
  sent_accepted (Ranked.next {k = k} {ks = ks} hk above more) low at c =
      section_accepted k hk (sent ks p) ks above (sent_accepted more) (sound.ordered k hk) (sound.are_bytes k hk) low at
      (λ slot l m. c k slot (Memᴰ.head refl) m)
      (λ j slot m. c j slot (Memᴰ.tail m))

  sent_none : {order : List ℕ} → Ranked order → (j : ℕ) → (Memᴰ j order → ⊥) → records_of j (rests (sent order p)) ≡ []
  unfolding sent records_of
  sent_none Ranked.done j n = rw (rests_none [] zero-le)
  sent_none (Ranked.next {k = k} {ks = ks} hk above more) j n =
      other_records k hk (sent ks p) j (λ e. n (Memᴰ.head (sym e))) (sound.ordered k hk) (sound.are_bytes k hk)
      ∙ sent_none more j (λ m. n (Memᴰ.tail m))

  sent_records : {order : List ℕ} → Ranked order → (j : ℕ) → Memᴰ j order
      → records_of j (rests (sent order p)) ≡ map (relabel j) (get_or p j [])
  unfolding sent
  sent_records Ranked.done j m = absurd (Memᴰ.not-nil m)
  sent_records (Ranked.next {k = k} {ks = ks} hk above more) j m =
      elim (ℕ_discrete k j) [
        | yes e ↦
            subst (λ (i : ℕ). records_of i (rests (items k (get_or p k []) ++ sent ks p)) ≡ map (relabel i) (get_or p i [])) e
            (section_records k hk (sent ks p) (sound.ordered k hk) (sound.are_bytes k hk)
            ∙ ap (λ (rs : List (List ℕ)). map (relabel k) (get_or p k []) ++ rs) (sent_none more k (once (Ranked.next hk above more)))
            ∙ append-nil (map (relabel k) (get_or p k [])))
        | no n ↦
            other_records k hk (sent ks p) j n (sound.ordered k hk) (sound.are_bytes k hk)
            ∙ sent_records more j (⊎_elim (λ e. absurd (n (sym e))) (λ m. m) (Memᴰ.cases_cons m))
      ]

  -- what the compiler writes is accepted
  pub trip_accepted : stream_verdict (stream_of p) ≡ Accepted
  unfolding stream_verdict
  trip_accepted = rw (stream_sent p) (sent_accepted sending_ranked 0 0 (λ k slot m h. zero-le))

  trip_records : (k : ℕ) → k < sections → records_of k (rests (stream_of p)) ≡ map (relabel k) (get_or p k [])
  trip_records k h = rw (stream_sent p) (sent_records sending_ranked k (sent_all k h))

  -- and read as the sheet relabelled
  pub trip_sheet : length p ≡ sections → sheet_in (stream_of p) ≡ relabelled p
  unfolding sheet_in relabelled
  trip_sheet all =
      relabelled_sections (rests (stream_of p)) sections 0 p all
      (λ i h.
      let e = zero-add i in
      ap (λ (k : ℕ). records_of k (rests (stream_of p))) e ∙ trip_records i h ∙ ap (λ (k : ℕ). map (relabel k) (get_or p i [])) (sym e))

-- ---- an accepted sheet

pub sheet_sound : (s : List ℕ) → Bytes s → verdict s ≡ Accepted → Sound (parse s)
sheet_sound s h ok = record { ordered = λ k hk. section_ordered s k hk ok; are_bytes = λ k hk. bytes_parsed s k hk h }
