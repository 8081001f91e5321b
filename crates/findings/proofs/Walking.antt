-- The walk over the lines: what a slot has left, a step within a section and from section to section, and that from the
-- start on the lines are the notice's. Assumes nothing.
use Prim.Native.Nat.{ℕ, zero, suc, ◌+◌, ◌-◌, ◌^◌, ◌≤◌, ◌<◌}
use mathlib.Core.Path.{◌≡◌, refl, sym, ap, ap₂, ◌∙◌}
use mathlib.Core.Bool.{Bool, true, false, ◌||◌}
use mathlib.Core.List.{List, [], ◌∷◌, ◌++◌}
use native.Mathlib.Decide.{dec_lt}
use native.Mathlib.Nat.{sub-zero}
use native.Mathlib.Omega.{arith}
use borrow.Author.Tests.{eq-eqb, ne_eqb, lt-ltb, le-ltb}
use Rattle.std.proofs.Common.{◌==◌, ◌⊎◌, inl, inr}
use Rattle.std.proofs.Math.Dec.{eqb-suc-zero}
use lib.ListN.{length, get_or, drop, length-drop, get_or-eq_default}
use Rattle.compare.specs.Same.{same}
use Rattle.buffer.specs.declared.Verdict.TheVariants.{Accepted}
use Rattle.kinds.specs.Table.{Kind}
use Rattle.kinds.proofs.Rows.{past}
use Rattle.records.specs.Sections.{sections, most_of, label_of}
use Rattle.records.specs.Records.{records_in, find, front, after}
use Rattle.records.proofs.Records.{records_none, cursor_next}
use Rattle.sheet.specs.Reading.{verdict}
use Rattle.sheet.specs.Parts.{judged_of}
use Rattle.sheet.specs.Parsed.{Ordered, parse}
use Rattle.sheet.specs.declared.Judged.{Judged}
use Rattle.sheet.proofs.Cursors.{front_fits}
use Rattle.sheet.proofs.Cut.{Cut, part_records, part_ordered}
use Rattle.sheet.proofs.Theorems.{accepted_wellformed}
use Rattle.sheet.proofs.Found.{front_find, after_find, after_ordered}
use Rattle.findings.specs.declared.Cursor.{Cursor}
use Rattle.findings.specs.declared.Finding.{Finding}
use Rattle.findings.specs.declared.Finding.TheVariants.{New, Gone, Name}
use Rattle.findings.specs.declared.Line.{Line}
use Rattle.findings.specs.declared.meet.Met.{Met}
use Rattle.findings.specs.Findings.{line, unless_same, shared_lines, slot_lines, lines_from, sections_lines, notice_lines}
use Rattle.findings.specs.Walk.{part_by, record_by, change_lines, left_lines, walk_lines, part_lines, cursor_at, cursor_behind, cursor_named, walk_sections, lines_at, met_lines, StartsAll, IsRecordWith}

-- ---- what a slot has left, as the code tests it: an empty part stands for a sheet without that slot

-- no bytes of a record, as the code tests it
abbrev pub Missing : List ℕ → Bool → Type 0
Missing part missing = missing ≡ (length part == 0)

module _ (named : Bool) (k slot : ℕ) where
  pub left_none : (old new : List ℕ) → Missing old true → Missing new true → left_lines named k slot old new ≡ []
  unfolding left_lines slot_lines
  left_none [] [] e f = elim named as (λ b. left_lines b k slot [] [] ≡ []) [ true ↦ refl | false ↦ refl ]
  left_none [] (y ∷ new) e f = cc (eqb-suc-zero (length new))
  left_none (x ∷ old) new e f = cc (eqb-suc-zero (length old))

  pub left_new : (old new : List ℕ) → Missing old true → Missing new false → left_lines named k slot old new ≡ line k slot New ∷ []
  unfolding left_lines slot_lines
  left_new [] [] e f = cc
  left_new [] (y ∷ new) e f = elim named as (λ b. left_lines b k slot [] (y ∷ new) ≡ line k slot New ∷ []) [ true ↦ refl | false ↦ refl ]
  left_new (x ∷ old) new e f = cc (eqb-suc-zero (length old))

  pub left_gone : (old new : List ℕ) → Missing old false → Missing new true → left_lines named k slot old new ≡ line k slot Gone ∷ []
  unfolding left_lines slot_lines
  left_gone [] new e f = cc
  left_gone (x ∷ old) [] e f = elim named as (λ b. left_lines b k slot (x ∷ old) [] ≡ line k slot Gone ∷ []) [ true ↦ refl | false ↦ refl ]
  left_gone (x ∷ old) (y ∷ new) e f = cc (eqb-suc-zero (length new))

module _ (k slot : ℕ) where
  left_named : (old new : List ℕ) → Missing old false → Missing new false → left_lines true k slot old new ≡ change_lines k slot old new
  unfolding left_lines
  left_named [] new e f = cc
  left_named (x ∷ old) [] e f = cc
  left_named (x ∷ old) (y ∷ new) e f = refl

  left_shared : (old new : List ℕ) → Missing old false → Missing new false
      → left_lines false k slot old new ≡ unless_same (label_of old) (label_of new) (line k slot Name) ++ change_lines k slot old new
  unfolding left_lines slot_lines shared_lines
  left_shared [] new e f = cc
  left_shared (x ∷ old) [] e f = cc
  left_shared (x ∷ old) (y ∷ new) e f = refl

  module _ (old new : List ℕ) (n : Missing old false) (m : Missing new false) where
    pub left_past : (named : Bool) → true ≡ (named || same (label_of old) (label_of new)) → left_lines named k slot old new ≡ change_lines k slot old new
    left_past true e = left_named old new n m
    left_past false e = left_shared old new n m ∙ rw (sym e)

    pub left_label : (named : Bool) → false ≡ (named || same (label_of old) (label_of new))
        → left_lines named k slot old new ≡ line k slot Name ∷ left_lines true k slot old new
    left_label true e = cc
    left_label false e = left_shared old new n m ∙ rw (sym e, left_named old new n m)

-- ---- a step within a section

module _ (old new : List ℕ) (c : Cursor) where
  pub part_end : most_of c.section ≤ c.slot → part_lines old new c ≡ []
  unfolding part_lines walk_lines
  part_end h = let e : most_of c.section - c.slot ≡ 0 = omega arith in rw e

module _ (old new : List ℕ) (c : Cursor) (a b : List ℕ) (h : c.slot < most_of c.section)
    (ea : a ≡ front c.slot (records_in c.section (drop c.old old)))
    (eb : b ≡ front c.slot (records_in c.section (drop c.new new))) where
  abbrev next : Cursor
  next = cursor_behind c (length a) (length b)

  step : (named : Bool)
      → walk_lines named c.section (most_of c.section - c.slot) c.slot
      (records_in c.section (drop c.old old)) (records_in c.section (drop c.new new))
      ≡ left_lines named c.section c.slot a b ++ part_lines old new next
  unfolding walk_lines part_lines
  step named =
      let e : most_of c.section - c.slot ≡ suc (most_of c.section - (c.slot + 1)) = omega arith in
      rw (e, ← ea, ← eb, cursor_next c.section c.old old c.slot a ea, cursor_next c.section c.new new c.slot b eb)

  here : part_lines old new c ≡ left_lines c.named c.section c.slot a b ++ part_lines old new next
  unfolding part_lines
  here = step c.named

  behind_name : part_lines old new (cursor_named c) ≡ left_lines true c.section c.slot a b ++ part_lines old new next
  unfolding part_lines
  behind_name = step true

-- the same, by what is met at the slot
module _ (old new : List ℕ) (c : Cursor) (k : ℕ) (e : c.section ≡ k) (a b : List ℕ) (h : c.slot < most_of k)
    (ea : a ≡ front c.slot (records_in k (drop c.old old))) (eb : b ≡ front c.slot (records_in k (drop c.new new))) (m : Met)
    (met : left_lines c.named k c.slot a b ≡ met_lines k c.slot a b m) where
  abbrev rest : List Line
  rest = part_lines old new (cursor_behind c (length a) (length b))

  all : part_lines old new c ≡ met_lines k c.slot a b m ++ rest
  all =
      here old new c a b (rw e h) (rw e ea) (rw e eb)
      ∙ ap (λ (ls : List Line). ls ++ rest) (ap (λ (j : ℕ). left_lines c.named j c.slot a b) e ∙ met)

  pub met_nothing : m ≡ Met.Nothing → (d : Cursor) → d ≡ cursor_behind c (length a) (length b) → part_lines old new c ≡ part_lines old new d
  met_nothing n d q = all ∙ ap (λ (x : Met). met_lines k c.slot a b x ++ rest) n ∙ ap (part_lines old new) (sym q)

  pub met_label : m ≡ Met.Label → (l : Line) → l ≡ line k c.slot Name → (d : Cursor) → d ≡ cursor_named c → part_lines old new c ≡ l ∷ part_lines old new d
  met_label n l p d q =
      let left = behind_name old new c a b (rw e h) (rw e ea) (rw e eb)
      ∙ ap (λ (j : ℕ). left_lines true j c.slot a b ++ rest) e in
      all ∙ ap (λ (x : Met). met_lines k c.slot a b x ++ rest) n
      ∙ ap₂ (λ (x : Line) (ls : List Line). x ∷ ls) (sym p) (sym left ∙ ap (part_lines old new) (sym q))

  pub met_last : (f : Finding) → m ≡ Met.Last f → (l : Line) → l ≡ line k c.slot f → (d : Cursor) → d ≡ cursor_behind c (length a) (length b)
      → part_lines old new c ≡ l ∷ part_lines old new d
  met_last f n l p d q =
      all ∙ ap (λ (x : Met). met_lines k c.slot a b x ++ rest) n ∙ ap₂ (λ (x : Line) (ls : List Line). x ∷ ls) (sym p) (ap (part_lines old new) (sym q))

-- a cursor stays a number of 64 bits: the record at it lies within the part
pub cursor_small : (k slot at : ℕ) (part a : List ℕ) → at < 2 ^ 64 → length part < 2 ^ 64 → a ≡ front slot (records_in k (drop at part))
    → at + length a < 2 ^ 64
cursor_small k slot at part a h l e = omega (arith, ap length e, front_fits k slot (drop at part), length-drop at part)

-- ---- a step from section to section

-- a section that no sheet has
no_lines : (old new : List ℕ) (c : Cursor) → sections ≤ c.section → part_lines old new c ≡ []
unfolding most_of
no_lines old new c h = part_end old new c (let e : most_of c.section ≡ 0 = ap (λ (x : Kind). x.most) (past c.section h) in omega arith)

module _ (old new : List ℕ) (olds news : Judged) where
  -- the lines of the sections from section k on begin with those of section k
  pub sections_on : (k : ℕ)
      → walk_sections (sections - k) k old new olds news
      ≡ part_lines (part_by k old olds) (part_by k new news) (cursor_at k) ++ walk_sections (sections - (k + 1)) (k + 1) old new olds news
  unfolding walk_sections
  sections_on k =
      elim (dec_lt k sections) [
        | yes h ↦ let e : sections - k ≡ suc (sections - (k + 1)) = omega arith in rw e
        | no h ↦
            let e : sections - k ≡ 0 = omega arith in
            let f : sections - (k + 1) ≡ 0 = omega arith in
            rw (e, f, no_lines (part_by k old olds) (part_by k new news) (cursor_at k) (omega arith))
      ]

  -- of a refused sheet
  pub lines_refused : (c : Cursor) → (olds.refusal ≡ 0 → ⊥) ⊎ ((olds.refusal ≡ 0) × (news.refusal ≡ 0 → ⊥)) → lines_at old new olds news c ≡ []
  unfolding lines_at
  lines_refused c (inl n) = rw (ne_eqb olds.refusal 0 n)
  lines_refused c (inr (e, n)) = rw (eq-eqb olds.refusal 0 e, ne_eqb news.refusal 0 n)

  module _ (e : olds.refusal ≡ 0) (f : news.refusal ≡ 0) where
    abbrev lines : Cursor → List Line
    lines = lines_at old new olds news

    abbrev within : Cursor → List Line
    within c = part_lines (part_by c.section old olds) (part_by c.section new news) c

    lines_on : (c : Cursor) → lines c ≡ within c ++ walk_sections (sections - (c.section + 1)) (c.section + 1) old new olds news
    unfolding lines_at
    lines_on c = rw (eq-eqb olds.refusal 0 e, eq-eqb news.refusal 0 f)

    pub lines_end : (c : Cursor) → sections ≤ c.section → lines c ≡ []
    unfolding walk_sections
    lines_end c h =
        let z : sections - (c.section + 1) ≡ 0 = omega arith in
        lines_on c ∙ rw (no_lines (part_by c.section old olds) (part_by c.section new news) c h, z)

    -- from a cursor in section k on, whose parts are these
    module _ (k : ℕ) (a b : List ℕ) (ea : a ≡ part_by k old olds) (eb : b ≡ part_by k new news) where
      abbrev behind : List Line
      behind = walk_sections (sections - (k + 1)) (k + 1) old new olds news

      lines_by : (c : Cursor) → c.section ≡ k → lines c ≡ part_lines a b c ++ behind
      lines_by c s =
          lines_on c ∙ ap (λ (j : ℕ). part_lines (part_by j old olds) (part_by j new news) c ++ walk_sections (sections - (j + 1)) (j + 1) old new olds news) s
          ∙ rw (← ea, ← eb)

      module _ (c : Cursor) (s : c.section ≡ k) where
        -- the section has no line left
        pub lines_turn : part_lines a b c ≡ [] → (d : Cursor) → d ≡ cursor_at (k + 1) → lines c ≡ lines d
        lines_turn n d q =
            lines_by c s ∙ ap (λ (ls : List Line). ls ++ behind) n ∙ sections_on (k + 1) ∙ sym (lines_on (cursor_at (k + 1))) ∙ ap lines (sym q)

        -- it has one
        pub lines_found : (d : Cursor) (l : Line) → d.section ≡ c.section → part_lines a b c ≡ l ∷ part_lines a b d → lines c ≡ l ∷ lines d
        lines_found d l t n = lines_by c s ∙ ap (λ (ls : List Line). ls ++ behind) n ∙ ap (λ (ls : List Line). l ∷ ls) (sym (lines_by d (t ∙ s)))

-- ---- from the start on

-- only the records with the slots that are looked at count
lines_alike : (k n slot : ℕ) (os ns os' ns' : List (List ℕ)) → ((t : ℕ) → slot ≤ t → find t os ≡ find t os') → ((t : ℕ) → slot ≤ t → find t ns ≡ find t ns')
    → lines_from k n slot os ns ≡ lines_from k n slot os' ns'
unfolding lines_from
lines_alike k zero slot os ns os' ns' o e = refl
lines_alike k (suc n) slot os ns os' ns' o e =
    ap₂ (λ (x y : List Line). x ++ y) (ap₂ (slot_lines k slot) (o slot (omega arith)) (e slot (omega arith)))
    (lines_alike k n (slot + 1) os ns os' ns' (λ t h. o t (omega arith)) (λ t h. e t (omega arith)))

pub walk_lines_law : (k n slot : ℕ) (os ns : List (List ℕ)) → Ordered k slot os → Ordered k slot ns → walk_lines false k n slot os ns ≡ lines_from k n slot os ns
unfolding walk_lines lines_from left_lines
walk_lines_law k zero slot os ns o e = refl
walk_lines_law k (suc n) slot os ns o e =
    ap₂ (λ (x y : List Line). x ++ y) (ap₂ (slot_lines k slot) (front_find slot o) (front_find slot e))
    (walk_lines_law k n (slot + 1) (after slot os) (after slot ns) (after_ordered slot o) (after_ordered slot e)
    ∙ lines_alike k n (slot + 1) (after slot os) (after slot ns) os ns (λ t h. after_find slot t os (omega arith)) (λ t h. after_find slot t ns (omega arith)))

-- the part of a section of an accepted sheet
cut : (s : List ℕ) (k : ℕ) → verdict s ≡ Accepted → Cut s (judged_of s) k (part_by k s (judged_of s))
cut s k a = record { accepted = a; laid = refl; is = refl }

number : (s : List ℕ) → verdict s ≡ Accepted → (judged_of s).refusal ≡ 0
unfolding judged_of
number s a = rw a

module _ (old new : List ℕ) (a : verdict old ≡ Accepted) (b : verdict new ≡ Accepted) where
  section_lines_law : (k : ℕ) → k < sections
      → part_lines (part_by k old (judged_of old)) (part_by k new (judged_of new)) (cursor_at k)
      ≡ lines_from k (most_of k) 0 (get_or (parse old) k []) (get_or (parse new) k [])
  unfolding part_lines
  section_lines_law k h =
      let p = cut old k a in
      let q = cut new k b in
      ap (λ (n : ℕ). walk_lines false k n 0 (records_in k (part_by k old (judged_of old))) (records_in k (part_by k new (judged_of new)))) (sub-zero (most_of k))
      ∙ walk_lines_law k (most_of k) 0 (records_in k (part_by k old (judged_of old))) (records_in k (part_by k new (judged_of new))) (part_ordered old _ k _ h p) (part_ordered new _ k _ h q)
      ∙ ap₂ (lines_from k (most_of k) 0) (part_records old _ k _ h p) (part_records new _ k _ h q)

  -- section by section the walk meets the lines of the sheets' records
  pub all_lines : (n k : ℕ) → k + n ≤ sections → walk_sections n k old new (judged_of old) (judged_of new) ≡ sections_lines n k (parse old) (parse new)
  unfolding walk_sections sections_lines
  all_lines zero k h = refl
  all_lines (suc n) k h = ap₂ (λ (x y : List Line). x ++ y) (section_lines_law k (omega arith)) (all_lines n (k + 1) (omega arith))

-- from the start on two accepted sheets have the lines of their notice
pub from_start : StartsAll (cursor_at 0)
unfolding notice_lines
from_start old new a b =
    lines_on old new (judged_of old) (judged_of new) (number old a) (number new b) (cursor_at 0)
    ∙ sym (sections_on old new (judged_of old) (judged_of new) 0)
    ∙ all_lines old new a b sections 0 (omega arith)

-- the record by where the sections lie is found in the part, which is empty in a section that no sheet has; of an
-- accepted sheet it is the sheet's record with the slot
module _ (k slot : ℕ) (s : List ℕ) (judged : Judged) where
  pub record_of_part : length judged.sizes ≡ sections → find slot (records_in k (part_by k s judged)) ≡ record_by k slot s judged
  unfolding find
  record_of_part l =
      elim (dec_lt k sections) [
        | yes h ↦ rw (lt-ltb k sections h)
        | no h ↦
            let none : get_or judged.sizes k 0 ≡ 0 = get_or-eq_default judged.sizes 0 {n = k} (omega arith) in
            rw (le-ltb k sections (omega arith), none, records_none k [] (omega arith))
      ]

  pub record_by_law : IsRecordWith k slot s judged (record_by k slot s judged)
  unfolding find
  record_by_law a e =
      elim (dec_lt k sections) [
        | yes h ↦ rw (lt-ltb k sections h) (ap (find slot) (part_records s judged k _ h (record { accepted = a; laid = e; is = refl })))
        | no h ↦
            let none : get_or (parse s) k [] ≡ [] = get_or-eq_default (parse s) [] {n = k} (rw (accepted_wellformed s a).all (omega arith)) in
            rw (le-ltb k sections (omega arith)) (sym (ap (find slot) none))
      ]
