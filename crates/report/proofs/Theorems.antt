-- What the page promises: each of the notice's lines stands in it, whole, in order and once, and it says that nothing is
-- altered exactly where there is no line. Assumes nothing.
use Prim.Native.Nat.{ℕ, zero, suc, ◌≤◌, ◌<◌}
use mathlib.Core.Path.{◌≡◌, refl, sym, ap, ap₂, ◌∙◌}
use mathlib.Core.Bool.{Bool, true, false, cond}
use mathlib.Core.List.Memᴰ
use mathlib.Core.List.{List, [], ◌∷◌, ◌++◌, map, append_assoc, append-nil, Memᴰ, cons≢nil}
use mathlib.Core.Logic.{◌↔◌, ◌⊎◌, inl, inr}
use native.Mathlib.Omega.{arith}
use lib.Ieee.Bits.{is_true}
use lib.Dec.{T}
use lib.ListN.{length, get_or, take}
use lib.Seq.{take_at}
use Rattle.lines.proofs.Computed.{every_below_law}
use Rattle.lut.specs.declared.Input.TheVariants.{Nothing, Sample, Samples, Sources}
use Rattle.lut.specs.declared.Telling.TheVariants.{Alike, Apart}
use Rattle.compare.specs.Same.{same}
use Rattle.kinds.specs.Table.{sections, kind_of, name_of}
use Rattle.buffer.specs.declared.Verdict.TheVariants.{Accepted}
use Rattle.records.specs.Sections.{label_of}
use Rattle.sheet.specs.Reading.{verdict}
use Rattle.sheet.specs.Parsed.{parse, record_with}
use Rattle.sheet.proofs.Records.{section_ordered, record_faultless}
use Rattle.sheet.proofs.Found.{find_found}
use Rattle.refusal.specs.Words.{ascii}
use Rattle.findings.specs.declared.Finding.{Finding}
use Rattle.findings.specs.declared.Finding.TheVariants.{New, Gone, Name, Changed}
use Rattle.findings.specs.declared.Line.{Line}
use Rattle.findings.specs.Findings.{notice_lines}
use Rattle.findings.proofs.Members.{line_iff}
use Rattle.notice.specs.Split.{lines_in}
use Rattle.notice.specs.Text.{slot_text, finding_text, render}
use Rattle.notice.proofs.Lines.{name_length}
use Rattle.notice.proofs.Splitting.{Feedless, feedless_append, feeds, no_feeds}
use Rattle.report.specs.Words.{line_of, stated, altered_bare, unaltered, ending_text}
use Rattle.report.specs.Page.{label_text, labels_text, entries_text, head_text, body_text, how_many, longest_body}
use Rattle.report.specs.Lines.{is_name_from, is_of_section, those}
use Rattle.report.proofs.Lengths.{at_most}
use Rattle.report.proofs.Counting.{few}
use Rattle.report.proofs.Parted.{splits_append, splits_all, plain_feedless, saying_lines, entry_lines, Fine, AllFine, entries_lines, entries_split, head_lines, head_splits, ending_lines, ending_splits}

-- ---- the lines of the body

-- labels of accepted sheets have no line feed
label_feedless : (s : List ℕ) (k slot : ℕ) → verdict s ≡ Accepted → k < sections → Feedless (label_text (record_with k slot s))
unfolding feeds
label_feedless s k slot a h = go (record_with k slot s) refl
  where
    go : (r : List ℕ) → record_with k slot s ≡ r → Feedless (label_text r)
    go [] e = no_feeds (ascii "(no such slot)") refl
    go (x ∷ r) e =
        let there = find_found slot (get_or (parse s) k []) (λ n. cons≢nil (sym e ∙ n)) in
        let fits = (record_faultless (section_ordered s k h a) there.place there.within).label_fits in
        let plain = rw (there.is ∙ e) at fits in
        feedless_append (ascii "'" ++ label_of (x ∷ r)) (ascii "'") (feedless_append (ascii "'") (label_of (x ∷ r)) (refl, tt) (plain_feedless 0x20 0x7E (label_of (x ∷ r)) (omega arith) plain)) (refl, tt)

each_fine : (old new : List ℕ) (ls : List Line) → ((l : Line) → Memᴰ l ls → Fine old new l) → AllFine old new ls
each_fine old new [] f = tt
each_fine old new (l ∷ ls) f = (f l (Memᴰ.head refl), each_fine old new ls (λ m i. f m (Memᴰ.tail i)))

module _ (old new : List ℕ) (a : verdict old ≡ Accepted) (b : verdict new ≡ Accepted) where
  abbrev ls : List Line
  ls = notice_lines old new

  fine : AllFine old new ls
  fine =
      each_fine old new ls
      (λ l i. let h = ((line_iff old new l.section l.slot l.finding).0 i).0 in (h, label_feedless old l.section l.slot a h, label_feedless new l.section l.slot b h))

  body_lines : lines_in (body_text old new) ≡ head_lines (length ls) (λ s. how_many s ls) ++ entries_lines old new ls ++ ending_lines
  unfolding body_text
  body_lines =
      splits_all _ _
      (splits_append (head_text ls ++ entries_text old new ls) ending_text (head_lines (length ls) (λ s. how_many s ls) ++ entries_lines old new ls) ending_lines
      (splits_append (head_text ls) (entries_text old new ls) (head_lines (length ls) (λ s. how_many s ls)) (entries_lines old new ls) (head_splits (length ls) (λ s. how_many s ls) (λ s. omega (arith, few s old new)))
      (entries_split old new ls fine)) ending_splits)

-- ---- which of them pass a test on their first four bytes

those_append : (test : List ℕ → Bool) (xs ys : List (List ℕ)) → those test (xs ++ ys) ≡ those test xs ++ those test ys
unfolding those
those_append test [] ys = refl
those_append test (x ∷ xs) ys = go (test x) (those_append test xs ys)
  where
    go : (t : Bool) → those test (xs ++ ys) ≡ those test xs ++ those test ys
        → cond t (x ∷ those test (xs ++ ys)) (those test (xs ++ ys)) ≡ cond t (x ∷ those test xs) (those test xs) ++ those test ys
    go true e = ap (λ (zs : List (List ℕ)). x ∷ zs) e
    go false e = e

-- what passes and is there is among those
kept : (test : List ℕ → Bool) (x : List ℕ) (xs : List (List ℕ)) → test x ≡ true → Memᴰ x xs → Memᴰ x (those test xs)
unfolding those
kept test x [] e i = absurd (Memᴰ.not-nil i)
kept test x (y ∷ ys) e i = by_place (kept test x ys e) (Memᴰ.cases_cons i)
  where
    later : (t : Bool) → Memᴰ x (those test ys) → Memᴰ x (cond t (y ∷ those test ys) (those test ys))
    later true m = Memᴰ.tail m
    later false m = m

    by_place : (Memᴰ x ys → Memᴰ x (those test ys)) → (x ≡ y) ⊎ Memᴰ x ys → Memᴰ x (cond (test y) (y ∷ those test ys) (those test ys))
    by_place more (inl q) = rw (sym (ap test q) ∙ e) (Memᴰ.head q)
    by_place more (inr m) = later (test y) (more m)

name_first : (l : Line) → take 4 (render l) ≡ name_of l.section
unfolding render
name_first l =
    ap (take 4) (append_assoc (name_of l.section) (slot_text l.slot) (finding_text l.finding))
    ∙ take_at (name_of l.section) (slot_text l.slot ++ finding_text l.finding) 4 (name_length l.section)

-- a test that every section's letters pass, or none, and four spaces do not
module _ (p : List ℕ → Bool) (v : Bool) (names : (k : ℕ) → k < sections → p (name_of k) ≡ v) (spaces : p (32 ∷ 32 ∷ 32 ∷ 32 ∷ []) ≡ false) where
  abbrev test : List ℕ → Bool
  test l = p (take 4 l)

  bare_none : (k : ℕ) → test (line_of (altered_bare k)) ≡ false
  bare_none k = go (get_or stated k false)
    where
      go : (t : Bool) → p (take 4 (line_of (cond t "    Altered: the state's number, else state or flags are others." "    Altered."))) ≡ false
      go true = spaces
      go false = spaces

  saying_none : (k : ℕ) (f : Finding) → those test (saying_lines k f) ≡ []
  unfolding those saying_lines
  saying_none k New = rw spaces
  saying_none k Gone = rw spaces
  saying_none k Name = rw spaces
  saying_none k (Changed Alike) = rw spaces
  saying_none k (Changed (Apart Nothing)) = rw (bare_none k)
  saying_none k (Changed (Apart (Sample s))) = rw spaces
  saying_none k (Changed (Apart (Samples e l))) = rw spaces
  saying_none k (Changed (Apart (Sources s))) = rw spaces

  labels_none : (old new : List ℕ) → those test (labels_text old new ∷ []) ≡ []
  unfolding those
  labels_none old new = rw spaces

  line_only : (l : Line) (old new : List ℕ) → l.section < sections → those test (entry_lines l old new) ≡ cond v (render l ∷ []) []
  unfolding entry_lines those
  line_only l old new h =
      those_append test ((render l ∷ []) ++ saying_lines l.section l.finding) (labels_text old new ∷ [])
      ∙ ap₂ (λ (x y : List (List ℕ)). x ++ y) (those_append test (render l ∷ []) (saying_lines l.section l.finding)) (labels_none old new)
      ∙ ap (λ (x : List (List ℕ)). (those test (render l ∷ []) ++ x) ++ []) (saying_none l.section l.finding)
      ∙ alone v (ap p (name_first l) ∙ names l.section h)
    where
      alone : (t : Bool) → test (render l) ≡ t → (those test (render l ∷ []) ++ []) ++ [] ≡ cond t (render l ∷ []) []
      alone true e = rw e
      alone false e = rw e

  pub lines_only : (old new : List ℕ) (ls : List Line) → AllFine old new ls → those test (entries_lines old new ls) ≡ cond v (map render ls) []
  unfolding entries_lines those
  lines_only old new [] f = none v
    where
      none : (t : Bool) → ◌≡◌ {A = List (List ℕ)} [] (cond t [] [])
      none true = refl
      none false = refl
  lines_only old new (l ∷ ls) f =
      those_append test (entry_lines l _ _) (entries_lines old new ls)
      ∙ ap₂ (λ (x y : List (List ℕ)). x ++ y) (line_only l _ _ f.0.0) (lines_only old new ls f.1)
      ∙ more v
    where
      more : (t : Bool) → cond t (render l ∷ []) [] ++ cond t (map render ls) [] ≡ cond t (render l ∷ map render ls) []
      more true = refl
      more false = refl

-- ---- the two promises

names_are_names : (k : ℕ) → k < sections → is_name_from sections 0 (name_of k) ≡ true
unfolding is_name_from same name_of kind_of
names_are_names k h = is_true _ (every_below_law sections (λ k. is_name_from sections 0 (name_of k)) tt k h)

not_true : (b : Bool) → T (cond b false true) → b ≡ false
not_true true t = absurd t
not_true false t = refl

-- the first four letters of the sentence that nothing is altered
abbrev no_alteration : List ℕ → Bool
no_alteration letters = same letters (ascii "No a")

names_are_other : (k : ℕ) → k < sections → no_alteration (name_of k) ≡ false
unfolding same name_of kind_of
names_are_other k h = not_true _ (every_below_law sections (λ k. cond (no_alteration (name_of k)) false true) tt k h)

module _ (old new : List ℕ) (a : verdict old ≡ Accepted) (b : verdict new ≡ Accepted) where
  -- of the body's lines those that begin with a section's four letters are the notice's lines, whole, in order and once
  -- each [V3]
  pub lines_stand : those is_of_section (lines_in (body_text old new)) ≡ map render (notice_lines old new)
  unfolding is_name_from those same name_of kind_of head_lines ending_lines
  lines_stand =
      let ls = notice_lines old new in
      let count : ℕ → ℕ = λ s. how_many s ls in
      ap (those is_of_section) (body_lines old new a b)
      ∙ those_append is_of_section (head_lines (length ls) count ++ entries_lines old new ls) ending_lines
      ∙ ap (λ (x : List (List ℕ)). x ++ those is_of_section ending_lines) (those_append is_of_section (head_lines (length ls) count) (entries_lines old new ls))
      ∙ ap₂ (λ (x y : List (List ℕ)). (x ++ y) ++ those is_of_section ending_lines) (head_none (length ls) count) (lines_only (is_name_from sections 0) true names_are_names refl old new ls (fine old new a b))
      ∙ append-nil (map render ls)
    where
      head_none : (n : ℕ) (count : ℕ → ℕ) → those is_of_section (head_lines n count) ≡ []
      head_none zero count = refl
      head_none (suc n) count = refl

  -- where there is a line, none of the body's begins as the sentence does
  no_sentence : (n : ℕ) → length (notice_lines old new) ≡ suc n → those (λ l. no_alteration (take 4 l)) (lines_in (body_text old new)) ≡ []
  unfolding those same head_lines ending_lines
  no_sentence n e =
      let ls = notice_lines old new in
      let count : ℕ → ℕ = λ s. how_many s ls in
      let test : List ℕ → Bool = λ l. no_alteration (take 4 l) in
      ap (those test) (body_lines old new a b)
      ∙ those_append test (head_lines (length ls) count ++ entries_lines old new ls) ending_lines
      ∙ ap (λ (x : List (List ℕ)). x ++ those test ending_lines) (those_append test (head_lines (length ls) count) (entries_lines old new ls))
      ∙ ap₂ (λ (x y : List (List ℕ)). (x ++ y) ++ those test ending_lines) (ap (λ (m : ℕ). those test (head_lines m count)) e) (lines_only no_alteration false names_are_other refl old new ls (fine old new a b))

  -- the body says that nothing is altered exactly where there is no line [V2]
  pub unaltered_iff : Memᴰ (line_of unaltered) (lines_in (body_text old new)) ↔ (notice_lines old new ≡ [])
  unfolding same head_lines entries_lines
  unaltered_iff = (
    (λ i. only (notice_lines old new) refl i),
    (λ e. rw (body_lines old new a b, e) (Memᴰ.tail (Memᴰ.head refl))),
  )
    where
      only : (ls : List Line) → notice_lines old new ≡ ls → Memᴰ (line_of unaltered) (lines_in (body_text old new)) → notice_lines old new ≡ []
      only [] e i = e
      only (l ∷ ls) e i = absurd (Memᴰ.not-nil (rw (no_sentence (length ls) (ap length e)) at (kept (λ l. no_alteration (take 4 l)) (line_of unaltered) (lines_in (body_text old new)) refl i)))

-- no body is longer than LONGEST [V7]
pub body_at_most : (old new : List ℕ) → length (body_text old new) ≤ longest_body
body_at_most = at_most

-- of each section it is said whether ALTR without an input speaks of it [V4]
pub stated_for_each : length stated ≡ sections
stated_for_each = refl
