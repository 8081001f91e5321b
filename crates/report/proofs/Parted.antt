-- The body of a page, cut at its line feeds, piece by piece; and which of its lines pass a test on their first four bytes.
-- Assumes nothing.
use Prim.Native.Nat.{ℕ, zero, suc, ◌+◌, ◌/◌, ◌%◌, ◌^◌, ◌<◌}
use Prim.Native.String.{String}
use mathlib.Core.Path.{◌≡◌, refl, sym, ap, ◌∙◌}
use mathlib.Core.Bool.{Bool, true, false, cond, ◌&&◌}
use mathlib.Core.List.{List, [], ◌∷◌, ◌++◌, map, append_assoc, append-nil}
use native.Mathlib.Omega.{arith}
use borrow.Author.Tests.{ne_eqb}
use lib.Dec.{eqb, leb, leb→le}
use lib.ListN.{get_or}
use Rattle.compare.specs.Within.{all_within}
use Rattle.lines.proofs.Truth.{T_true, both_true}
use Rattle.lut.specs.declared.Input.TheVariants.{Nothing, Sample, Samples, Sources}
use Rattle.lut.specs.declared.Telling.TheVariants.{Alike, Apart}
use Rattle.kinds.specs.Table.{sections}
use Rattle.sheet.specs.Parsed.{record_with}
use Rattle.refusal.specs.Words.{ascii}
use Rattle.refusal.specs.Line.{decimal}
use Rattle.refusal.proofs.Theorems.{decimal_is_digits}
use Rattle.findings.specs.declared.Finding.{Finding}
use Rattle.findings.specs.declared.Finding.TheVariants.{New, Gone, Name, Changed}
use Rattle.findings.specs.declared.Line.{Line}
use Rattle.notice.specs.Split.{split_from, lines_in}
use Rattle.notice.specs.Text.{render}
use Rattle.notice.proofs.Splitting.{Feedless, feedless_append, split_line, feeds, no_feeds, body, body_text_law, body_feedless}
use Rattle.report.specs.Words.{line_of, lines_of, ending, unaltered, altered_bare, altered_on, stated, sources, names_in, sources_text, saying_text, ending_text}
use Rattle.report.specs.Page.{label_text, labels_text, entry_text, entries_text, head_on}

-- ---- a text that is these lines, whatever stands behind it

abbrev pub Splits : List ℕ → List (List ℕ) → Type 0
Splits text ls = (rest : List ℕ) → lines_in (text ++ rest) ≡ ls ++ lines_in rest

splits_line : (x : List ℕ) → Feedless x → Splits (x ++ (10 ∷ [])) ((x ++ (10 ∷ [])) ∷ [])
splits_line x f rest = ap lines_in (append_assoc x (10 ∷ []) rest) ∙ split_line [] x rest f

pub splits_append : (t u : List ℕ) (ls ms : List (List ℕ)) → Splits t ls → Splits u ms → Splits (t ++ u) (ls ++ ms)
splits_append t u ls ms p q rest =
    ap lines_in (append_assoc t u rest) ∙ p (u ++ rest) ∙ ap (λ (x : List (List ℕ)). ls ++ x) (q rest) ∙ sym (append_assoc ls ms (lines_in rest))

pub splits_all : (t : List ℕ) (ls : List (List ℕ)) → Splits t ls → lines_in t ≡ ls
unfolding split_from
splits_all t ls p = ap lines_in (sym (append-nil t)) ∙ p [] ∙ append-nil ls

-- words
splits_words : (s : String) → feeds (ascii s) ≡ 0 → Splits (line_of s) (line_of s ∷ [])
splits_words s e = splits_line (ascii s) (no_feeds (ascii s) e)

-- bytes above the line feed
pub plain_feedless : (low high : ℕ) (bs : List ℕ) → 10 < low → all_within low high bs ≡ true → Feedless bs
unfolding all_within
plain_feedless low high [] h e = tt
plain_feedless low high (b ∷ bs) h e =
    let first = both_true (leb low b && leb b high) (all_within low high bs) e in
    let above = leb→le low b (T_true _ (both_true (leb low b) (leb b high) first.0).0) in
    (ne_eqb b 10 (λ q. omega arith), plain_feedless low high bs h first.1)

-- ---- an entry

bare_splits : (k : ℕ) → Splits (line_of (altered_bare k)) (line_of (altered_bare k) ∷ [])
unfolding feeds
bare_splits k = go (get_or stated k false)
  where
    go : (b : Bool)
        → Splits (line_of (cond b "    Altered: the state's number, else state or flags are others." "    Altered."))
        (line_of (cond b "    Altered: the state's number, else state or flags are others." "    Altered.") ∷ [])
    go true = splits_words "    Altered: the state's number, else state or flags are others." refl
    go false = splits_words "    Altered." refl

-- how many of these words have a line feed
total : List String → ℕ
total [] = 0
total (n ∷ ns) = feeds (ascii n) + total ns

names_feedless : (names : List String) (bits : ℕ) → total names ≡ 0 → Feedless (names_in names bits)
unfolding names_in total
names_feedless [] bits e = tt
names_feedless (n ∷ ns) bits e =
    feedless_append (cond (eqb (bits % 2) 0) [] (ascii n)) (names_in ns (bits / 2)) (go (eqb (bits % 2) 0)) (names_feedless ns (bits / 2) (omega arith))
  where
    go : (b : Bool) → Feedless (cond b [] (ascii n))
    go true = tt
    go false = no_feeds (ascii n) (omega arith)

sources_feedless : (pattern : ℕ) → Feedless (cond (eqb pattern 0) (ascii " none") (names_in sources pattern))
unfolding total feeds
sources_feedless pattern = go (eqb pattern 0)
  where
    go : (b : Bool) → Feedless (cond b (ascii " none") (names_in sources pattern))
    go true = no_feeds (ascii " none") refl
    go false = names_feedless sources pattern refl

-- the lines of what is said
unfoldable pub saying_lines : (k : ℕ) → Finding → List (List ℕ)
saying_lines k New = saying_text k New ∷ []
saying_lines k Gone = saying_text k Gone ∷ []
saying_lines k Name = saying_text k Name ∷ []
saying_lines k (Changed Alike) = saying_text k (Changed Alike) ∷ []
saying_lines k (Changed (Apart Nothing)) = line_of (altered_bare k) ∷ []
saying_lines k (Changed (Apart (Sample s))) = line_of altered_on ∷ []
saying_lines k (Changed (Apart (Samples e l))) = line_of altered_on ∷ []
saying_lines k (Changed (Apart (Sources pattern))) = line_of altered_on ∷ sources_text pattern ∷ []

saying_splits : (k : ℕ) (f : Finding) → Splits (saying_text k f) (saying_lines k f)
unfolding saying_lines feeds
saying_splits k New = splits_words "    The slot is in the new sheet only." refl
saying_splits k Gone = splits_words "    The slot is in the old sheet only." refl
saying_splits k Name = splits_words "    The label is another one." refl
saying_splits k (Changed Alike) = splits_words "    Written otherwise, but no input tells the two apart: they hit alike." refl
saying_splits k (Changed (Apart Nothing)) = bare_splits k
saying_splits k (Changed (Apart (Sample s))) = splits_words altered_on refl
saying_splits k (Changed (Apart (Samples e l))) = splits_words altered_on refl
saying_splits k (Changed (Apart (Sources pattern))) =
    splits_append (line_of altered_on) (sources_text pattern) (line_of altered_on ∷ []) (sources_text pattern ∷ []) (splits_words altered_on refl)
    (splits_line (ascii "    sources that hit in it:" ++ cond (eqb pattern 0) (ascii " none") (names_in sources pattern))
    (feedless_append (ascii "    sources that hit in it:") (cond (eqb pattern 0) (ascii " none") (names_in sources pattern)) (no_feeds (ascii "    sources that hit in it:") refl) (sources_feedless pattern)))

-- the lines of an entry: the notice's, what it says, the labels
unfoldable pub entry_lines : Line → (old new : List ℕ) → List (List ℕ)
entry_lines l old new = (render l ∷ []) ++ saying_lines l.section l.finding ++ (labels_text old new ∷ [])

entry_splits : (l : Line) (old new : List ℕ) → l.section < sections → Feedless (label_text old) → Feedless (label_text new)
    → Splits (entry_text l old new) (entry_lines l old new)
unfolding entry_lines feeds
entry_splits l old new h a b =
    splits_append (render l ++ saying_text l.section l.finding) (labels_text old new) ((render l ∷ []) ++ saying_lines l.section l.finding) (labels_text old new ∷ [])
    (splits_append (render l) (saying_text l.section l.finding) (render l ∷ []) (saying_lines l.section l.finding)
    (rw (body_text_law l) (splits_line (body l) (body_feedless l h))) (saying_splits l.section l.finding))
    (splits_line ((ascii "    old label " ++ label_text old) ++ (ascii ", new label " ++ label_text new))
    (feedless_append (ascii "    old label " ++ label_text old) (ascii ", new label " ++ label_text new)
    (feedless_append (ascii "    old label ") (label_text old) (no_feeds (ascii "    old label ") refl) a)
    (feedless_append (ascii ", new label ") (label_text new) (no_feeds (ascii ", new label ") refl) b)))

-- ---- the entries, of lines of sections that sheets have and of records whose labels have no line feed

module _ (old new : List ℕ) where
  abbrev pub Fine : Line → Type 0
  Fine l =
      (l.section < sections) × Feedless (label_text (record_with l.section l.slot old)) × Feedless (label_text (record_with l.section l.slot new))

  abbrev pub AllFine : List Line → Type 0
  AllFine [] = Unit {0}
  AllFine (l ∷ ls) = Fine l × AllFine ls

  unfoldable pub entries_lines : List Line → List (List ℕ)
  entries_lines [] = []
  entries_lines (l ∷ ls) = entry_lines l (record_with l.section l.slot old) (record_with l.section l.slot new) ++ entries_lines ls

  pub entries_split : (ls : List Line) → AllFine ls → Splits (entries_text old new ls) (entries_lines ls)
  unfolding entries_text entries_lines
  entries_split [] f = λ rest. refl
  entries_split (l ∷ ls) f =
      splits_append (entry_text l (record_with l.section l.slot old) (record_with l.section l.slot new)) (entries_text old new ls)
      (entry_lines l (record_with l.section l.slot old) (record_with l.section l.slot new)) (entries_lines ls)
      (entry_splits l (record_with l.section l.slot old) (record_with l.section l.slot new) f.0.0 f.0.1 f.0.2) (entries_split ls f.1)

-- ---- head and ending

-- the line of counts, up to its line feed
abbrev pub counts_line : (ℕ → ℕ) → List ℕ
counts_line count =
    ascii "Lines by sort: NAME " ++ decimal (count 0)
    ++ (ascii ", ALTR " ++ decimal (count 1))
    ++ (ascii ", WORD " ++ decimal (count 2))
    ++ (ascii ", NEW " ++ decimal (count 3))
    ++ (ascii ", GONE " ++ decimal (count 4))

digits_feedless : (n : ℕ) → n < 2 ^ 64 → Feedless (decimal n)
digits_feedless n h = plain_feedless 48 57 (decimal n) (omega arith) (decimal_is_digits n h)

counted_feedless : (before : String) (n : ℕ) → feeds (ascii before) ≡ 0 → n < 2 ^ 64 → Feedless (ascii before ++ decimal n)
counted_feedless before n e h = feedless_append (ascii before) (decimal n) (no_feeds (ascii before) e) (digits_feedless n h)

counts_feedless : (count : ℕ → ℕ) → ((s : ℕ) → count s < 2 ^ 64) → Feedless (counts_line count)
unfolding feeds
counts_feedless count h =
    let name = ascii "Lines by sort: NAME " ++ decimal (count 0) in
    let altr = name ++ (ascii ", ALTR " ++ decimal (count 1)) in
    let word = altr ++ (ascii ", WORD " ++ decimal (count 2)) in
    let new = word ++ (ascii ", NEW " ++ decimal (count 3)) in
    feedless_append new (ascii ", GONE " ++ decimal (count 4))
    (feedless_append word (ascii ", NEW " ++ decimal (count 3))
    (feedless_append altr (ascii ", WORD " ++ decimal (count 2))
    (feedless_append name (ascii ", ALTR " ++ decimal (count 1))
    (counted_feedless "Lines by sort: NAME " (count 0) refl (h 0)) (counted_feedless ", ALTR " (count 1) refl (h 1)))
    (counted_feedless ", WORD " (count 2) refl (h 2)))
    (counted_feedless ", NEW " (count 3) refl (h 3)))
    (counted_feedless ", GONE " (count 4) refl (h 4))

unfoldable pub head_lines : ℕ → (count : ℕ → ℕ) → List (List ℕ)
head_lines zero count = (10 ∷ []) ∷ line_of unaltered ∷ []
head_lines (suc n) count = (10 ∷ []) ∷ (counts_line count ++ (10 ∷ [])) ∷ (10 ∷ []) ∷ []

pub head_splits : (n : ℕ) (count : ℕ → ℕ) → ((s : ℕ) → count s < 2 ^ 64) → Splits (head_on n count) (head_lines n count)
unfolding feeds head_lines
head_splits zero count h = splits_append (10 ∷ []) (line_of unaltered) ((10 ∷ []) ∷ []) (line_of unaltered ∷ []) (splits_line [] tt) (splits_words unaltered refl)
head_splits (suc n) count h = λ rest.
    ap (λ (t : List ℕ). lines_in (10 ∷ (t ++ rest))) (sym (append_assoc (counts_line count) (10 ∷ []) (10 ∷ [])))
    ∙ splits_append (10 ∷ []) ((counts_line count ++ (10 ∷ [])) ++ (10 ∷ [])) ((10 ∷ []) ∷ []) ((counts_line count ++ (10 ∷ [])) ∷ (10 ∷ []) ∷ []) (splits_line [] tt)
    (splits_append (counts_line count ++ (10 ∷ [])) (10 ∷ []) ((counts_line count ++ (10 ∷ [])) ∷ []) ((10 ∷ []) ∷ []) (splits_line (counts_line count) (counts_feedless count h)) (splits_line [] tt)) rest

unfoldable pub ending_lines : List (List ℕ)
ending_lines = map line_of ending

-- words that have no line feed, one behind the other
words_split : (ss : List String) → total ss ≡ 0 → Splits (lines_of ss) (map line_of ss)
unfolding total
words_split [] e = λ rest. refl
words_split (s ∷ ss) e = splits_append (line_of s) (lines_of ss) (line_of s ∷ []) (map line_of ss) (splits_words s (omega arith)) (words_split ss (omega arith))

pub ending_splits : Splits ending_text ending_lines
unfolding ending_text ending_lines total feeds
ending_splits = words_split ending refl
