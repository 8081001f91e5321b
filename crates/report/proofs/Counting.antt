-- The lines counted by sort, one after the other. Assumes nothing.
use Prim.Native.Nat.{ℕ, ◌+◌, ◌≤◌, ◌<◌}
use mathlib.Core.Bool.{Bool, true, false, cond}
use mathlib.Core.Path.{◌≡◌, refl, sym, ◌∙◌}
use mathlib.Core.List.{List, [], ◌∷◌}
use native.Mathlib.Decide.{ℕ_discrete}
use native.Mathlib.Omega.{arith}
use borrow.Author.Tests.{eq-eqb, ne_eqb}
use lib.Dec.{eqb, lit≤}
use lib.ListN.{length, get_or, set, length-append}
use lib.Seq.{get_or-set_same, get_or-set_other}
use Rattle.findings.specs.declared.Line.{Line}
use Rattle.notice.specs.Text.{render, render_all}
use Rattle.kinds.specs.Table.{kind_of, most_of}
use Rattle.findings.specs.Findings.{notice_lines}
use Rattle.notice.specs.Notice.{notice_text, slot_most, most_text, longest_notice}
use Rattle.notice.proofs.Lengths as notice
use Rattle.notice.proofs.Lines.{render_length}
use Rattle.report.specs.Page.{sort_of, how_many, head_on, counts_text, entries_text}
use Rattle.report.proofs.Heads.{head_some}
use Rattle.report.proofs.Lengths.{entries_some}

-- of these lines, `counts` has counted all but those of `rest`
abbrev pub Counted : (counts : List ℕ) (rest all : List Line) → Type 0
Counted counts rest all = (s : ℕ) → s < 5 → get_or counts s 0 + how_many s rest ≡ how_many s all

pub counted_turn : (counts : List ℕ) (l : Line) (rest all : List Line) → length counts ≡ 5 → sort_of l.finding < 5 → Counted counts (l ∷ rest) all
    → Counted (set counts (sort_of l.finding) (get_or counts (sort_of l.finding) 0 + 1)) rest all
unfolding how_many
counted_turn counts l rest all n h c s b =
    elim (ℕ_discrete (sort_of l.finding) s) [
      | yes e ↦
          let before = rw (eq-eqb (sort_of l.finding) (sort_of l.finding) refl) at (c (sort_of l.finding) h) in
          rw (← e) (rw (get_or-set_same counts (sort_of l.finding) (get_or counts (sort_of l.finding) 0 + 1) 0 (omega arith)) (omega (arith, before)))
      | no e ↦
          let before = rw (ne_eqb (sort_of l.finding) s e) at (c s b) in
          rw (get_or-set_other counts (sort_of l.finding) s (get_or counts (sort_of l.finding) 0 + 1) 0 (λ q. e (sym q))) (omega (arith, before))
    ]

-- there are few
few_of : (s : ℕ) (ls : List Line) → how_many s ls ≤ length (render_all ls)
unfolding how_many render_all
few_of s [] = omega arith
few_of s (l ∷ ls) =
    rw (length-append (render l) (render_all ls)) (omega (arith, few_of s ls, render_length l, go (eqb (sort_of l.finding) s)))
  where
    go : (b : Bool) → cond b 1 0 ≤ 1
    go true = omega arith
    go false = omega arith

-- a notice has far fewer lines than a number of 64 bits can count
pub few : (s : ℕ) (old new : List ℕ) → how_many s (notice_lines old new) ≤ 1000000
unfolding notice_text most_text slot_most most_of kind_of
few s old new =
    let most : longest_notice ≤ 1000000 = lit≤ tt in
    omega (arith, most, few_of s (notice_lines old new), notice.at_most old new)

-- the head by the counts is that by the lines
same_counts : (f g : ℕ → ℕ) → ((s : ℕ) → s < 5 → f s ≡ g s) → counts_text f ≡ counts_text g
same_counts f g e = rw (e 0 (omega arith), e 1 (omega arith), e 2 (omega arith), e 3 (omega arith), e 4 (omega arith))

pub head_counted : (old new : List ℕ) (ls : List Line) (f : ℕ → ℕ) → ((s : ℕ) → s < 5 → f s ≡ how_many s ls)
    → head_on (length (entries_text old new ls)) f ≡ head_on (length ls) (λ s. how_many s ls)
unfolding entries_text
head_counted old new [] f e = refl
head_counted old new (l ∷ ls) f e =
    head_some (length (entries_text old new (l ∷ ls))) f (λ z. omega (arith, entries_some old new l ls, z)) ∙ same_counts f (λ s. how_many s (l ∷ ls)) e
