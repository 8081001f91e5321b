-- Texts cut at their line feeds: a line of a notice has one, at its end. Assumes nothing.
use Prim.Native.Nat.{ℕ, zero, suc, ◌+◌, ◌/◌, ◌%◌, ◌^◌, ◌<◌}
use mathlib.Core.Path.{◌≡◌, refl, sym, ap, ◌∙◌}
use mathlib.Core.Bool.{Bool, true, false, cond}
use mathlib.Core.List.{List, [], ◌∷◌, ◌++◌, append_assoc}
use native.Mathlib.Decide.{dec_lt}
use native.Mathlib.Omega.{arith}
use lib.Dec.{eqb, eqb→eq}
use borrow.Author.Tests.{lt-ltb, le-ltb, ne_eqb}
use Rattle.lines.proofs.Computed.{every_below_law}
use Rattle.lut.specs.declared.Input.{Input}
use Rattle.lut.specs.declared.Input.TheVariants.{Nothing, Sample, Samples, Sources}
use Rattle.lut.specs.declared.Telling.TheVariants.{Alike, Apart}
use Rattle.kinds.specs.Table.{sections, kind_of, name_of}
use Rattle.findings.specs.declared.Finding.{Finding}
use Rattle.findings.specs.declared.Finding.TheVariants.{New, Gone, Name, Changed}
use Rattle.findings.specs.declared.Line.{Line}
use Rattle.notice.specs.Text.{hex_digit, hex, slot_text, input_text, finding_text, render}
use Rattle.notice.specs.Split.{split_from}

-- ---- texts without a line feed

abbrev pub Feedless : List ℕ → Type 0
Feedless [] = Unit {0}
Feedless (b ∷ bs) = (eqb b 10 ≡ false) × Feedless bs

pub feedless_append : (xs ys : List ℕ) → Feedless xs → Feedless ys → Feedless (xs ++ ys)
feedless_append [] ys h k = k
feedless_append (x ∷ xs) ys h k = (h.0, feedless_append xs ys h.1 k)

-- a line ends at its line feed, and the next begins behind it
pub split_line : (begun xs rest : List ℕ) → Feedless xs
    → split_from begun (xs ++ (10 ∷ rest)) ≡ (begun ++ (xs ++ (10 ∷ []))) ∷ split_from [] rest
unfolding split_from
split_line begun [] rest h = refl
split_line begun (x ∷ xs) rest h =
    rw h.0 (split_line (begun ++ (x ∷ [])) xs rest h.1
    ∙ ap (λ (l : List ℕ). l ∷ split_from [] rest) (append_assoc begun (x ∷ []) (xs ++ (10 ∷ []))))

-- ---- a line is a text without a line feed, and then one

-- no digit ends the line
pub digit_not_end : (d : ℕ) → eqb (hex_digit d) 10 ≡ false
digit_not_end d =
    elim (dec_lt d 10) [
      | yes l ↦ rw (lt-ltb d 10 l) (ne_eqb (48 + d) 10 (λ e. omega arith))
      | no l ↦ rw (le-ltb d 10 (omega arith)) (ne_eqb (55 + d) 10 (λ e. omega arith))
    ]

hex_feedless : (n x : ℕ) → Feedless (hex n x)
hex_feedless zero x = tt
hex_feedless (suc n) x = (digit_not_end (x / 16 ^ n % 16), hex_feedless n x)

-- of the names one computed test says it
unfoldable pub feeds : List ℕ → ℕ
feeds [] = 0
feeds (b ∷ bs) = cond (eqb b 10) 1 (feeds bs)

clear : (b : ℕ) (bs : List ℕ) (f : Bool) → eqb b 10 ≡ f → cond f 1 (feeds bs) ≡ 0 → (feeds bs ≡ 0 → Feedless bs) → Feedless (b ∷ bs)
clear b bs true e n more = absurd (omega arith)
clear b bs false e n more = (e, more n)

pub no_feeds : (bs : List ℕ) → feeds bs ≡ 0 → Feedless bs
unfolding feeds
no_feeds [] n = tt
no_feeds (b ∷ bs) n = clear b bs (eqb b 10) refl n (no_feeds bs)

name_feedless : (k : ℕ) → k < sections → Feedless (name_of k)
unfolding name_of kind_of feeds
name_feedless k h = no_feeds (name_of k) (eqb→eq _ _ (every_below_law sections (λ k. eqb (feeds (name_of k)) 0) tt k h))

slot_feedless : (s : ℕ) → Feedless (slot_text s)
slot_feedless s =
    (refl, (ne_eqb (48 + s / 10) 10 (λ e. omega arith), (ne_eqb (48 + s % 10) 10 (λ e. omega arith), (refl, tt))))

input_feedless : (i : Input) → Feedless (input_text i)
input_feedless Nothing = tt
input_feedless (Sample s) = (refl, hex_feedless 8 s)
input_feedless (Samples e l) = feedless_append (32 ∷ hex 8 e) (32 ∷ hex 8 l) (refl, hex_feedless 8 e) (refl, hex_feedless 8 l)
input_feedless (Sources s) = (refl, hex_feedless 4 s)

-- what is said of a slot, up to the line feed
said : Finding → List ℕ
said New = 78 ∷ 69 ∷ 87 ∷ []
said Gone = 71 ∷ 79 ∷ 78 ∷ 69 ∷ []
said Name = 78 ∷ 65 ∷ 77 ∷ 69 ∷ []
said (Changed Alike) = 87 ∷ 79 ∷ 82 ∷ 68 ∷ []
said (Changed (Apart input)) = (65 ∷ 76 ∷ 84 ∷ 82 ∷ []) ++ input_text input

said_feedless : (f : Finding) → Feedless (said f)
unfolding said
said_feedless New = (refl, (refl, (refl, tt)))
said_feedless Gone = (refl, (refl, (refl, (refl, tt))))
said_feedless Name = (refl, (refl, (refl, (refl, tt))))
said_feedless (Changed Alike) = (refl, (refl, (refl, (refl, tt))))
said_feedless (Changed (Apart input)) =
    feedless_append (65 ∷ 76 ∷ 84 ∷ 82 ∷ []) (input_text input) (refl, (refl, (refl, (refl, tt)))) (input_feedless input)

said_text : (f : Finding) → finding_text f ≡ said f ++ (10 ∷ [])
unfolding said
said_text New = refl
said_text Gone = refl
said_text Name = refl
said_text (Changed Alike) = refl
said_text (Changed (Apart input)) = refl

-- ---- a whole line, up to its line feed

pub body : Line → List ℕ
body l = name_of l.section ++ slot_text l.slot ++ said l.finding

pub body_feedless : (l : Line) → l.section < sections → Feedless (body l)
unfolding body
body_feedless l h =
    feedless_append (name_of l.section ++ slot_text l.slot) (said l.finding)
    (feedless_append (name_of l.section) (slot_text l.slot) (name_feedless l.section h) (slot_feedless l.slot))
    (said_feedless l.finding)

pub body_text_law : (l : Line) → render l ≡ body l ++ (10 ∷ [])
unfolding body render
body_text_law l =
    ap (λ (t : List ℕ). name_of l.section ++ slot_text l.slot ++ t) (said_text l.finding)
    ∙ sym (append_assoc (name_of l.section ++ slot_text l.slot) (said l.finding) (10 ∷ []))
