-- The notice's bytes determine its lines: `line_back` finds the line at the front of rendered text. Assumes nothing.
use Prim.Native.Nat.{ℕ, zero, suc, ◌+◌, ◌-◌, ◌*◌, ◌/◌, ◌%◌, ◌^◌, ◌<◌}
use mathlib.Core.Path.{◌≡◌, refl, sym, ap, ap₂, ◌∙◌}
use mathlib.Core.Bool.{Bool, false, cond}
use mathlib.Core.List.{List, [], ◌∷◌, ◌++◌, append_assoc, Memᴰ}
use native.Mathlib.Omega.{arith}
use native.Mathlib.Nat.{mod-eq_of_lt, mod-lt, one-le-pow, pow-succ', add-mul, mul_assoc}
use native.Mathlib.Decide.{dec_lt}
use lib.ListN.{length, get_or, take, drop, length-append}
use lib.Seq.{drop-append_seam, take_at, drop_at}
use lib.Dec.{eqb, eqb→eq, ltb, lit<}
use lib.Arith.{mod-mul}
use borrow.Author.Tests.{lt-ltb, le-ltb}
use Rattle.lines.proofs.Computed.{every_below_law}
use Rattle.lut.specs.Input.{Fits}
use Rattle.lut.specs.declared.Input.{Input}
use Rattle.lut.specs.declared.Input.TheVariants.{Nothing, Sample, Samples, Sources}
use Rattle.compare.specs.Same.{same}
use Rattle.kinds.specs.Table.{sections, kind_of, name_of}
use Rattle.lut.specs.declared.Telling.TheVariants.{Alike, Apart}
use Rattle.findings.specs.declared.Finding.{Finding}
use Rattle.findings.specs.declared.Finding.TheVariants.{New, Gone, Name, Changed}
use Rattle.findings.specs.declared.Line.{Line}
use Rattle.notice.proofs.Splitting.{digit_not_end}
use Rattle.notice.specs.Text.{hex_digit, hex, slot_text, input_text, finding_text, render, render_all}
use Rattle.notice.proofs.Lines.{name_length, render_length}

-- ---- digits

undigit : ℕ → ℕ
undigit c = cond (ltb c 58) (c - 48) (c - 55)

undigit_digit : (d : ℕ) → d < 16 → undigit (hex_digit d) ≡ d
unfolding undigit
undigit_digit d h =
    elim (dec_lt d 10) [
      | yes l ↦ rw (lt-ltb d 10 l, lt-ltb (48 + d) 58 (omega arith)) (omega arith)
      | no l ↦ rw (le-ltb d 10 (omega arith), le-ltb (55 + d) 58 (omega arith)) (omega arith)
    ]

-- the number that hex digits write, after the number read so far
unhex : ℕ → List ℕ → ℕ
unhex acc [] = acc
unhex acc (c ∷ cs) = unhex (acc * 16 + undigit c) cs

unhex_hex : (n x acc : ℕ) → unhex acc (hex n x) ≡ acc * 16 ^ n + x % 16 ^ n
unfolding unhex
unhex_hex zero x acc = omega arith
unhex_hex (suc n) x acc =
    let d = x / 16 ^ n % 16 in
    let p = 16 ^ n in
    let e : x % (16 * p) ≡ d * p + x % p = mod-mul x (lit< tt) (one-le-pow n 16 (lit< tt)) in
    ap (λ (a : ℕ). unhex (acc * 16 + a) (hex n x)) (undigit_digit d (mod-lt (x / p) (lit< tt)))
    ∙ unhex_hex n x (acc * 16 + d)
    ∙ rw (pow-succ' 16 n, e, add-mul (acc * 16) d p, mul_assoc acc 16 p) (omega arith)

unhex_all : (n x : ℕ) → x < 16 ^ n → unhex 0 (hex n x) ≡ x
unhex_all n x h = unhex_hex n x 0 ∙ rw (mod-eq_of_lt h) (omega arith)

-- ---- a line

-- of n sections from section k on, the one with these letters
section_from : (n k : ℕ) → List ℕ → ℕ
section_from zero k letters = k
section_from (suc n) k letters = cond (same (name_of k) letters) k (section_from n (k + 1) letters)

section_back : (k : ℕ) → k < sections → section_from sections 0 (name_of k) ≡ k
unfolding section_from name_of kind_of same
section_back k h = eqb→eq _ _ (every_below_law sections (λ k. eqb (section_from sections 0 (name_of k)) k) tt k h)

slot_back : List ℕ → ℕ
slot_back b = (get_or b 1 0 - 48) * 10 + (get_or b 2 0 - 48)

-- the input that ALTR shows, by where the line ends
input_back : List ℕ → Input
input_back b =
    cond (eqb (get_or b 0 0) 10) Nothing
    (cond (eqb (get_or b 5 0) 10)
    (Sources (unhex 0 (take 4 (drop 1 b))))
    (cond (eqb (get_or b 9 0) 10)
    (Sample (unhex 0 (take 8 (drop 1 b))))
    (Samples (unhex 0 (take 8 (drop 1 b))) (unhex 0 (take 8 (drop 10 b))))))

finding_back : List ℕ → Finding
finding_back b =
    cond (eqb (get_or b 0 0) 78) (cond (eqb (get_or b 1 0) 69) New Name)
    (cond (eqb (get_or b 0 0) 71) Gone
    (cond (eqb (get_or b 0 0) 87) (Changed Alike)
    (Changed (Apart (input_back (drop 4 b))))))

-- the line at the front of rendered text
line_back : List ℕ → Line
line_back b = record { section = section_from sections 0 (take 4 b); slot = slot_back (drop 4 b); finding = finding_back (drop 4 (drop 4 b)) }

-- a line of a section that a sheet has, whose input can be written
abbrev pub Shows : Finding → Type 0
Shows New = Unit {0}
Shows Gone = Unit {0}
Shows Name = Unit {0}
Shows (Changed Alike) = Unit {0}
Shows (Changed (Apart input)) = Fits input

pub record Valid (l : Line) : Type 0 where
  pub known : l.section < sections
  pub shows : Shows l.finding

otherwise : (b : Bool) (x y : Input) → b ≡ false → cond b x y ≡ y
otherwise b x y e = rw e

input_back_law : (i : Input) (rest : List ℕ) → Fits i → input_back ((input_text i ++ (10 ∷ [])) ++ rest) ≡ i
unfolding input_back
input_back_law Nothing rest h = refl
input_back_law (Sample s) rest h = otherwise _ _ _ (digit_not_end (s / 16 ^ 3 % 16)) ∙ ap Sample (unhex_all 8 s h)
input_back_law (Samples e l) rest h =
    otherwise _ _ _ (digit_not_end (e / 16 ^ 3 % 16)) ∙ ap₂ Samples (unhex_all 8 e h.0) (unhex_all 8 l h.1)
input_back_law (Sources s) rest h = ap Sources (unhex_all 4 s h)

finding_back_law : (f : Finding) (rest : List ℕ) → Shows f → finding_back (finding_text f ++ rest) ≡ f
unfolding finding_back
finding_back_law New rest h = refl
finding_back_law Gone rest h = refl
finding_back_law Name rest h = refl
finding_back_law (Changed Alike) rest h = refl
finding_back_law (Changed (Apart i)) rest h = ap (λ (x : Input). Changed (Apart x)) (input_back_law i rest h)

slot_back_law : (s : ℕ) (rest : List ℕ) → slot_back (slot_text s ++ rest) ≡ s
unfolding slot_back
slot_back_law s rest = omega arith

parts : (k s : ℕ) (f : Finding) (rest : List ℕ) → k < sections → Shows f
    → line_back (name_of k ++ (slot_text s ++ (finding_text f ++ rest))) ≡ record { section = k; slot = s; finding = f }
unfolding line_back
parts k s f rest h v =
    let more = slot_text s ++ (finding_text f ++ rest) in
    rw (take_at (name_of k) more 4 (name_length k), drop_at (name_of k) more 4 (name_length k), section_back k h)
    (λ i. record { section = k; slot = slot_back_law s (finding_text f ++ rest) i; finding = finding_back_law f rest v i })

line_back_law : (l : Line) (rest : List ℕ) → Valid l → line_back (render l ++ rest) ≡ l
unfolding render
line_back_law l rest v =
    ap line_back (append_assoc (name_of l.section ++ slot_text l.slot) (finding_text l.finding) rest
    ∙ append_assoc (name_of l.section) (slot_text l.slot) (finding_text l.finding ++ rest))
    ∙ parts l.section l.slot l.finding rest v.known v.shows

-- equal texts are one line
pub same_text_same_line : (l m : Line) → Valid l → Valid m → render l ≡ render m → l ≡ m
same_text_same_line l m v w e =
    sym (line_back_law l [] v) ∙ ap (λ (t : List ℕ). line_back (t ++ [])) e ∙ line_back_law m [] w

-- ---- a notice

abbrev pub AllValid : List Line → Type 0
AllValid [] = Unit {0}
AllValid (l ∷ ls) = Valid l × AllValid ls

pub each_valid : (ls : List Line) → ((l : Line) → Memᴰ l ls → Valid l) → AllValid ls
each_valid [] h = tt
each_valid (l ∷ ls) h = (h l (Memᴰ.head refl), each_valid ls (λ m i. h m (Memᴰ.tail i)))

line_pos : (l : Line) (rest : List ℕ) → 0 < length (render l ++ rest)
line_pos l rest = rw (length-append (render l) rest, render_length l) (omega arith)

-- equal bytes are equal lines
pub equal_bytes_equal_lines : (ls ms : List Line) → AllValid ls → AllValid ms → render_all ls ≡ render_all ms → ls ≡ ms
unfolding render_all
equal_bytes_equal_lines [] [] v w e = refl
equal_bytes_equal_lines [] (m ∷ ms) v w e = absurd (let h = ap length e in omega (arith, line_pos m (render_all ms)))
equal_bytes_equal_lines (l ∷ ls) [] v w e = absurd (let h = ap length e in omega (arith, line_pos l (render_all ls)))
equal_bytes_equal_lines (l ∷ ls) (m ∷ ms) v w e =
    let q : l ≡ m = sym (line_back_law l (render_all ls) v.0) ∙ ap line_back e ∙ line_back_law m (render_all ms) w.0 in
    let d : drop (length (render l)) (render m ++ render_all ms) ≡ render_all ms =
    ap (λ (x : Line). drop (length (render x)) (render m ++ render_all ms)) q ∙ drop-append_seam (render m) (render_all ms) in
    let r : render_all ls ≡ render_all ms =
    sym (drop-append_seam (render l) (render_all ls)) ∙ ap (drop (length (render l))) e ∙ d in
    ap₂ (λ (x : Line) (xs : List Line). x ∷ xs) q (equal_bytes_equal_lines ls ms v.1 w.1 r)
