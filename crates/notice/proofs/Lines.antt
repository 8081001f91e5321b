-- The text of lines: how lists of lines render, and how long the text of one is. Assumes nothing.
use Prim.Native.Nat.{ℕ, zero, suc, ◌+◌, ◌-◌}
use mathlib.Core.Path.{◌≡◌, refl, sym, ap, ◌∙◌}
use mathlib.Core.List.{List, [], ◌∷◌, ◌++◌, append_assoc, append-nil}
use native.Mathlib.Omega.{arith}
use Rattle.std.proofs.Common.{◌/◌, ◌%◌, ◌^◌, ◌<◌, set, add-one}
use Rattle.std.proofs.lemmas.List.{drop-set}
use Rattle.std.proofs.Math.Nat.{div-div-eq-div-mul, pow-suc}
use lib.ListN.{length, drop, length-append}
use Rattle.kinds.specs.Table.{name_of}
use Rattle.kinds.proofs.Rows.{always}
use Rattle.findings.specs.declared.Line.{Line}
use Rattle.notice.specs.Text.{hex_digit, hex, slot_text, finding_text, render, render_all}

render_all_one : (l : Line) → render_all (l ∷ []) ≡ render l
unfolding render_all
render_all_one l = append-nil (render l)

pub render_all_append : (ls ms : List Line) → render_all (ls ++ ms) ≡ render_all ls ++ render_all ms
unfolding render_all
render_all_append [] ms = refl
render_all_append (l ∷ ls) ms =
    ap (λ (t : List ℕ). render l ++ t) (render_all_append ls ms) ∙ sym (append_assoc (render l) (render_all ls) (render_all ms))

-- ---- lengths

pub hex_length : (n x : ℕ) → length (hex n x) ≡ n
hex_length zero x = refl
hex_length (suc n) x = ap suc (hex_length n x)

-- the next digit's number: one place more
pub sixteenth : (x i : ℕ) → x / 16 ^ i / 16 ≡ x / 16 ^ (i + 1)
sixteenth x i = rw (add-one i, pow-suc 16 i) (div-div-eq-div-mul x (16 ^ i) 16)

-- the digits are written from the last one on: those behind a place are there, and then one more
pub hex_more : (n i x : ℕ) (digits : List ℕ) → i < n → length digits ≡ n → drop (n - i) digits ≡ hex i x
    → drop (n - (i + 1)) (set digits (n - 1 - i) (hex_digit (x / 16 ^ i % 16))) ≡ hex (i + 1) x
hex_more n i x digits h l e =
    let here : n - (i + 1) ≡ n - 1 - i = omega arith in
    let behind : n - 1 - i + 1 ≡ n - i = omega arith in
    let within : n - 1 - i < length digits = omega arith in
    rw (here, drop-set digits (n - 1 - i) (hex_digit (x / 16 ^ i % 16)) within, behind, e, add-one i)

pub name_length : (k : ℕ) → length (name_of k) ≡ 4
unfolding name_of
name_length = always (λ x. length x.name) 4 tt

pub render_length : (l : Line) → length (render l) ≡ 8 + length (finding_text l.finding)
unfolding render
render_length l =
    rw (
      length-append (name_of l.section ++ slot_text l.slot) (finding_text l.finding),
      length-append (name_of l.section) (slot_text l.slot),
      name_length l.section,
    )

pub one_length : (l : Line) → length (render_all (l ∷ [])) ≡ 8 + length (finding_text l.finding)
one_length l = ap length (render_all_one l) ∙ render_length l
