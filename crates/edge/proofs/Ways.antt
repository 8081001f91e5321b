-- An edge's description as bytes: its words are read as it is, what is read has no fault and writes the words, and two
-- that hit alike are the same. Assumes nothing.
use Prim.Native.Nat.{ℕ, ◌<◌, ◌^◌}
use mathlib.Core.Path.{◌≡◌, refl, sym, ap, ◌∙◌}
use mathlib.Core.Bool.{true}
use mathlib.Core.List.{List, [], ◌∷◌}
use mathlib.Core.Logic.{◌↔◌}
use Rattle.std.proofs.Common.{Option, Some, None}
use native.Mathlib.Nat.{not-suc-le-zero}
use native.Mathlib.Omega.{arith}
use lib.ListN.{length, get_or}
use Rattle.lut.specs.Telling.{HitAlike}
use Rattle.peek.specs.Bytes.{Bytes}
use Rattle.peek.specs.Fields.{field_of, field_bytes, Writes}
use Rattle.buffer.proofs.Faults.{unless_none}
use Rattle.peek.proofs.Numbers.{u32_small}
use Rattle.peek.proofs.FieldLaws.{fields_bytes}
use Rattle.edge.specs.declared.Edge.{Edge}
use Rattle.edge.specs.Rule.{edge_accepted, hit, Accepted}
use Rattle.edge.specs.Words.{words_of}
use Rattle.edge.specs.Back.{read_edge, ReadMeans}
use Rattle.edge.specs.Description.{size, from_bytes, to_bytes, fault, words, bytes_read, back}
use Rattle.edge.proofs.ReadingBack.{read_means}
use Rattle.edge.proofs.WordLaws.{words_length, words_lt}
use Rattle.edge.proofs.Theorems.{words_read_back, alike_same, bytes_inverse, description_inverse}

pub words_count : (d : List ℕ) → length (words d) ≡ 8
unfolding words
words_count d = words_length (field_of d 0) (field_of d 1) (field_of d 2)

pub fault_none : (d : List ℕ) → edge_accepted (field_of d 0) (field_of d 1) (field_of d 2) ≡ true → fault d ≡ 0
unfolding fault
fault_none d e = rw e

pub accepted : (d : List ℕ) → Bytes d → fault d ≡ 0 → Accepted (from_bytes d)
unfolding fault
accepted d h f =
    record {
      ok = unless_none (edge_accepted (field_of d 0) (field_of d 1) (field_of d 2)) 9 (λ z. omega arith) f;
      rise_fits = u32_small d 0 h;
      fall_fits = u32_small d 4 h;
      neither_fits = u32_small d 8 h;
    }

pub faultless_iff : (d : List ℕ) → Bytes d → length d ≡ size → (fault d ≡ 0) ↔ Accepted (from_bytes d)
faultless_iff d h l = (accepted d h, (λ a. fault_none d a.ok))

-- descriptions that hit alike have the same bytes
pub alike_bytes : (d e : List ℕ) → Bytes d → Bytes e → length d ≡ size → length e ≡ size → fault d ≡ 0 → fault e ≡ 0
    → HitAlike (hit (from_bytes d)) (hit (from_bytes e)) → d ≡ e
alike_bytes d e hd he ld le fd fe alike =
    sym (bytes_inverse d hd ld) ∙ ap to_bytes (alike_same (from_bytes d) (from_bytes e) (accepted d hd fd) (accepted e he fe) alike) ∙ bytes_inverse e he le

pub back_words : (d : List ℕ) → Bytes d → length d ≡ size → fault d ≡ 0 → back (words d) ≡ d
unfolding back words field_bytes
back_words d h l f = ap bytes_read (words_read_back (from_bytes d) (accepted d h f)) ∙ bytes_inverse d h l

read_writes : (ws : List ℕ) (r : Option Edge) → ReadMeans ws r → 0 < length (bytes_read r) → Writes size fault words ws (bytes_read r)
unfolding words field_bytes
read_writes ws (Some e) w h =
    let again = description_inverse e w.accepted in
    record {
      are_bytes = fields_bytes (e.rise ∷ e.fall ∷ e.neither ∷ []);
      whole = refl;
      faultless = fault_none (to_bytes e) (ap (λ (d : Edge). edge_accepted d.rise d.fall d.neither) again ∙ w.accepted.ok);
      written = ap words_of again ∙ sym w.written;
    }
read_writes ws None w h = absurd (not-suc-le-zero h)

pub back_writes : (ws : List ℕ) → 0 < length (back ws) → Writes size fault words ws (back ws)
unfolding back
back_writes ws h = read_writes ws (read_edge ws) (read_means ws) h

pub words_fit : (d : List ℕ) (i : ℕ) → get_or (words d) i 0 < 2 ^ 32
unfolding words
words_fit d = words_lt (field_of d 0) (field_of d 1) (field_of d 2)
