-- What is promised of edges. Assumes nothing.
use Prim.Native.Nat.{ℕ}
use mathlib.Core.Path.{◌≡◌, refl, sym, ap, ◌∙◌}
use mathlib.Core.Bool.{false}
use mathlib.Core.List.{List, [], ◌∷◌}
use mathlib.Core.Logic.{◌↔◌}
use Rattle.std.proofs.Common.{Option, Some, None}
use lib.Dec.{lit<}
use lib.ListN.{length}
use Rattle.peek.specs.Bytes.{Bytes}
use Rattle.peek.specs.Fields.{field_bytes}
use Rattle.peek.proofs.FieldLaws.{fields_read, fields_written, fit₃, same₃}
use Rattle.edge.specs.Description.{size, from_bytes, to_bytes}
use Rattle.lut.specs.Answer.{hit_or_miss}
use Rattle.lut.specs.Back.{Written}
use Rattle.lut.specs.Input.{Fits}
use Rattle.lut.specs.Telling.{HitAlike, Says}
use Rattle.lut.specs.declared.Input.TheVariants.{Samples}
use Rattle.lut.proofs.Asked.{alike_on_pairs}
use Rattle.lut.proofs.Runs.{run_needed}
use Rattle.edge.specs.declared.Edge.{Edge}
use Rattle.edge.specs.Rule.{hit_of, hit, Accepted}
use Rattle.edge.specs.Words.{words_of}
use Rattle.edge.specs.Model.{words_hit, run_edge}
use Rattle.edge.specs.Back.{read_edge, read_number}
use Rattle.edge.specs.Telling.{edge_telling}
use Rattle.edge.proofs.WordLaws.{words_length}
use Rattle.edge.proofs.Hits.{model_law}
use Rattle.edge.proofs.ReadingBack.{read_written, read_means, read_numbered}
use Rattle.edge.proofs.TellApart as apart

made : (rise fall neither : ℕ) → Edge
made rise fall neither = record { rise = rise; fall = fall; neither = neither }

-- over an edge's words the model hits exactly when the plain rule does [D2.4]
pub run_hits : (d : Edge) (earlier later : ℕ) → run_edge (words_of d) earlier later ≡ hit_or_miss (hit d (Samples earlier later))
run_hits d e l =
    run_needed 8 (words_of d) _ _ (words_length d.rise d.fall d.neither) (model_law d.rise d.fall d.neither e l)

-- an accepted edge does not hit on every two samples [P10]
pub accepted_edge_misses : (d : Edge) → Accepted d
    → (earlier : ℕ) × ((later : ℕ) × (Fits (Samples earlier later) × (hit_of d earlier later ≡ false)))
accepted_edge_misses = apart.misses

-- an accepted edge's words are read as that edge [C5, D2.5]
pub words_read_back : (d : Edge) → Accepted d → read_edge (words_of d) ≡ Some d
words_read_back = read_written

-- words are refused unless an accepted edge writes them [C5, F16, D2.6]
pub accepted_iff_written : (words : List ℕ) → (read_edge words ≡ None → ⊥) ↔ Written Accepted words_of words
accepted_iff_written ws =
    let numbered = read_numbered ws (read_edge ws) (read_means ws) in
    (λ n. numbered.read.0 (unrefused (read_edge ws) n), λ w e. numbered.refused.0 (ap read_number e) w)
  where
    unrefused : (r : Option Edge) → (r ≡ None → ⊥) → read_number r ≡ 0
    unrefused (Some e) n = refl
    unrefused None n = absurd (n refl)

module _ (a b : Edge) (p : Accepted a) (q : Accepted b) where
  -- two edges have the same chain words exactly when no two samples tell them apart [D3.2]
  pub equal_words_iff_alike : (words_of a ≡ words_of b) ↔ HitAlike (hit a) (hit b)
  equal_words_iff_alike = (
    λ w. alike_on_pairs (hit_of a) (hit_of b)
        (λ e l he hl.
        sym (model_law a.rise a.fall a.neither e l) ∙ ap (λ (ws : List ℕ). words_hit ws e l) w
        ∙ model_law b.rise b.fall b.neither e l),
    λ alike. let (x, y, z) = apart.alike_same a b p q alike in cc,
  )

  -- edges that hit alike are one and the same, so any two that differ are told apart [D3.12]
  pub alike_same : HitAlike (hit a) (hit b) → a ≡ b
  unfolding made
  alike_same alike = let (x, y, z) = apart.alike_same a b p q alike in same₃ made x y z

  -- the samples that are shown tell the two apart; none are shown where none do [D3.6, N6]
  pub telling_says : Says (hit a) (hit b) (edge_telling a b)
  telling_says = apart.telling_says a b p q

-- from bytes and to bytes are inverse
pub bytes_inverse : (d : List ℕ) → Bytes d → length d ≡ size → to_bytes (from_bytes d) ≡ d
unfolding field_bytes
bytes_inverse d h l = fields_written 3 0 d h l

pub description_inverse : (e : Edge) → Accepted e → from_bytes (to_bytes e) ≡ e
unfolding made
description_inverse e a =
    let read = fields_read (e.rise ∷ e.fall ∷ e.neither ∷ []) (fit₃ e.rise e.fall e.neither a.rise_fits a.fall_fits a.neither_fits) in
    same₃ made (read 0 (lit< tt)) (read 1 (lit< tt)) (read 2 (lit< tt))
