-- What is promised of ranges. What cannot matter in a range and what tells two apart is in range_telling. Assumes
-- nothing.
use Rattle.std.proofs.Common.{◌≡◌, ℕ, ◌↔◌, Option, Some, None, List, [], ◌∷◌, length, sym, refl, ap, ◌∙◌, arith, lit<}
use Rattle.peek.specs.Bytes.{Bytes}
use Rattle.peek.specs.Fields.{field_bytes}
use Rattle.peek.proofs.FieldLaws.{fields_read, fields_written, fit₃, same₃}
use Rattle.range.specs.Description.{size, from_bytes, to_bytes}
use Rattle.range.proofs.Carry.{upper_fits}
use Rattle.lut.specs.Answer.{hit_or_miss}
use Rattle.lut.specs.Back.{Written}
use Rattle.lut.specs.Telling.{HitAlike}
use Rattle.lut.specs.declared.Input.TheVariants.{Sample}
use Rattle.lut.proofs.Asked.{alike_on_samples}
use Rattle.lut.proofs.Runs.{run_needed}
use Rattle.range.specs.declared.Range.{Range}
use Rattle.range.specs.Rule.{hit_of, hit, Accepted}
use Rattle.range.specs.Words.{words_of}
use Rattle.range.specs.Model.{model_hit, run_range}
use Rattle.range.specs.Back.{read_range, read_number}
use Rattle.range.proofs.Tables.{length_sent}
use Rattle.range.proofs.Carry.{model_hits}
use Rattle.range.proofs.Decode.{read_back_law, read_means, read_numbered}

-- over an accepted range's words the model hits exactly when the plain rule does [D2.3]
pub run_hits : (r : Range) → Accepted r → (sample : ℕ) → run_range (words_of r) sample ≡ hit_or_miss (hit r (Sample sample))
run_hits r a sample =
    run_needed 32 (words_of r) _ _ (length_sent r.lower r.upper r.mask) (model_hits r.lower r.upper r.mask a sample)

-- an accepted range's words are read as that range [C5, D2.5]
pub words_read_back : (r : Range) → Accepted r → read_range (words_of r) ≡ Some r
words_read_back r = read_back_law r.lower r.upper r.mask

-- words are refused unless an accepted range writes them [C5, F16, D2.6]
pub accepted_iff_written : (words : List ℕ) → (read_range words ≡ None → ⊥) ↔ Written Accepted words_of words
accepted_iff_written ws =
    let numbered = read_numbered ws (read_range ws) (read_means ws) in
    (λ n. numbered.read.0 (unrefused (read_range ws) n), λ w e. numbered.refused.0 (ap read_number e) w)
  where
    unrefused : (r : Option Range) → (r ≡ None → ⊥) → read_number r ≡ 0
    unrefused (Some r) n = refl
    unrefused None n = absurd (n refl)

-- no sample tells two accepted ranges apart that have the same chain words [D3.3]
pub equal_words_alike : (a b : Range) → Accepted a → Accepted b → words_of a ≡ words_of b → HitAlike (hit a) (hit b)
equal_words_alike a b aa ab e =
    alike_on_samples (hit_of a) (hit_of b)
    (λ sample h.
    sym (model_hits a.lower a.upper a.mask aa sample) ∙ ap (λ (ws : List ℕ). model_hit ws sample) e
    ∙ model_hits b.lower b.upper b.mask ab sample)

-- from bytes and to bytes are inverse
pub bytes_inverse : (d : List ℕ) → Bytes d → length d ≡ size → to_bytes (from_bytes d) ≡ d
unfolding field_bytes
bytes_inverse d h l = fields_written 3 0 d h l

made : (lower upper mask : ℕ) → Range
made lower upper mask = record { lower = lower; upper = upper; mask = mask }

pub description_inverse : (r : Range) → Accepted r → from_bytes (to_bytes r) ≡ r
unfolding made
description_inverse r a =
    let u = upper_fits r.lower r.upper r.mask a in
    let read = fields_read (r.lower ∷ r.upper ∷ r.mask ∷ []) (fit₃ r.lower r.upper r.mask (omega (arith, a.ordered)) u a.fits) in
    same₃ made (read 0 (lit< tt)) (read 1 (lit< tt)) (read 2 (lit< tt))
