-- What is promised of patterns. Assumes nothing.
use Rattle.std.proofs.Common.{◌≡◌, refl, ap, ap₂, true, List, [], ◌∷◌, ◌↔◌, ℕ, ◌^◌, lit<, length, bit_and, Option, Some, None}
use native.Mathlib.Nat.{zero-div}
use Rattle.lines.specs.Line.{line}
use Rattle.lines.proofs.Over.{every_all}
use Rattle.peek.specs.Bytes.{Bytes}
use Rattle.peek.specs.Fields.{field_bytes}
use Rattle.peek.proofs.FieldLaws.{fields_read, fields_written, fit₂}
use Rattle.term.specs.Description.{size, from_bytes, to_bytes}
use Rattle.lut.specs.Answer.{hit_or_miss}
use Rattle.lut.specs.Back.{Written}
use Rattle.lut.specs.Telling.{HitAlike, Says, Least}
use Rattle.lut.specs.declared.Input.TheVariants.{Sample}
use Rattle.lut.proofs.Asked.{alike_on_samples}
use Rattle.lut.proofs.Runs.{run_needed}
use Rattle.term.specs.Rule.{line_hit, term_hit, hit, Accepted}
use Rattle.term.specs.Words.{words_of}
use Rattle.term.specs.Model.{chain_hit, run_term}
use Rattle.term.specs.Back.{read_term, read_number}
use Rattle.term.specs.Telling.{term_telling}
use Rattle.term.specs.declared.Pattern.{Pattern}
use Rattle.term.proofs.Hits.{term_words_length, term_hits}
use Rattle.term.proofs.ReadingBack.{read_words, read_means, read_numbered}
use Rattle.term.proofs.SamePattern.{words_alike, alike_words, telling_law}

-- over a pattern's words the model hits exactly when the plain rule does [D2.2]
pub run_hits : (p : Pattern) (sample : ℕ) → run_term (words_of p) sample ≡ hit_or_miss (hit p (Sample sample))
run_hits p s =
    run_needed 4 (words_of p) (chain_hit (words_of p) s) (term_hit p.target p.mask s) (term_words_length p.target p.mask)
    (term_hits p.target p.mask s)

-- with mask 0 every sample is hit [P1]
pub mask_zero_hits : (target sample : ℕ) → term_hit target 0 sample ≡ true
unfolding term_hit
mask_zero_hits t s =
    every_all 32 (λ i. line_hit (line t i) (line 0 i) (line s i)) (λ i h. rw (zero-div (2 ^ i)))

-- a pattern's words are read as the pattern, its target cut to its mask [C5, C7, D2.5]
pub words_read_back : (p : Pattern) → Accepted p → read_term (words_of p) ≡ Some (record { target = bit_and p.target p.mask; mask = p.mask })
words_read_back p a = read_words p.target p.mask a.target_fits a.mask_fits

-- words are refused unless an accepted pattern writes them [C5, F16, D2.6]
pub accepted_iff_written : (words : List ℕ) → (read_term words ≡ None → ⊥) ↔ Written Accepted words_of words
accepted_iff_written ws =
    let numbered = read_numbered ws (read_term ws) (read_means ws) in
    (λ n. numbered.read.0 (unrefused (read_term ws) n), λ w e. numbered.refused.0 (ap read_number e) w)
  where
    unrefused : (r : Option Pattern) → (r ≡ None → ⊥) → read_number r ≡ 0
    unrefused (Some p) n = refl
    unrefused None n = absurd (n refl)

module _ (a b : Pattern) (p : Accepted a) (q : Accepted b) where
  -- two patterns have the same chain words exactly when no sample tells them apart [D3.1]
  pub equal_words_iff_alike : (words_of a ≡ words_of b) ↔ HitAlike (hit a) (hit b)
  equal_words_iff_alike = (
    λ e. alike_on_samples _ _ (λ s h. words_alike _ _ _ _ p.target_fits p.mask_fits q.target_fits q.mask_fits e s),
    alike_words _ _ _ _ p.target_fits p.mask_fits q.target_fits q.mask_fits,
  )

  -- the sample that is shown tells the two apart; none is shown where none does [D3.6, N6]
  pub telling_says : Says (hit a) (hit b) (term_telling a.target a.mask b.target b.mask)
  telling_says = (telling_law _ _ _ _ p.target_fits p.mask_fits q.target_fits q.mask_fits).0

  -- and no lesser sample does [D3.7, N9]
  pub telling_least : Least (hit a) (hit b) (term_telling a.target a.mask b.target b.mask)
  telling_least = (telling_law _ _ _ _ p.target_fits p.mask_fits q.target_fits q.mask_fits).1

-- from bytes and to bytes are inverse
pub bytes_inverse : (d : List ℕ) → Bytes d → length d ≡ size → to_bytes (from_bytes d) ≡ d
unfolding field_bytes
bytes_inverse d h l = fields_written 2 0 d h l

made : (target mask : ℕ) → Pattern
made target mask = record { target = target; mask = mask }

pub description_inverse : (p : Pattern) → Accepted p → from_bytes (to_bytes p) ≡ p
unfolding made
description_inverse p a =
    let read = fields_read (p.target ∷ p.mask ∷ []) (fit₂ p.target p.mask a.target_fits a.mask_fits) in
    ap₂ made (read 0 (lit< tt)) (read 1 (lit< tt))
