-- The way there and back of a pattern's description: its words are read as it is, the target cut, and what is read has no fault and
-- writes the words. Assumes nothing.
use Rattle.std.proofs.Common.{ℕ, ◌<◌, ◌^◌, ◌≡◌, refl, sym, ap, ap₂, ◌∙◌, List, [], ◌∷◌, ◌↔◌, not-suc-le-zero, lit<, length, get_or, Option, Some, None}
use Rattle.peek.specs.Bytes.{Bytes}
use Rattle.peek.specs.Fields.{field_of, field_bytes, Writes}
use Rattle.peek.proofs.Numbers.{u32_small}
use Rattle.peek.proofs.FieldLaws.{fields_bytes, fields_read, fit₂}
use Rattle.term.specs.declared.Pattern.{Pattern}
use Rattle.term.specs.Rule.{Accepted}
use Rattle.term.specs.Words.{term_words}
use Rattle.term.specs.Back.{read_term, ReadMeans}
use Rattle.term.specs.Description.{size, from_bytes, fault, words, bytes_read, back, cut}
use Rattle.term.proofs.Hits.{term_words_length, term_words_fit}
use Rattle.term.proofs.ReadingBack.{read_means}
use Rattle.term.proofs.Theorems.{words_read_back}

pub words_count : (d : List ℕ) → length (words d) ≡ 4
unfolding words
words_count d = term_words_length (field_of d 0) (field_of d 1)

pub cut_whole : (d : List ℕ) → length d ≡ size → length (cut d) ≡ size
unfolding cut field_bytes
cut_whole d l = refl

-- a description of bytes is a pattern of 32 lines
pub accepted : (d : List ℕ) → Bytes d → fault d ≡ 0 → Accepted (from_bytes d)
accepted d h f = record { target_fits = u32_small d 0 h; mask_fits = u32_small d 4 h }

pub faultless_iff : (d : List ℕ) → Bytes d → length d ≡ size → (fault d ≡ 0) ↔ Accepted (from_bytes d)
unfolding fault
faultless_iff d h l = (accepted d h, (λ a. refl))

pub back_words : (d : List ℕ) → Bytes d → length d ≡ size → fault d ≡ 0 → back (words d) ≡ cut d
unfolding back words cut
back_words d h l f = ap bytes_read (words_read_back (from_bytes d) (accepted d h f))

read_writes : (ws : List ℕ) (r : Option Pattern) → ReadMeans ws r → 0 < length (bytes_read r) → Writes size fault words ws (bytes_read r)
unfolding fault words field_bytes
read_writes ws (Some p) w h =
    let read = fields_read (p.target ∷ p.mask ∷ []) (fit₂ p.target p.mask w.target_fits w.mask_fits) in
    record {
      are_bytes = fields_bytes (p.target ∷ p.mask ∷ []);
      whole = refl;
      faultless = refl;
      written = ap₂ term_words (read 0 (lit< tt)) (read 1 (lit< tt)) ∙ sym w.written;
    }
read_writes ws None w h = absurd (not-suc-le-zero h)

pub back_writes : (ws : List ℕ) → 0 < length (back ws) → Writes size fault words ws (back ws)
unfolding back
back_writes ws h = read_writes ws (read_term ws) (read_means ws) h

pub words_fit : (d : List ℕ) (i : ℕ) → get_or (words d) i 0 < 2 ^ 32
unfolding words
words_fit d = term_words_fit (field_of d 0) (field_of d 1)
