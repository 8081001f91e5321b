-- The way there and back of a range's description: its words are read as it is, and what is read has no fault and writes the words.
-- Assumes nothing.
use Rattle.std.proofs.Common.{◌≡◌, ℕ, ◌^◌, ◌<◌, ◌↔◌, Option, Some, None, List, [], ◌∷◌, length, get_or, sym, refl, ap, ◌∙◌, not-suc-le-zero, lit<}
use Rattle.peek.specs.Bytes.{Bytes}
use Rattle.peek.specs.Fields.{field_of, field_bytes, Writes}
use Rattle.peek.proofs.Numbers.{u32_small}
use Rattle.peek.proofs.FieldLaws.{fields_bytes, fields_read, fit₃, same₃}
use Rattle.range.specs.declared.Range.{Range}
use Rattle.range.specs.Rule.{range_fault, Accepted}
use Rattle.range.specs.Words.{sent_words}
use Rattle.range.specs.Back.{read_range, ReadMeans}
use Rattle.range.specs.Description.{size, from_bytes, fault, words, bytes_read, back}
use Rattle.range.proofs.Faults.{fault_0}
use Rattle.range.proofs.Tables.{length_sent, sent_fits}
use Rattle.range.proofs.Decode.{read_means, accepted_fits}
use Rattle.range.proofs.Theorems.{words_read_back, bytes_inverse}

pub words_count : (d : List ℕ) → length (words d) ≡ 32
unfolding words
words_count d = length_sent (field_of d 0) (field_of d 1) (field_of d 2)

pub accepted : (d : List ℕ) → Bytes d → fault d ≡ 0 → Accepted (from_bytes d)
unfolding fault
accepted d h f = (fault_0 (field_of d 0) (field_of d 1) (field_of d 2) (u32_small d 8 h)).0 f

pub faultless_iff : (d : List ℕ) → Bytes d → length d ≡ size → (fault d ≡ 0) ↔ Accepted (from_bytes d)
unfolding fault
faultless_iff d h l = fault_0 (field_of d 0) (field_of d 1) (field_of d 2) (u32_small d 8 h)

pub back_words : (d : List ℕ) → Bytes d → length d ≡ size → fault d ≡ 0 → back (words d) ≡ d
unfolding back words field_bytes
back_words d h l f =
    ap bytes_read (words_read_back (from_bytes d) (accepted d h f)) ∙ bytes_inverse d h l

read_writes : (ws : List ℕ) (r : Option Range) → ReadMeans ws r → 0 < length (bytes_read r) → Writes size fault words ws (bytes_read r)
unfolding fault words field_bytes
read_writes ws (Some r) says h =
    let fits = accepted_fits r says.0 in
    let read = fields_read (r.lower ∷ r.upper ∷ r.mask ∷ []) (fit₃ r.lower r.upper r.mask fits.0 fits.1 fits.2) in
    let fl = read 0 (lit< tt) in
    let fu = read 1 (lit< tt) in
    let fm = read 2 (lit< tt) in
    record {
      are_bytes = fields_bytes (r.lower ∷ r.upper ∷ r.mask ∷ []);
      whole = refl;
      faultless = same₃ range_fault fl fu fm ∙ (fault_0 r.lower r.upper r.mask fits.2).1 says.0;
      written = same₃ sent_words fl fu fm ∙ sym says.1;
    }
read_writes ws None says h = absurd (not-suc-le-zero h)

pub back_writes : (ws : List ℕ) → 0 < length (back ws) → Writes size fault words ws (back ws)
unfolding back
back_writes ws h = read_writes ws (read_range ws) (read_means ws) h

pub words_fit : (d : List ℕ) (i : ℕ) → get_or (words d) i 0 < 2 ^ 32
unfolding words
words_fit d = sent_fits (field_of d 0) (field_of d 1) (field_of d 2)
