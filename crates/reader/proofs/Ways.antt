-- The way there and back of a section's descriptions, over the chains that the compiler sends. Assumes nothing.
use Prim.Native.Nat.{ℕ, ◌<◌}
use mathlib.Core.Path.{◌≡◌, ap, ◌∙◌}
use mathlib.Core.List.{List, flatten}
use lib.ListN.{length}
use Rattle.peek.specs.Bytes.{Bytes}
use Rattle.records.specs.Sections.{sections, description_size, description_fault}
use Rattle.kinds.proofs.Rows.{size_positive}
use Rattle.kinds.proofs.Ways as ways
use Rattle.compiler.specs.Items.{chains_of}
use Rattle.reader.specs.Judging.{description_read}
use Rattle.reader.specs.Relabelled.{cut_description}

-- d is a description of section k without fault, and its words are ws
pub record Described (k : ℕ) (ws d : List ℕ) : Type 0 where
  pub are_bytes : Bytes d
  pub whole : length d ≡ description_size k
  pub faultless : description_fault k d ≡ 0
  pub written : flatten (chains_of k d) ≡ ws

pub record Way (k : ℕ) : Type 0 where
  -- descriptions have some bytes, also when they are cut
  pub some : 0 < description_size k
  pub cut_whole : (d : List ℕ) → length d ≡ description_size k → length (cut_description k d) ≡ description_size k
  -- there and back
  pub back : (d : List ℕ) → Bytes d → length d ≡ description_size k → description_fault k d ≡ 0
      → description_read k (flatten (chains_of k d)) ≡ cut_description k d
  -- what is read is what was written
  pub exactly : (ws : List ℕ) → 0 < length (description_read k ws) → Described k ws (description_read k ws)

pub way : (k : ℕ) → k < sections → Way k
way k h =
    record {
      some = size_positive k h;
      cut_whole = ways.cut_whole k h;
      back = λ d b l f. ap (description_read k) (ways.chains_flat k d) ∙ ways.back k h d b l f;
      exactly = λ ws p.
          let w = ways.exactly k h ws p in
          record { are_bytes = w.are_bytes; whole = w.whole; faultless = w.faultless; written = ways.chains_flat k (description_read k ws) ∙ w.written };
    }
