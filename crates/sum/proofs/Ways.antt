-- The way there and back of a sum's description: its words are read as it is, and what is read has no fault and writes the words.
-- Assumes nothing.
use Prim.Native.Nat.{ℕ, ◌<◌, ◌^◌}
use mathlib.Core.Path.{◌≡◌, sym, ap, ◌∙◌}
use mathlib.Core.Bool.{true}
use mathlib.Core.List.{List}
use mathlib.Core.Logic.{◌↔◌}
use Rattle.std.proofs.Common.{Option, Some, None}
use native.Mathlib.Nat.{not-suc-le-zero}
use native.Mathlib.Omega.{arith}
use lib.Dec.{lit<}
use lib.ListN.{length, get_or, replicate}
use lib.Seq.{take_all}
use Rattle.peek.specs.Bytes.{Bytes}
use Rattle.buffer.specs.Room.{fill}
use Rattle.peek.specs.Fields.{Writes}
use Rattle.buffer.proofs.Faults.{unless_none}
use Rattle.compare.proofs.Within.{within_bytes}
use Rattle.buffer.proofs.Writing.{fill_all}
use Rattle.sum.specs.Operation.{codes_accepted, Accepted}
use Rattle.sum.specs.Words.{words_of}
use Rattle.sum.specs.Back.{read_sum, ReadMeans}
use Rattle.sum.specs.Description.{size, from_bytes, fault, words, bytes_read, back}
use Rattle.sum.proofs.ReadingBack.{read_means}
use Rattle.sum.proofs.ReadingBack.{words_length}
use Rattle.sum.proofs.Tables.{words_small}
use Rattle.sum.proofs.Theorems.{words_read_back}

pub words_count : (d : List ℕ) → length (words d) ≡ 6
unfolding words
words_count d = words_length (from_bytes d)

-- the twins from and to bytes are inverse, on eleven bytes
pub from_whole : (d : List ℕ) → length d ≡ size → from_bytes d ≡ d
from_whole d l =
    ap (λ (ops : List ℕ). fill ops (replicate size 0)) (take_all size d (omega arith)) ∙ fill_all d (replicate size 0) (omega arith)

pub fault_none : (d : List ℕ) → codes_accepted d ≡ true → fault d ≡ 0
unfolding fault
fault_none d e = rw e

no_fault : (d : List ℕ) → fault d ≡ 0 → codes_accepted d ≡ true
unfolding fault
no_fault d f = unless_none (codes_accepted d) 10 (λ z. omega arith) f

pub accepted : (d : List ℕ) → Bytes d → length d ≡ size → fault d ≡ 0 → Accepted (from_bytes d)
accepted d h l f = record { eleven = ap length (from_whole d l) ∙ l; codes = ap codes_accepted (from_whole d l) ∙ no_fault d f }

pub faultless_iff : (d : List ℕ) → Bytes d → length d ≡ size → (fault d ≡ 0) ↔ Accepted (from_bytes d)
faultless_iff d h l = (accepted d h l, (λ a. fault_none d (ap codes_accepted (sym (from_whole d l)) ∙ a.codes)))

pub back_words : (d : List ℕ) → Bytes d → length d ≡ size → fault d ≡ 0 → back (words d) ≡ d
unfolding back words
back_words d h l f = ap bytes_read (words_read_back (from_bytes d) (accepted d h l f)) ∙ from_whole d l

read_writes : (ws : List ℕ) (r : Option (List ℕ)) → ReadMeans ws r → 0 < length (bytes_read r) → Writes size fault words ws (bytes_read r)
unfolding words
read_writes ws (Some ops) w h =
    record {
      are_bytes = within_bytes 0 9 ops (lit< tt) w.accepted;
      whole = w.eleven;
      faultless = fault_none ops w.accepted;
      written = ap words_of (from_whole ops w.eleven) ∙ sym w.written;
    }
read_writes ws None w h = absurd (not-suc-le-zero h)

pub back_writes : (ws : List ℕ) → 0 < length (back ws) → Writes size fault words ws (back ws)
unfolding back
back_writes ws h = read_writes ws (read_sum ws) (read_means ws) h

pub words_fit : (d : List ℕ) (i : ℕ) → get_or (words d) i 0 < 2 ^ 32
unfolding words
words_fit d = words_small (from_bytes d)
