-- The way there and back of a state's description: its word is read as it is, and what is read has no fault and writes the
-- word. Assumes nothing.
use Prim.Native.Nat.{ℕ, zero, suc, ◌<◌, ◌^◌}
use mathlib.Core.Path.{◌≡◌, refl, sym, ap, ◌∙◌}
use mathlib.Core.Bool.{true}
use mathlib.Core.List.{List, [], ◌∷◌}
use mathlib.Core.Logic.{◌↔◌}
use Rattle.std.proofs.Common.{Option, Some, None}
use native.Mathlib.Nat.{not-suc-le-zero}
use native.Mathlib.Omega.{arith}
use lib.Dec.{lit<}
use lib.ListN.{length, get_or}
use Rattle.peek.specs.Bytes.{Bytes, u32_bytes}
use Rattle.peek.specs.Fields.{Writes}
use Rattle.peek.proofs.Numbers.{bytes_cons, bytes_append, bytes_u32}
use Rattle.buffer.proofs.Faults.{unless_none}
use Rattle.compare.proofs.Within.{within_bytes}
use Rattle.state.specs.declared.State.{State}
use Rattle.state.specs.Fields.{fits, Accepted}
use Rattle.state.specs.Words.{word_of, words_of}
use Rattle.state.specs.Back.{read_state, ReadMeans}
use Rattle.state.specs.Description.{size, from_bytes, to_bytes, fault, words, bytes_read, back}
use Rattle.state.proofs.ReadingBack.{read_means, word_lt, branch_fits, flags_fit}
use Rattle.state.proofs.Theorems.{words_read_back, equal_words_iff_same, bytes_inverse, description_inverse}

pub words_count : (d : List ℕ) → length (words d) ≡ 1
unfolding words
words_count d = refl

pub fault_none : (d : List ℕ) → fits (from_bytes d) ≡ true → fault d ≡ 0
unfolding fault
fault_none d e = rw e

pub accepted : (d : List ℕ) → fault d ≡ 0 → Accepted (from_bytes d)
unfolding fault
accepted d f = record { fit = unless_none (fits (from_bytes d)) 18 (λ z. omega arith) f; eight = refl }

pub faultless_iff : (d : List ℕ) → Bytes d → length d ≡ size → (fault d ≡ 0) ↔ Accepted (from_bytes d)
faultless_iff d h l = (accepted d, (λ a. fault_none d a.fit))

pub back_words : (d : List ℕ) → Bytes d → length d ≡ size → fault d ≡ 0 → back (words d) ≡ d
unfolding back words
back_words d h l f = ap bytes_read (words_read_back (from_bytes d) (accepted d f)) ∙ bytes_inverse d h l

-- the bytes of an accepted state
module _ (s : State) (a : Accepted s) where
  state_bytes : Bytes (to_bytes s)
  state_bytes =
      bytes_append (u32_bytes s.number) (s.branch ∷ s.flags) (bytes_u32 s.number)
      (bytes_cons s.branch s.flags (omega (arith, branch_fits s a)) (within_bytes 0 1 s.flags (lit< tt) (flags_fit s a)))

  state_whole : length (to_bytes s) ≡ size
  state_whole = omega (arith, a.eight)

  state_faultless : fault (to_bytes s) ≡ 0
  state_faultless = fault_none (to_bytes s) (ap fits (description_inverse s a) ∙ a.fit)

  state_words : words (to_bytes s) ≡ words_of s
  unfolding words
  state_words = ap words_of (description_inverse s a)

read_writes : (ws : List ℕ) (r : Option State) → ReadMeans ws r → 0 < length (bytes_read r) → Writes size fault words ws (bytes_read r)
read_writes ws (Some s) w h =
    let a = w.accepted in
    record { are_bytes = state_bytes s a; whole = state_whole s a; faultless = state_faultless s a; written = state_words s a ∙ sym w.written }
read_writes ws None w h = absurd (not-suc-le-zero h)

pub back_writes : (ws : List ℕ) → 0 < length (back ws) → Writes size fault words ws (back ws)
unfolding back
back_writes ws h = read_writes ws (read_state ws) (read_means ws) h

pub words_fit : (d : List ℕ) (i : ℕ) → get_or (words d) i 0 < 2 ^ 32
unfolding words
words_fit d zero = word_lt (from_bytes d)
words_fit d (suc i) = lit< tt

-- descriptions that differ have other words [D3.10]
pub words_differ : (d e : List ℕ) → Bytes d → Bytes e → length d ≡ size → length e ≡ size → fault d ≡ 0 → fault e ≡ 0
    → word_of (from_bytes d) ≡ word_of (from_bytes e) → d ≡ e
words_differ d e bd be ld le fd fe q =
    sym (bytes_inverse d bd ld)
    ∙ ap to_bytes ((equal_words_iff_same (from_bytes d) (from_bytes e) (accepted d fd) (accepted e fe)).0 (ap (λ (w : ℕ). w ∷ []) q))
    ∙ bytes_inverse e be le
