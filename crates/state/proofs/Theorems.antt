-- What is promised of states. Assumes nothing.
use Prim.Native.Nat.{ℕ, ◌+◌, ◌/◌, ◌%◌, ◌^◌, ◌<◌}
use mathlib.Core.Path.{◌≡◌, refl, sym, ap, ◌∙◌}
use mathlib.Core.List.{List, [], ◌∷◌, ◌++◌}
use mathlib.Core.Logic.{◌↔◌}
use Rattle.std.proofs.Common.{Option, Some, None}
use native.Mathlib.Omega.{arith}
use borrow.Author.Tests.{lt-ltb}
use lib.ListN.{length, get_or, take, drop, length-drop, take-append-drop}
use lib.Seq.{take_all}
use Rattle.lines.specs.Line.{line}
use Rattle.lut.specs.Back.{Written}
use Rattle.peek.specs.Bytes.{Bytes, bytes_from}
use Rattle.peek.proofs.FieldLaws.{bytes_taken}
use Rattle.peek.proofs.Numbers.{u32_read, u32_written}
use Rattle.state.specs.declared.State.{State}
use Rattle.state.specs.Fields.{Accepted}
use Rattle.state.specs.Words.{word_of, words_of}
use Rattle.state.specs.Back.{read_state, read_number, state_of}
use Rattle.state.specs.Description.{size, from_bytes, to_bytes}
use Rattle.state.proofs.Bits.{bit_is_flag, eight_flags, upper_bit}
use Rattle.state.proofs.ReadingBack as back

-- an accepted state's word is read as its fields [C5, D2.5]
pub words_read_back : (s : State) → Accepted s → read_state (words_of s) ≡ Some s
words_read_back = back.read_written

-- words are refused unless an accepted state writes them [C5, F16, D2.6]
pub accepted_iff_written : (words : List ℕ) → (read_state words ≡ None → ⊥) ↔ Written Accepted words_of words
accepted_iff_written ws =
    let numbered = back.read_numbered ws (read_state ws) (back.read_means ws) in
    (λ n. numbered.read.0 (unrefused (read_state ws) n), λ w e. numbered.refused.0 (ap read_number e) w)
  where
    unrefused : (r : Option State) → (r ≡ None → ⊥) → read_number r ≡ 0
    unrefused (Some s) n = refl
    unrefused None n = absurd (n refl)

-- every word of 32 bits is some accepted state's, so a word is never refused [C6, W19]
pub every_word_is_some_states : (w : ℕ) → w < 2 ^ 32 → Written Accepted words_of (w ∷ [])
every_word_is_some_states w h = (state_of w, (back.read_accepted w, ap (λ (x : ℕ). x ∷ []) (sym (back.word_written w h))))

pub word_never_refused : (w : ℕ) → w < 2 ^ 32 → read_number (read_state (w ∷ [])) ≡ 0
word_never_refused w h = rw (lt-ltb w (2 ^ 32) h)

-- two accepted states have the same words exactly when all their fields are the same [D3.10]
pub equal_words_iff_same : (s t : State) → Accepted s → Accepted t → (words_of s ≡ words_of t) ↔ (s ≡ t)
equal_words_iff_same s t a b = (
  λ e. sym (back.state_read s a) ∙ ap (λ (ws : List ℕ). state_of (get_or ws 0 0)) e ∙ back.state_read t b,
  λ e. ap words_of e,
)

-- each field stands at its bits [S15, W19]
module _ (s : State) (a : Accepted s) where
  pub number_bits : word_of s % 0x100000 ≡ s.number
  unfolding state_of
  number_bits = ap (λ (t : State). t.number) (back.state_read s a)

  pub branch_bits : word_of s / 0x100000 % 16 ≡ s.branch
  unfolding state_of
  branch_bits = ap (λ (t : State). t.branch) (back.state_read s a)

  pub flag_bit : (i : ℕ) → i < 8 → line (word_of s) (24 + i) ≡ get_or s.flags i 0
  flag_bit i h = upper_bit (word_of s) i ∙ ap (λ (x : ℕ). line x i) (back.flags_part s) ∙ bit_is_flag s.flags (back.flags_fit s a) i h

-- from bytes and to bytes are inverse
pub bytes_inverse : (d : List ℕ) → Bytes d → length d ≡ size → to_bytes (from_bytes d) ≡ d
bytes_inverse d h l =
    ap (λ (front : List ℕ). front ++ bytes_from 9 4 d) (u32_written d h (omega arith))
    ∙ ap (λ (rest : List ℕ). take 4 d ++ rest) (bytes_taken 9 4 d (omega arith) ∙ take_all 9 (drop 4 d) (omega (arith, length-drop 4 d)))
    ∙ take-append-drop 4 d

pub description_inverse : (s : State) → Accepted s → from_bytes (to_bytes s) ≡ s
description_inverse s a =
    let n = u32_read s.number (s.branch ∷ s.flags) (omega (arith, back.number_fits s a)) in
    λ i. record { number = n i; branch = s.branch; flags = eight_flags s.flags a.eight i }
