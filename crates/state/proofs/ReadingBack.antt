-- Reading back: every word of 32 bits is that of one accepted state, and is read as it. Assumes nothing.
use Prim.Native.Nat.{ℕ, ◌+◌, ◌*◌, ◌/◌, ◌%◌, ◌^◌, ◌≤◌, ◌<◌}
use mathlib.Core.Path.{◌≡◌, refl, sym, ap, ◌∙◌}
use mathlib.Core.Bool.{Bool, true, false, cond, true≢false}
use mathlib.Core.List.{List, [], ◌∷◌}
use Rattle.std.proofs.Common.{Option, Some, None}
use native.Mathlib.Omega.{arith}
use borrow.Author.Tests.{lt-ltb, le-leb, leb-true, eqb-true, ltb-true}
use lib.Dec.{eqb, ltb, leb}
use lib.ListN.{length, get_or}
use Rattle.lines.proofs.Truth.{both_true}
use Rattle.lut.specs.Back.{ReadNumbered}
use Rattle.lut.proofs.Numbers.{numbered_read, numbered_refused}
use Rattle.compare.specs.Within.{all_within}
use Rattle.state.specs.declared.State.{State}
use Rattle.state.specs.Fields.{Accepted}
use Rattle.state.specs.Words.{bits_of, word_of, words_of}
use Rattle.state.specs.Back.{WrittenBy, ReadMeans, state_of, known, read_state, read_number, read_place}
use Rattle.state.proofs.Bits.{bits_lt, bits_length, bits_within, flags_read, flags_written}

-- ---- what an accepted state is, field by field

module _ (s : State) (a : Accepted s) where
  pub number_fits : s.number ≤ 0xFFFFF
  number_fits = leb-true _ _ (both_true (leb s.number 0xFFFFF) _ a.fit).0

  pub branch_fits : s.branch ≤ 15
  branch_fits = leb-true _ _ (both_true (leb s.branch 15) _ (both_true (leb s.number 0xFFFFF) _ a.fit).1).0

  pub flags_fit : all_within 0 1 s.flags ≡ true
  flags_fit = (both_true (leb s.branch 15) _ (both_true (leb s.number 0xFFFFF) _ a.fit).1).1

-- ---- the fields in a word

pub word_lt : (s : State) → word_of s < 2 ^ 32
unfolding word_of
word_lt s = omega (arith, bits_lt s.flags)

pub parts : (n b f w : ℕ) → n < 0x100000 → b < 16 → w ≡ n + b * 0x100000 + f * 0x1000000
    → (w % 0x100000 ≡ n) × ((w / 0x100000 % 16 ≡ b) × (w / 0x1000000 ≡ f))
parts n b f w hn hb e = (omega arith, (omega arith, omega arith))

-- the flags' part of a word
pub flags_part : (s : State) → word_of s / 0x1000000 ≡ bits_of s.flags
unfolding word_of
flags_part s = (parts (s.number % 0x100000) (s.branch % 16) (bits_of s.flags) (word_of s) (omega arith) (omega arith) refl).1.1

-- an accepted state's word is read as its fields
pub state_read : (s : State) → Accepted s → state_of (word_of s) ≡ s
unfolding state_of word_of
state_read s a =
    let hn = number_fits s a in
    let hb = branch_fits s a in
    let n : s.number % 0x100000 ≡ s.number = omega arith in
    let b : s.branch % 16 ≡ s.branch = omega arith in
    let p = parts (s.number % 0x100000) (s.branch % 16) (bits_of s.flags) (word_of s) (omega arith) (omega arith) refl in
    let f = flags_read (word_of s) s.flags p.1.1 a.eight (flags_fit s a) in
    λ i. record { number = (p.0 ∙ n) i; branch = (p.1.0 ∙ b) i; flags = f i }

-- every word of 32 bits is written by the state that is read of it
pub word_written : (w : ℕ) → w < 2 ^ 32 → word_of (state_of w) ≡ w
unfolding state_of word_of
word_written w h = let f = flags_written w h in rw f (omega arith)

-- which is accepted
pub read_accepted : (w : ℕ) → Accepted (state_of w)
unfolding state_of
read_accepted w =
    record {
      fit = rw (le-leb (w % 0x100000) 0xFFFFF (omega arith), le-leb (w / 0x100000 % 16) 15 (omega arith), bits_within 8 24 w);
      eight = bits_length 8 24 w;
    }

-- ---- what the answer says is so

one_word : (ws : List ℕ) → length ws ≡ 1 → ws ≡ get_or ws 0 0 ∷ []
one_word [] l = absurd (omega arith)
one_word (w ∷ []) l = refl
one_word (w ∷ v ∷ ws) l = absurd (omega arith)

known_written : (ws : List ℕ) (s : State) → WrittenBy ws s → known ws ≡ true
known_written ws s w = ap known w.written ∙ lt-ltb (word_of s) (2 ^ 32) (word_lt s)

pub read_written : (s : State) → Accepted s → read_state (words_of s) ≡ Some s
read_written s a =
    rw (known_written (words_of s) s (record { accepted = a; written = refl })) (ap (λ (t : State). Some t) (state_read s a))

pub read_means : (ws : List ℕ) → ReadMeans ws (read_state ws)
read_means ws = go (known ws) refl
  where
    go : (b : Bool) → known ws ≡ b → ReadMeans ws (cond b (Some (state_of (get_or ws 0 0))) None)
    go true e =
        let g = both_true (eqb (length ws) 1) (ltb (get_or ws 0 0) (2 ^ 32)) e in
        record {
          accepted = read_accepted (get_or ws 0 0);
          written =
              one_word ws (eqb-true (length ws) 1 g.0)
              ∙ ap (λ (w : ℕ). w ∷ []) (sym (word_written (get_or ws 0 0) (ltb-true (get_or ws 0 0) (2 ^ 32) g.1)));
        }
    go false e = λ s w. true≢false (sym (known_written ws s w) ∙ e)

-- and an answer that says so has these numbers
pub read_numbered : (ws : List ℕ) (r : Option State) → ReadMeans ws r → ReadNumbered Accepted words_of ws (read_number r) (read_place r)
read_numbered ws (Some s) says = numbered_read Accepted words_of ws (s, (says.accepted, says.written))
read_numbered ws None none = numbered_refused Accepted words_of ws (λ x. none x.0 (record { accepted = x.1.0; written = x.1.1 }))

-- as the code meets it
pub read_meets : (ws : List ℕ) (r : Option State) → r ≡ read_state ws
    → record { value : r ≡ read_state ws; meaning : ReadMeans ws r; read_numbered : ReadNumbered Accepted words_of ws (read_number r) (read_place r) }
read_meets ws r e =
    let says : ReadMeans ws r = rw e (read_means ws) in record { value = e; meaning = says; read_numbered = read_numbered ws r says }
