-- Commands judged and read in one pass, as lists. Assumes nothing.
use Prim.Native.Nat.{ℕ, suc, ◌+◌, ◌*◌, ◌≤◌, ◌<◌, ◌-◌}
use mathlib.Core.Path.{◌≡◌, sym, ap, ◌∙◌}
use mathlib.Core.List.{List, [], ◌∷◌, ◌++◌, append_assoc}
use native.Mathlib.Decide.{dec_lt}
use native.Mathlib.Nat.{le_refl, sub_self, mul-le-mul_right}
use native.Mathlib.Omega.{arith}
use borrow.Rule.Slice.PartMut.{mid_of, post_of, put_mid}
use lib.Dec.{leb, leb→le, lit≤}
use lib.ListN.{length, take, drop, replicate, length-append, length-drop}
use lib.Seq.{take_all, take_at, drop-drop, length-take-le}
use Rattle.lines.proofs.Computed.{every_below_law}
use Rattle.buffer.specs.declared.Verdict.{Verdict}
use Rattle.buffer.specs.declared.Verdict.TheVariants.{Accepted, Refused}
use Rattle.buffer.proofs.Faults.{no_refusal_law}
use Rattle.command.specs.Reading.{words_in}
use Rattle.command.proofs.Checked.{length_words}
use Rattle.kinds.specs.Table.{sections, kind_of, chain_count, chain_length}
use Rattle.kinds.proofs.Rows.{past}
use Rattle.compiler.specs.Chains.{words_read}
use Rattle.records.proofs.Bounds.{one_more}
use Rattle.reader.specs.Judging.{chains_verdict}
use Rattle.reader.specs.Taking.{Taken}

-- ---- answers

-- a refusal settles what is asked, and says nothing of the words
pub taken_refused : (v : Verdict) (ws into : List ℕ) (n p : ℕ) → Refused n p ≡ v → Taken v ws (Refused n p) into
taken_refused v ws into n p e = record { answer = e; held = λ a. absurd (no_refusal_law n p (e ∙ a)) }

-- all the words of a room that is as long
pub taken_all : (v : Verdict) (ws into : List ℕ) → Accepted ≡ v → into ≡ ws → Taken v ws Accepted into
taken_all v ws into e f = record { answer = e; held = λ a. rw f (take_all (length ws) ws (le_refl (length ws))) }

-- the same verdict, as another question has it
pub taken_as : (v w : Verdict) (ws : List ℕ) (r : Verdict) (into : List ℕ) → v ≡ w → Taken v ws r into → Taken w ws r into
taken_as v w ws r into e t = rw e at t

-- ---- no item has more words than there is room for

total_short : (k : ℕ) → chain_count k * chain_length k ≤ 32
unfolding chain_count chain_length kind_of
total_short k =
    elim (dec_lt k sections) [
      | yes h ↦ leb→le _ _ (every_below_law sections (λ k. leb (chain_count k * chain_length k) 32) tt k h)
      | no h ↦ none k (omega arith)
    ]
  where
    none : (k : ℕ) → sections ≤ k → chain_count k * chain_length k ≤ 32
    none k h = rw (past k h) (lit≤ tt)

pub total_of : (k count each : ℕ) → count ≡ chain_count k → each ≡ chain_length k → count * each ≤ 32
total_of k count each ec ee = rw (ec, ee) (total_short k)

pub chain_room : (k count each i : ℕ) → count ≡ chain_count k → each ≡ chain_length k → i < count → (i + 1) * each ≤ 32
chain_room k count each i ec ee h =
    let more : (i + 1) * each ≤ count * each = mul-le-mul_right each (omega arith) in
    omega (arith, total_of k count each ec ee)

-- ---- the words of so many chains, one after the other

-- what is still to be taken, of `count` chains from number i on
pub words_more : (count each i at : ℕ) (item : List ℕ) → i < count
    → words_read (replicate (count - i) each) (drop at item)
    ≡ words_in each (drop (at + 5) item) ++ words_read (replicate (count - (i + 1)) each) (drop (at + (5 + 5 * each)) item)
unfolding words_read
words_more count each i at item h =
    let e : count - i ≡ suc (count - (i + 1)) = omega arith in
    rw (e, ← drop-drop 5 at item, ← drop-drop (5 + 5 * each) at item)

pub words_over : (count each at : ℕ) (item : List ℕ) → words_read (replicate (count - count) each) (drop at item) ≡ []
unfolding words_read
words_over count each at item = rw (sub_self count)

-- chain i was taken: its words went into the part of the room behind those that were taken before
module _ (count each i : ℕ) (h : i < count) (words ys s : List ℕ) (fits : count * each ≤ length words) (due from : ℕ) (r : Verdict) where
  abbrev size : ℕ
  size = (i + 1) * each - i * each

  module _ (kept : length ys ≡ length (mid_of (i * each) size words))
      (t : Taken (chains_verdict (length (mid_of (i * each) size words) ∷ []) due from (drop from s)) (words_in (length (mid_of (i * each) size words)) (drop (from + 5) s)) r ys) where
    within : i * each + each ≤ length words
    within =
        let more : (i + 1) * each ≤ count * each = mul-le-mul_right each (omega arith) in
        omega (arith, one_more i each)

    part : length (mid_of (i * each) size words) ≡ each
    part =
        let n : size ≡ each = omega (arith, one_more i each) in
        rw n (length-take-le each (drop (i * each) words) (omega (arith, within, length-drop (i * each) words)))

    pub chain_answer : r ≡ chains_verdict (each ∷ []) due from (drop from s)
    chain_answer = rw part at t.answer

    pub chain_words_law : chains_verdict (each ∷ []) due from (drop from s) ≡ Accepted
        → take ((i + 1) * each) (put_mid (i * each) size words ys) ≡ take (i * each) words ++ words_in each (drop (from + 5) s)
    chain_words_law a =
        let vs = words_in each (drop (from + 5) s) in
        let to = i * each in
        let whole : length (take to words ++ ys) ≡ (i + 1) * each =
        length-append (take to words) ys ∙ omega (arith, length-take-le to words (omega (arith, within)), kept, part, one_more i each) in
        let is : ys ≡ vs = sym (take_all (length vs) ys (omega (arith, kept, part, length_words each (drop (from + 5) s)))) ∙ (rw part at t).held a in
        ap (take ((i + 1) * each)) (sym (append_assoc (take to words) ys (post_of to size words)))
        ∙ take_at (take to words ++ ys) (post_of to size words) ((i + 1) * each) whole
        ∙ ap (λ zs. take to words ++ zs) is

-- words that stand at the start are there by their number too
pub taken_front : (to : ℕ) (ws words : List ℕ) → to ≤ length words → take to words ≡ ws → take (length ws) words ≡ ws
taken_front to ws words h e =
    let l : length ws ≡ to = sym (ap length e) ∙ length-take-le to words h in rw l e
