-- What is promised of the bench, of what the call answers and of the words that it leaves. Assumes nothing.
use Prim.Native.Nat.{ℕ, ◌+◌, ◌-◌, ◌≤◌}
use mathlib.Core.Path.{◌≡◌, refl, sym, ap, ap₂, ◌∙◌}
use mathlib.Core.Bool.{Bool, true, false, cond}
use mathlib.Core.List.{List, ◌++◌, append-nil}
use native.Mathlib.Omega.{arith}
use Rattle.std.proofs.Common.{Option, None, Some}
use borrow.Author.Tests.{le-ltb}
use lib.Dec.{eqb, ltb, lit<}
use lib.ListN.{length, length-append, get_or, take}
use Rattle.buffer.specs.declared.Verdict.TheVariants.{Accepted}
use Rattle.state.specs.declared.State.{State}
use Rattle.state.specs.Fields as state
use Rattle.state.specs.Words.{word_of}
use Rattle.state.proofs.Theorems as state_theorems
use Rattle.sheet.specs.Reading.{verdict}
use Rattle.bench.specs.declared.Run.{Run}
use Rattle.bench.specs.declared.Benched.{Benched}
use Rattle.bench.specs.declared.Benched.TheVariants.{Done, Refused}
use Rattle.bench.specs.Run.{number_of, else_of, is_last, handed_on, taken, start_accepted, Subsequence}
use Rattle.bench.specs.Call.{most_samples, delivered, answered, machine_of, benched, left_by, benched_left}
use Rattle.bench.specs.Handed.{is_run, run_of, words_of}
use Rattle.bench.proofs.Pieces.{handed_pieces, taken_pieces, ended_hands_on, ended_takes_nothing, taken_subsequence}
use Rattle.bench.proofs.Calling.{in_turn, in_room, ended_delivered}
use Rattle.bench.proofs.Standing.{handed_accepted}
use Rattle.bench.proofs.Succeeding.{accepts, sheet_accepted, bench_did, does, writes}

-- ---- two pieces

-- one call on all samples wrote n words and handed on `final`: a call on the first piece, with room for the k words
-- that it takes, and then one on the second, with room for the rest, do the same. The two may share one room: of `out`,
-- which n words fit, the second call may be lent what the first left behind its k words [D4.2]
pub record InPieces (s xs ys : List ℕ) (r : Run) (out : List ℕ) (n : ℕ) (final : Run) : Type 0 where
  pub k : ℕ
  pub mid : Run
  pub first : (out₁ : List ℕ) → k ≤ length out₁ → benched s xs r (length out₁) ≡ Done k mid
  pub within : k ≤ n
  pub second : (out₂ : List ℕ) → n ≤ k + length out₂ → benched s ys mid (length out₂) ≡ Done (n - k) final
  pub written : (out₁ out₂ : List ℕ) → k ≤ length out₁ → n ≤ k + length out₂
      → take n (benched_left s (xs ++ ys) r out) ≡ take k (benched_left s xs r out₁) ++ take (n - k) (benched_left s ys mid out₂)

-- the samples that are taken of two pieces
both_taken : (s xs ys : List ℕ) (r : Run) → length (taken (machine_of s) r (xs ++ ys))
    ≡ length (taken (machine_of s) r xs) + length (taken (machine_of s) (handed_on (machine_of s) r xs) ys)
both_taken s xs ys r = ap length (taken_pieces (machine_of s) r xs ys) ∙ length-append (taken (machine_of s) r xs) _

-- what one call does on all samples, two do on its pieces, wherever they are cut [D4.2]
pub two_pieces : (s xs ys : List ℕ) (r : Run) (out : List ℕ) (n : ℕ) (final : Run) → benched s (xs ++ ys) r (length out) ≡ Done n final
    → InPieces s xs ys r out n final
two_pieces s xs ys r out n final e =
    let m = machine_of s in
    let d = bench_did s (xs ++ ys) r (length out) n final e in
    let a = sheet_accepted s (xs ++ ys) r (length out) n final e in
    let mid = handed_on m r xs in
    let k = length (taken m r xs) in
    let few : length (xs ++ ys) ≡ length xs + length ys = length-append xs ys in
    let most = d.few in
    let all : n ≡ length (taken m r xs) + length (taken m (handed_on m r xs) ys) = d.count ∙ both_taken s xs ys r in
    let one : (out₁ : List ℕ) → length (taken m r xs) ≤ length out₁ → benched s xs r (length out₁) ≡ Done (length (taken m r xs)) (handed_on m r xs) =
    λ out₁ h. does s xs r (length out₁) a (omega arith) d.start h in
    let two : (out₂ : List ℕ) → n ≤ length (taken m r xs) + length out₂
    → benched s ys (handed_on m r xs) (length out₂) ≡ Done (n - length (taken m r xs)) final =
    λ out₂ f.
    let j : length (taken m (handed_on m r xs) ys) ≡ n - length (taken m r xs) = omega arith in
    does s ys (handed_on m r xs) (length out₂) a (omega arith) (handed_accepted m r xs d.start) (omega arith)
    ∙ ap₂ Done j (sym (d.run ∙ handed_pieces m r xs ys)) in
    record {
      k = k;
      mid = mid;
      first = one;
      within = omega arith;
      second = two;
      written =
          λ out₁ out₂ h f.
          writes s (xs ++ ys) r out n final e ∙ taken_pieces m r xs ys
          ∙ sym (ap₂ (λ (u v : List ℕ). u ++ v) (writes s xs r out₁ k mid (one out₁ h)) (writes s ys mid out₂ (n - k) final (two out₂ f)));
    }

-- and back: two calls, the second on the run that the first handed on, are one on all samples, where these are within
-- the limit and there is room [D4.2]
module _ (s xs ys : List ℕ) (r : Run) (out out₁ out₂ : List ℕ) (k j : ℕ) (mid final : Run)
    (first : benched s xs r (length out₁) ≡ Done k mid) (second : benched s ys mid (length out₂) ≡ Done j final)
    (few : length (xs ++ ys) ≤ most_samples) (fits : k + j ≤ length out) where
  pub one_call : benched s (xs ++ ys) r (length out) ≡ Done (k + j) final
  one_call =
      let m = machine_of s in
      let d = bench_did s xs r (length out₁) k mid first in
      let g = bench_did s ys mid (length out₂) j final second in
      let last : final ≡ handed_on m r (xs ++ ys) = g.run ∙ ap (λ (q : Run). handed_on m q ys) d.run ∙ sym (handed_pieces m r xs ys) in
      let more : j ≡ length (taken m (handed_on m r xs) ys) = g.count ∙ ap (λ (q : Run). length (taken m q ys)) d.run in
      let count = d.count in
      let all : length (taken m r (xs ++ ys)) ≡ k + j = both_taken s xs ys r ∙ omega arith in
      does s (xs ++ ys) r (length out) (sheet_accepted s xs r (length out₁) k mid first) few d.start (omega arith) ∙ ap₂ Done all (sym last)

  pub one_call_writes : take (k + j) (benched_left s (xs ++ ys) r out) ≡ take k (benched_left s xs r out₁) ++ take j (benched_left s ys mid out₂)
  one_call_writes =
      let m = machine_of s in
      let d = bench_did s xs r (length out₁) k mid first in
      writes s (xs ++ ys) r out (k + j) final one_call ∙ taken_pieces m r xs ys
      ∙ sym (ap₂ (λ (u v : List ℕ). u ++ v) (writes s xs r out₁ k mid first)
      (writes s ys mid out₂ j final second ∙ ap (λ (q : Run). taken m q ys) d.run))

-- ---- the run that is handed on

-- no call with the same sheet refuses it with 24 [D4.3]
pub handed_on_accepted : (s xs : List ℕ) (r : Run) (room n : ℕ) (r' : Run) → benched s xs r room ≡ Done n r'
    → (ys : List ℕ) (room' place : ℕ) → benched s ys r' room' ≡ Refused 24 place → ⊥
unfolding benched answered delivered
handed_on_accepted s xs r room n r' e ys room' place f =
    let m = machine_of s in
    let d = bench_did s xs r room n r' e in
    let ok : start_accepted m r' ≡ true = ap (start_accepted m) d.run ∙ handed_accepted m r xs d.start in
    let a = accepts s (answered m ys r' room') (sheet_accepted s xs r room n r' e) in
    never (ltb most_samples (length ys)) (ltb room' (length (taken m r' ys))) (taken m r' ys) (handed_on m r' ys)
    (sym (a ∙ ap (λ (b : Bool). in_turn (ltb most_samples (length ys)) b (delivered m ys r' room')) ok) ∙ f)
  where
    never : (a c : Bool) (t : List ℕ) (q : Run) → in_turn a true (in_room c t q) ≡ Refused 24 place → ⊥
    never true c t q g = let z : ◌≡◌ {A = ℕ} 20 24 = cc in absurd (omega arith)
    never false true t q g = let z : ◌≡◌ {A = ℕ} 12 24 = cc in absurd (omega arith)
    never false false t q g = let z : ◌≡◌ {A = ℕ} 0 1 = cc in absurd (omega arith)

-- of a run that has ended nothing is taken, and it is handed on as it was [D4.4]
pub ended_stays : (s xs : List ℕ) (r : Run) (room n : ℕ) (r' : Run) → benched s xs r room ≡ Done n r' → r.ended ≡ true
    → (n ≡ 0) × (r' ≡ r)
ended_stays s xs r room n r' e h =
    let d = bench_did s xs r room n r' e in (
      d.count ∙ ap length (ended_takes_nothing (machine_of s) r xs h),
      d.run ∙ ended_hands_on (machine_of s) r xs h,
    )

-- a run that ended within the samples takes nothing of those behind: with them the call answers and writes the same
-- [D4.4]
module _ (s xs ys : List ℕ) (r : Run) (out : List ℕ) (n : ℕ) (r' : Run) (e : benched s xs r (length out) ≡ Done n r') (h : r'.ended ≡ true)
    (few : length (xs ++ ys) ≤ most_samples) where
  nothing_more : taken (machine_of s) r (xs ++ ys) ≡ taken (machine_of s) r xs
  nothing_more =
      let m = machine_of s in
      let d = bench_did s xs r (length out) n r' e in
      let over : (handed_on m r xs).ended ≡ true = ap (λ (q : Run). q.ended) (sym d.run) ∙ h in
      taken_pieces m r xs ys ∙ ap (λ (t : List ℕ). taken m r xs ++ t) (ended_takes_nothing m (handed_on m r xs) ys over)
      ∙ append-nil (taken m r xs)

  pub after_the_end : benched s (xs ++ ys) r (length out) ≡ Done n r'
  after_the_end =
      let m = machine_of s in
      let d = bench_did s xs r (length out) n r' e in
      let over : (handed_on m r xs).ended ≡ true = ap (λ (q : Run). q.ended) (sym d.run) ∙ h in
      let same = ap length nothing_more in
      let fits = d.fits in
      does s (xs ++ ys) r (length out) (sheet_accepted s xs r (length out) n r' e) few d.start (omega arith)
      ∙ ap₂ Done (same ∙ sym d.count) (handed_pieces m r xs ys ∙ ended_hands_on m (handed_on m r xs) ys over ∙ sym d.run)

  pub after_the_end_writes : benched_left s (xs ++ ys) r out ≡ benched_left s xs r out
  unfolding benched_left
  after_the_end_writes =
      ap₂ (λ (b : Benched) (t : List ℕ). left_by b t out) (after_the_end ∙ sym e) nothing_more

-- such a run is never refused with 12 [D4.4]
pub ended_never_short : (s xs : List ℕ) (r : Run) → verdict s ≡ Accepted → r.ended ≡ true → (room place : ℕ)
    → benched s xs r room ≡ Refused 12 place → ⊥
unfolding benched answered
ended_never_short s xs r a h room place f =
    let m = machine_of s in
    never (ltb most_samples (length xs)) (start_accepted m r)
    (ap (in_turn (ltb most_samples (length xs)) (start_accepted m r)) (sym (ended_delivered m xs r room h))
    ∙ sym (accepts s (answered m xs r room) a) ∙ f)
  where
    never : (b c : Bool) → in_turn b c (Done 0 r) ≡ Refused 12 place → ⊥
    never true c g = let z : ◌≡◌ {A = ℕ} 20 12 = cc in absurd (omega arith)
    never false false g = let z : ◌≡◌ {A = ℕ} 24 12 = cc in absurd (omega arith)
    never false true g = let z : ◌≡◌ {A = ℕ} 0 1 = cc in absurd (omega arith)

-- ---- what is written

-- the words written are a subsequence of the samples [D4.5]
pub written_of_the_samples : (s xs : List ℕ) (r : Run) (out : List ℕ) (n : ℕ) (r' : Run) → benched s xs r (length out) ≡ Done n r'
    → Subsequence (take n (benched_left s xs r out)) xs
written_of_the_samples s xs r out n r' e = rw (writes s xs r out n r' e) (taken_subsequence (machine_of s) r xs)

-- ---- a run in five words

-- a run's words are read as that run [A13]
pub words_of_a_run : (r : Run) → run_of (words_of r) ≡ r
unfolding run_of is_run
words_of_a_run r = go r.earlier r.ended
  where
    with_these : Option ℕ → Bool → Run
    with_these e b = record { state = r.state; count = r.count; earlier = e; ended = b }

    go : (e : Option ℕ) (b : Bool) → run_of (words_of (with_these e b)) ≡ with_these e b
    go None true = refl
    go None false = refl
    go (Some w) true = refl
    go (Some w) false = refl

-- words that are no run are refused with 24, in its turn [A13, F24, O8]
pub no_run_refused : (s xs ws : List ℕ) (room : ℕ) → verdict s ≡ Accepted → length xs ≤ most_samples → is_run ws ≡ false
    → benched s xs (run_of ws) room ≡ Refused 24 0
unfolding benched answered run_of start_accepted
no_run_refused s xs ws room a few none = accepts s _ a ∙ rw (none, le-ltb most_samples (length xs) few)

-- ---- a state's fields

-- what the bench heeds of an accepted state's word are its fields: the number, where 0 counts as 1, the else state, and
-- the flag last, which is the eighth [R5, S15]
module _ (s : State) (a : state.Accepted s) where
  pub number_is_the_field : number_of (word_of s) ≡ cond (eqb s.number 0) 1 s.number
  unfolding number_of
  number_is_the_field = ap (λ (n : ℕ). cond (eqb n 0) 1 n) (state_theorems.number_bits s a)

  pub else_is_the_field : else_of (word_of s) ≡ s.branch
  else_is_the_field = state_theorems.branch_bits s a

  pub last_is_the_field : is_last (word_of s) ≡ eqb (get_or s.flags 7 0) 1
  last_is_the_field = ap (λ (b : ℕ). eqb b 1) (state_theorems.flag_bit s a 7 (lit< tt))
