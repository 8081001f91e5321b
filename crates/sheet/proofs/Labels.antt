-- Labels met before: records of which none has an earlier one's label are those whose labels pairwise differ. Assumes
-- nothing.
use native.Mathlib.Nat.{zero-mul}
use native.Mathlib.Numerals.{add-one}
use native.Mathlib.Omega.{arith}
use Prim.Native.Nat.{ℕ, zero, suc, ◌+◌, ◌-◌, ◌*◌, ◌<◌}
use mathlib.Core.Bool.{Bool, true, false, ◌||◌, true≢false}
use mathlib.Core.List.{List, [], ◌∷◌, map}
use mathlib.Core.Path.{◌≡◌, refl, sym, ap, ◌∙◌}
use lib.ListN.{length, get_or, take, drop}
use lib.Seq.{drop-drop, take-take}
use Rattle.lines.proofs.Truth.{neither}
use Rattle.compare.specs.Same.{same}
use Rattle.compare.proofs.Compare.{same_equal, same_true, same_false}
use Rattle.records.specs.Sections.{label_size, record_size, label_of}
use Rattle.records.specs.Records.{records_from}
use Rattle.records.proofs.Bounds.{times}
use Rattle.records.proofs.Records.{drop_take}
use Rattle.sheet.specs.Reading.{among}
use Rattle.sheet.specs.Parsed.{LabelsDiffer}

-- ---- one label among those of some records

-- none of these records has the label
abbrev pub Unlike : (label : List ℕ) (rs : List (List ℕ)) → Type 0
Unlike label rs = (i : ℕ) → i < length rs → label_of (get_or rs i []) ≡ label → ⊥

not_among : (label : List ℕ) (rs : List (List ℕ)) → among label (map label_of rs) ≡ false → Unlike label rs
unfolding among
not_among label [] e i h q = absurd (omega arith)
not_among label (r ∷ rs) e zero h q =
    true≢false (sym (same_equal label (label_of r) (sym q)) ∙ (neither (same label (label_of r)) (among label (map label_of rs)) e).0)
not_among label (r ∷ rs) e (suc i) h q =
    not_among label rs (neither (same label (label_of r)) (among label (map label_of rs)) e).1 i (omega arith) q

pub among_some : (label : List ℕ) (rs : List (List ℕ)) (i : ℕ) → i < length rs → label_of (get_or rs i []) ≡ label → among label (map label_of rs) ≡ true
among_some label rs i h e = by_test (among label (map label_of rs)) refl
  where
    by_test : (b : Bool) → among label (map label_of rs) ≡ b → b ≡ true
    by_test true q = refl
    by_test false q = absurd (not_among label rs q i h e)

pub among_none : (label : List ℕ) (rs : List (List ℕ)) → Unlike label rs → among label (map label_of rs) ≡ false
unfolding among
among_none label [] u = refl
among_none label (r ∷ rs) u =
    rw (same_false label (label_of r) (λ q. u 0 (omega arith) (sym q))) (among_none label rs (λ i h. u (suc i) (omega arith)))

-- ---- the two views

-- each of these records has a label that none before it has; `before` came first
pub data Fresh : (before rs : List (List ℕ)) → Type 0 where
  done : {before : List (List ℕ)} → Fresh before []
  next : {before : List (List ℕ)} {r : List ℕ} {rs : List (List ℕ)} → among (label_of r) (map label_of before) ≡ false → Fresh (r ∷ before) rs
      → Fresh before (r ∷ rs)

fresh_apart : {before rs : List (List ℕ)} → Fresh before rs → (i j : ℕ) → i < length before → j < length rs
    → label_of (get_or before i []) ≡ label_of (get_or rs j []) → ⊥
fresh_apart Fresh.done i j h l = absurd (omega arith)
fresh_apart {before} (Fresh.next {r = r} new more) i zero h l = not_among (label_of r) before new i h
fresh_apart (Fresh.next new more) i (suc j) h l = fresh_apart more (suc i) j (omega arith) (omega arith)

pub fresh_differ : {before rs : List (List ℕ)} → Fresh before rs → LabelsDiffer rs
fresh_differ Fresh.done i j l h = absurd (omega arith)
fresh_differ (Fresh.next new more) i zero l h = absurd (omega arith)
fresh_differ (Fresh.next new more) zero (suc j) l h = fresh_apart more 0 j (omega arith) (omega arith)
fresh_differ (Fresh.next new more) (suc i) (suc j) l h = fresh_differ more i j (omega arith) (omega arith)

differ_behind : (before rs : List (List ℕ)) → LabelsDiffer rs → ((j : ℕ) → j < length rs → Unlike (label_of (get_or rs j [])) before)
    → Fresh before rs
differ_behind before [] d apart = Fresh.done
differ_behind before (r ∷ rs) d apart =
    Fresh.next (among_none (label_of r) before (apart 0 (omega arith)))
    (differ_behind (r ∷ before) rs (λ i j l h. d (suc i) (suc j) (omega arith) (omega arith)) later)
  where
    later : (j : ℕ) → j < length rs → Unlike (label_of (get_or rs j [])) (r ∷ before)
    later j h zero l q = d 0 (suc j) (omega arith) (omega arith) q
    later j h (suc i) l q = apart (suc j) (omega arith) i (omega arith) q

pub differ_fresh : (rs : List (List ℕ)) → LabelsDiffer rs → Fresh [] rs
differ_fresh rs d = differ_behind [] rs d (λ j h i l. absurd (omega arith))

-- ---- records by their numbers

pub records_length : (k n : ℕ) (rest : List ℕ) → length (records_from k n rest) ≡ n
unfolding records_from
records_length k zero rest = refl
records_length k (suc n) rest = ap suc (records_length k n (drop (record_size k) rest))

-- behind the first of them, and n more
further : (n size : ℕ) (rest : List ℕ) → drop (n * size) (drop size rest) ≡ drop (suc n * size) rest
further n size rest = drop-drop (n * size) size rest ∙ ap (λ (m : ℕ). drop m rest) (sym (times n size))

pub record_at_law : (k n : ℕ) (rest : List ℕ) (i : ℕ) → i < n → get_or (records_from k n rest) i [] ≡ take (record_size k) (drop (i * record_size k) rest)
unfolding records_from
record_at_law k zero rest i h = absurd (omega arith)
record_at_law k (suc n) rest zero h = rw (zero-mul (record_size k))
record_at_law k (suc n) rest (suc i) h =
    record_at_law k n (drop (record_size k) rest) i (omega arith)
    ∙ ap (take (record_size k)) (further i (record_size k) rest)

-- ---- the walk over the earlier records, which lie from `start` on

-- one record more
or_moved : (a b c : Bool) → a || (b || c) ≡ b || (a || c)
or_moved true true c = refl
or_moved true false c = refl
or_moved false b c = refl

among_further : (label : List ℕ) (k n : ℕ) (rest : List ℕ)
    → among label (map label_of (records_from k (suc n) rest))
    ≡ same label (label_of (take (record_size k) (drop (n * record_size k) rest))) || among label (map label_of (records_from k n rest))
unfolding among records_from
among_further label k zero rest = rw (zero-mul (record_size k))
among_further label k (suc n) rest =
    let size = record_size k in
    let here = same label (label_of (take size rest)) in
    let far = same label (label_of (take size (drop (n * size) (drop size rest)))) in
    let later = among label (map label_of (records_from k n (drop size rest))) in
    rw (← further n size rest) (ap (λ b. here || b) (among_further label k n (drop size rest)) ∙ or_moved here far later)

-- the label of record i
abbrev pub label_at : (k start : ℕ) (s : List ℕ) (i : ℕ) → List ℕ
label_at k start s i = label_of (take (record_size k) (drop (start + i * record_size k) s))

-- whether a label is among the first n
abbrev pub met_by : (label : List ℕ) (k start n : ℕ) (s : List ℕ) → Bool
met_by label k start n s = among label (map label_of (records_from k n (drop start s)))

module _ (k start i : ℕ) (s : List ℕ) where
  -- the label as the walks cut it out
  pub label_cut : (size : ℕ) → size ≡ record_size k
      → take (start + i * size + 1 + label_size - (start + i * size + 1)) (drop (start + i * size + 1) s) ≡ label_at k start s i
  label_cut size e =
      let at = start + i * record_size k in
      let n : at + 1 + label_size - (at + 1) ≡ label_size = omega arith in
      let cut : label_of (take (record_size k) (drop at s)) ≡ take label_size (drop 1 (drop at s)) =
      rw (drop_take 1 (record_size k) (drop at s)) (take-take label_size (record_size k - 1) (drop 1 (drop at s)) (omega arith)) in
      rw (e, n, cut, drop-drop 1 at s)

  pub met_none : (label : List ℕ) → met_by label k start 0 s ≡ false
  unfolding among records_from
  met_none label = refl

  pub met_more : (label : List ℕ) → met_by label k start (i + 1) s ≡ same label (label_at k start s i) || met_by label k start i s
  met_more label = rw (add-one i, among_further label k i (drop start s), drop-drop (i * record_size k) start s)

  pub met_at : (label : List ℕ) (n : ℕ) → i < n → same label (label_at k start s i) ≡ true → met_by label k start n s ≡ true
  met_at label n h e =
      among_some label (records_from k n (drop start s)) i (omega (arith, records_length k n (drop start s)))
      (rw (record_at_law k n (drop start s) i h, drop-drop (i * record_size k) start s) (sym (same_true label (label_at k start s i) e)))
