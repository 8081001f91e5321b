-- Where the entry of a slot stands in a table. Assumes nothing.
use Prim.Native.Nat.{ℕ, zero, suc, ◌+◌, ◌*◌, ◌≤◌, ◌<◌}
use mathlib.Core.Path.{◌≡◌, refl, sym, ap, ap₂, ◌∙◌}
use mathlib.Core.List.{List, [], ◌++◌}
use native.Mathlib.Omega.{arith}
use native.Mathlib.Nat.{add-zero, add_assoc, mul-le-mul_right}
use lib.ListN.{length, get_or, length-append, get_or-append}
use lib.Seq.{get_or-append-add}
use Rattle.kinds.specs.Table.{sections, most_of, entry_size}
use Rattle.records.specs.Records.{find}
use Rattle.records.proofs.Bounds.{one_more}
use Rattle.programme.specs.Table.{entry_for, entries_from, table_from, table_of}
use Rattle.programme.proofs.Rows.{entry_length}

pub entries_length : (n slot k : ℕ) (rs : List (List ℕ)) → length (entries_from n slot k rs) ≡ n * entry_size k
unfolding entries_from
entries_length zero slot k rs = omega arith
entries_length (suc n) slot k rs =
    omega (arith, length-append (entry_for k (find slot rs)) (entries_from n (slot + 1) k rs), entry_length k (find slot rs), entries_length n (slot + 1) k rs)

-- a number of the first of two pieces, and one of the second
in_first : (xs ys : List ℕ) (i : ℕ) → i < length xs → get_or (xs ++ ys) i 0 ≡ get_or xs i 0
in_first xs ys i h = get_or-append xs ys 0 i h

in_second : (xs ys : List ℕ) (n i j : ℕ) → length xs ≡ n → j ≡ n + i → get_or (xs ++ ys) j 0 ≡ get_or ys i 0
in_second xs ys n i j l e = ap (λ (m : ℕ). get_or (xs ++ ys) m 0) (e ∙ ap (λ (m : ℕ). m + i) (sym l)) ∙ get_or-append-add xs ys i 0

-- number j of the entry of the i-th of so many slots
slot_at : (n slot k : ℕ) (rs : List (List ℕ)) (i j : ℕ) → i < n → j < entry_size k
    → get_or (entries_from n slot k rs) (i * entry_size k + j) 0 ≡ get_or (entry_for k (find (slot + i) rs)) j 0
unfolding entries_from
slot_at zero slot k rs i j hi hj = absurd (omega arith)
slot_at (suc n) slot k rs zero j hi hj =
    let l = entry_length k (find slot rs) in
    let z : zero * entry_size k + j ≡ j = omega arith in
    ap (λ (m : ℕ). get_or (entry_for k (find slot rs) ++ entries_from n (slot + 1) k rs) m 0) z
    ∙ in_first (entry_for k (find slot rs)) (entries_from n (slot + 1) k rs) j (omega arith)
    ∙ ap (λ (m : ℕ). get_or (entry_for k (find m rs)) j 0) (sym (add-zero slot))
slot_at (suc n) slot k rs (suc i) j hi hj =
    let s : slot + 1 + i ≡ slot + suc i = omega arith in
    in_second (entry_for k (find slot rs)) (entries_from n (slot + 1) k rs) (entry_size k) (i * entry_size k + j) (suc i * entry_size k + j)
    (entry_length k (find slot rs)) (omega arith)
    ∙ slot_at n (slot + 1) k rs i j (omega arith) hj
    ∙ ap (λ (m : ℕ). get_or (entry_for k (find m rs)) j 0) s

-- how many numbers stand before the section that is the m-th from section k on
abbrev pub before : (m k : ℕ) → ℕ
before zero k = 0
before (suc m) k = most_of k * entry_size k + before m (k + 1)

section_at_law : (n k : ℕ) (p : List (List (List ℕ))) (m i : ℕ) → m < n → i < most_of (k + m) * entry_size (k + m)
    → get_or (table_from n k p) (before m k + i) 0 ≡ get_or (entries_from (most_of (k + m)) 0 (k + m) (get_or p (k + m) [])) i 0
unfolding table_from
section_at_law zero k p m i hm hi = absurd (omega arith)
section_at_law (suc n) k p zero i hm hi =
    let e : k + zero ≡ k = add-zero k in
    let z : zero + i ≡ i = omega arith in
    let first : List ℕ = entries_from (most_of k) 0 k (get_or p k []) in
    let l : length first ≡ most_of k * entry_size k = entries_length (most_of k) 0 k (get_or p k []) in
    let h : i < most_of k * entry_size k = rw e at hi in
    ap (λ (j : ℕ). get_or (first ++ table_from n (k + 1) p) j 0) z
    ∙ in_first first (table_from n (k + 1) p) i (omega arith)
    ∙ ap (λ (q : ℕ). get_or (entries_from (most_of q) 0 q (get_or p q [])) i 0) (sym e)
section_at_law (suc n) k p (suc m) i hm hi =
    let e : k + 1 + m ≡ k + suc m = omega arith in
    let h : i < most_of (k + 1 + m) * entry_size (k + 1 + m) = rw e hi in
    in_second (entries_from (most_of k) 0 k (get_or p k [])) (table_from n (k + 1) p) (most_of k * entry_size k) (before m (k + 1) + i) (before (suc m) k + i)
    (entries_length (most_of k) 0 k (get_or p k [])) (add_assoc (most_of k * entry_size k) (before m (k + 1)) i)
    ∙ section_at_law n (k + 1) p m i (omega arith) h
    ∙ ap (λ (q : ℕ). get_or (entries_from (most_of q) 0 q (get_or p q [])) i 0) e

-- number j of the entry of a slot of section k
pub entry_at : (p : List (List (List ℕ))) (k slot j : ℕ) → k < sections → slot < most_of k → j < entry_size k
    → get_or (table_of p) (before k 0 + (slot * entry_size k + j)) 0 ≡ get_or (entry_for k (find slot (get_or p k []))) j 0
unfolding table_of
entry_at p k slot j hk hs hj =
    let z : 0 + k ≡ k = omega arith in
    let s : 0 + slot ≡ slot = omega arith in
    let up : (slot + 1) * entry_size k ≤ most_of k * entry_size k = mul-le-mul_right (entry_size k) (omega arith) in
    let fits : slot * entry_size k + j < most_of k * entry_size k = omega (arith, one_more slot (entry_size k)) in
    section_at_law sections 0 p k (slot * entry_size k + j) hk (rw z fits)
    ∙ ap (λ (q : ℕ). get_or (entries_from (most_of q) 0 q (get_or p q [])) (slot * entry_size k + j) 0) z
    ∙ slot_at (most_of k) 0 k (get_or p k []) slot j hs hj
    ∙ ap (λ (m : ℕ). get_or (entry_for k (find m (get_or p k []))) j 0) s

-- how many numbers a table has
table_from_law : (n k : ℕ) (p : List (List (List ℕ))) → length (table_from n k p) ≡ before n k
unfolding table_from
table_from_law zero k p = refl
table_from_law (suc n) k p =
    length-append (entries_from (most_of k) 0 k (get_or p k [])) (table_from n (k + 1) p)
    ∙ ap₂ ◌+◌ (entries_length (most_of k) 0 k (get_or p k [])) (table_from_law n (k + 1) p)

pub table_count : (p : List (List (List ℕ))) → length (table_of p) ≡ before sections 0
unfolding table_of
table_count p = table_from_law sections 0 p
