-- Which lines a notice has: a line is there exactly if what it says of its slot's two records holds. Assumes nothing.
use Prim.Native.Nat.{ℕ, zero, suc, ◌+◌, ◌≤◌, ◌<◌}
use mathlib.Core.Path.{◌≡◌, refl, sym, ap, subst}
use mathlib.Core.Bool.{Bool, true, false, cond}
use mathlib.Core.List.Memᴰ
use mathlib.Core.List.{List, [], ◌∷◌, Memᴰ, cons≢nil}
use mathlib.Core.Logic.{◌↔◌, ⊎_elim}
use native.Mathlib.Omega.{arith}
use native.Mathlib.Decide.{ℕ_discrete}
use lib.ListN.{get_or}
use Rattle.compare.specs.Same.{same}
use Rattle.compare.proofs.Compare.{same_refl, same_false}
use Rattle.kinds.specs.Table.{telling_of}
use Rattle.records.specs.Sections.{sections, most_of, label_of, description_of}
use Rattle.records.specs.Records.{find}
use Rattle.sheet.specs.Parsed.{parse, record_with}
use Rattle.findings.specs.declared.Finding.{Finding}
use Rattle.findings.specs.declared.Finding.TheVariants.{New, Gone, Name, Changed}
use Rattle.findings.specs.declared.Line.{Line}
use Rattle.findings.specs.Findings.{line, unless_same, shared_lines, slot_lines, lines_from, sections_lines, notice_lines}
use Rattle.findings.specs.Shared.{Gives}

-- ---- a slot's lines are of its section and slot

maybe_in : (t : Bool) (l m : Line) → Memᴰ l (cond t [] (m ∷ [])) → (t ≡ false) × (l ≡ m)
maybe_in true l m i = absurd (Memᴰ.not-nil i)
maybe_in false l m i = (refl, Memᴰ.eq_of_singleton i)

-- a slot's line has that section, slot and some finding
of_slot : (k t : ℕ) (old new : List ℕ) (l : Line) → Memᴰ l (slot_lines k t old new) → (l.section ≡ k) × (l.slot ≡ t)
unfolding slot_lines shared_lines
of_slot k t [] [] l i = absurd (Memᴰ.not-nil i)
of_slot k t [] (y ∷ new) l i = let e = Memᴰ.eq_of_singleton i in (ap (λ (m : Line). m.section) e, ap (λ (m : Line). m.slot) e)
of_slot k t (x ∷ old) [] l i = let e = Memᴰ.eq_of_singleton i in (ap (λ (m : Line). m.section) e, ap (λ (m : Line). m.slot) e)
of_slot k t (x ∷ old) (y ∷ new) l i =
    ⊎_elim
    (λ n. let e = (maybe_in (same (label_of (x ∷ old)) (label_of (y ∷ new))) l _ n).1 in
    (ap (λ (m : Line). m.section) e, ap (λ (m : Line). m.slot) e))
    (λ n. let e = (maybe_in (same (description_of (x ∷ old)) (description_of (y ∷ new))) l _ n).1 in
    (ap (λ (m : Line). m.section) e, ap (λ (m : Line). m.slot) e))
    (Memᴰ.append_cases (unless_same (label_of (x ∷ old)) (label_of (y ∷ new)) (line k t Name)) i)

-- ---- a section's lines

lines_from_law : (k n t : ℕ) (os ns : List (List ℕ)) (l : Line) → Memᴰ l (lines_from k n t os ns)
    → (l.section ≡ k) × (l.slot < t + n) × Memᴰ l (slot_lines k l.slot (find l.slot os) (find l.slot ns))
unfolding lines_from
lines_from_law k zero t os ns l i = absurd (Memᴰ.not-nil i)
lines_from_law k (suc n) t os ns l i =
    ⊎_elim
    (λ m. let e = of_slot k t (find t os) (find t ns) l m in
    (e.0, omega arith, subst (λ (u : ℕ). Memᴰ l (slot_lines k u (find u os) (find u ns))) (sym e.1) m))
    (λ m. let h = lines_from_law k n (t + 1) os ns l m in (h.0, omega arith, h.2))
    (Memᴰ.append_cases (slot_lines k t (find t os) (find t ns)) i)

lines_to : (k n t s : ℕ) (os ns : List (List ℕ)) (l : Line) → t ≤ s → s < t + n
    → Memᴰ l (slot_lines k s (find s os) (find s ns)) → Memᴰ l (lines_from k n t os ns)
unfolding lines_from
lines_to k zero t s os ns l h j i = absurd (omega arith)
lines_to k (suc n) t s os ns l h j i =
    elim (ℕ_discrete t s) [
      | yes e ↦
          Memᴰ.append_left {s = slot_lines k t (find t os) (find t ns)} (lines_from k n (t + 1) os ns)
          (subst (λ (u : ℕ). Memᴰ l (slot_lines k u (find u os) (find u ns))) (sym e) i)
      | no e ↦ Memᴰ.append_right (slot_lines k t (find t os) (find t ns)) (lines_to k n (t + 1) s os ns l (omega arith) (omega arith) i)
    ]

-- ---- the sections' lines

abbrev section_lines : (k : ℕ) (p q : List (List (List ℕ))) → List Line
section_lines k p q = lines_from k (most_of k) 0 (get_or p k []) (get_or q k [])

sections_from_law : (n k : ℕ) (p q : List (List (List ℕ))) (l : Line) → Memᴰ l (sections_lines n k p q)
    → (l.section < k + n) × Memᴰ l (section_lines l.section p q)
unfolding sections_lines
sections_from_law zero k p q l i = absurd (Memᴰ.not-nil i)
sections_from_law (suc n) k p q l i =
    ⊎_elim
    (λ m. let e = (lines_from_law k (most_of k) 0 (get_or p k []) (get_or q k []) l m).0 in
    (omega arith, subst (λ (u : ℕ). Memᴰ l (section_lines u p q)) (sym e) m))
    (λ m. let h = sections_from_law n (k + 1) p q l m in (omega arith, h.1))
    (Memᴰ.append_cases (section_lines k p q) i)

sections_to : (n j k : ℕ) (p q : List (List (List ℕ))) (l : Line) → j ≤ k → k < j + n → Memᴰ l (section_lines k p q)
    → Memᴰ l (sections_lines n j p q)
unfolding sections_lines
sections_to zero j k p q l h b i = absurd (omega arith)
sections_to (suc n) j k p q l h b i =
    elim (ℕ_discrete j k) [
      | yes e ↦
          Memᴰ.append_left {s = section_lines j p q} (sections_lines n (j + 1) p q)
          (subst (λ (u : ℕ). Memᴰ l (section_lines u p q)) (sym e) i)
      | no e ↦ Memᴰ.append_right (section_lines j p q) (sections_to n (j + 1) k p q l (omega arith) (omega arith) i)
    ]

-- a line for a slot is in the notice exactly if it is a line of the slot's two records
notice_line : (old new : List ℕ) (k s : ℕ) (f : Finding)
    → Memᴰ (line k s f) (notice_lines old new)
    ↔ ((k < sections) × (s < most_of k) × Memᴰ (line k s f) (slot_lines k s (record_with k s old) (record_with k s new)))
unfolding notice_lines
notice_line old new k s f = (
  (λ i.
      let h = sections_from_law sections 0 (parse old) (parse new) (line k s f) i in
      let g = lines_from_law k (most_of k) 0 (get_or (parse old) k []) (get_or (parse new) k []) (line k s f) h.1 in
      (omega arith, omega arith, g.2)),
  (λ h.
      sections_to sections 0 k (parse old) (parse new) (line k s f) (omega arith) (omega arith)
      (lines_to k (most_of k) 0 s (get_or (parse old) k []) (get_or (parse new) k []) (line k s f) (omega arith) (omega arith) h.2)),
)

-- ---- what a line says of its slot

same_finding : (k s : ℕ) (f g : Finding) → line k s f ≡ line k s g → f ≡ g
same_finding k s f g e = ap (λ (l : Line). l.finding) e

differ : (a b : List ℕ) → same a b ≡ false → a ≡ b → ⊥
differ a b e q = cc (same_refl a, e, q)

slot_from_law : (k s : ℕ) (o n : List ℕ) (f : Finding) → Memᴰ (line k s f) (slot_lines k s o n) → Gives k o n f
unfolding slot_lines shared_lines
slot_from_law k s [] [] f i = absurd (Memᴰ.not-nil i)
slot_from_law k s [] (y ∷ n) f i = subst (Gives k [] (y ∷ n)) (sym (same_finding k s f New (Memᴰ.eq_of_singleton i))) (refl, cons≢nil)
slot_from_law k s (x ∷ o) [] f i = subst (Gives k (x ∷ o) []) (sym (same_finding k s f Gone (Memᴰ.eq_of_singleton i))) (cons≢nil, refl)
slot_from_law k s (x ∷ o) (y ∷ n) f i =
    let old = x ∷ o in
    let new = y ∷ n in
    let change = Changed (telling_of k (description_of old) (description_of new)) in
    ⊎_elim
    (λ m. let h = maybe_in (same (label_of old) (label_of new)) (line k s f) (line k s Name) m in
    subst (Gives k old new) (sym (same_finding k s f Name h.1)) (cons≢nil, cons≢nil, differ (label_of old) (label_of new) h.0))
    (λ m. let h = maybe_in (same (description_of old) (description_of new)) (line k s f) (line k s change) m in
    subst (Gives k old new) (sym (same_finding k s f change h.1)) (cons≢nil, cons≢nil, differ (description_of old) (description_of new) h.0, refl))
    (Memᴰ.append_cases (unless_same (label_of old) (label_of new) (line k s Name)) i)

slot_to : (k s : ℕ) (o n : List ℕ) (f : Finding) → Gives k o n f → Memᴰ (line k s f) (slot_lines k s o n)
unfolding slot_lines shared_lines
slot_to k s [] [] New h = absurd (h.1 refl)
slot_to k s [] (y ∷ n) New h = Memᴰ.head refl
slot_to k s (x ∷ o) n New h = absurd (cons≢nil h.0)
slot_to k s [] n Gone h = absurd (h.0 refl)
slot_to k s (x ∷ o) [] Gone h = Memᴰ.head refl
slot_to k s (x ∷ o) (y ∷ n) Gone h = absurd (cons≢nil h.1)
slot_to k s [] n Name h = absurd (h.0 refl)
slot_to k s (x ∷ o) [] Name h = absurd (h.1 refl)
slot_to k s (x ∷ o) (y ∷ n) Name h =
    Memᴰ.append_left {s = unless_same (label_of (x ∷ o)) (label_of (y ∷ n)) (line k s Name)} _ (rw (same_false _ _ h.2) (Memᴰ.head refl))
slot_to k s [] n (Changed c) h = absurd (h.0 refl)
slot_to k s (x ∷ o) [] (Changed c) h = absurd (h.1 refl)
slot_to k s (x ∷ o) (y ∷ n) (Changed c) h =
    Memᴰ.append_right (unless_same (label_of (x ∷ o)) (label_of (y ∷ n)) (line k s Name))
    (rw (same_false _ _ h.2) (Memᴰ.head (ap (λ d. line k s (Changed d)) h.3)))

-- a line is in the notice exactly if what it says of its slot holds
pub line_iff : (old new : List ℕ) (k s : ℕ) (f : Finding)
    → Memᴰ (line k s f) (notice_lines old new) ↔ ((k < sections) × (s < most_of k) × Gives k (record_with k s old) (record_with k s new) f)
line_iff old new k s f = (
  (λ i. let h = (notice_line old new k s f).0 i in (h.0, h.1, slot_from_law k s _ _ f h.2)),
  (λ h. (notice_line old new k s f).1 (h.0, h.1, slot_to k s _ _ f h.2)),
)
