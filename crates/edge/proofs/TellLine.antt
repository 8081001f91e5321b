-- One line of the samples that tell two descriptions apart: the one that is to miss misses there, and the other hits where the event is shown.
-- A computed test over the two descriptions' wishes. Assumes nothing.
use Prim.Native.Nat.{ℕ}
use mathlib.Core.Path.{◌≡◌, refl, sym, ap, ap₂, ◌∙◌}
use mathlib.Core.Bool.{Bool, true, false, not, ◌&&◌, ◌||◌, true≢false}
use mathlib.Core.List.{List, [], ◌∷◌}
use native.Mathlib.Omega.{arith}
use lib.Bits.{bit_and, bit_or}
use lib.Dec.{T, eqb}
use lib.ListN.{get_or}
use Rattle.lines.specs.Line.{line}
use Rattle.lines.proofs.Computed.{digits, every_within, every_within_law}
use Rattle.lines.proofs.Digit.{line_and, line_or}
use Rattle.edge.specs.declared.Edge.{Edge}
use Rattle.edge.specs.declared.Event.{Event}
use Rattle.edge.specs.declared.Event.TheVariants.{Rise, Fall, Neither}
use Rattle.edge.specs.Rule.{line_hit, line_accepted}
use Rattle.edge.specs.Telling.{asked, without, earlier_of, later_of}
use Rattle.edge.proofs.Pair.{line_of, line_asked}
use Rattle.edge.proofs.Bits.{line_without}

-- ---- a line of the samples

-- where no event is shown
line_before : (d r n i : ℕ) → line (without (bit_and n r) d) i ≡ without (bit_and (line n i) (line r i)) (line d i)
line_before d r n i = line_without (bit_and n r) d i ∙ ap (λ (x : ℕ). without x (line d i)) (line_and n r i)

line_after : (d r n i : ℕ) → line (without (without n r) d) i ≡ without (without (line n i) (line r i)) (line d i)
line_after d r n i = line_without (without n r) d i ∙ ap (λ (x : ℕ). without x (line d i)) (line_without n r i)

line_earlier : (t : Event) (d r n i : ℕ) → line (earlier_of t d r n) i ≡ earlier_of t (line d i) (line r i) (line n i)
line_earlier Rise d r n i = line_before d r n i
line_earlier Fall d r n i =
    line_or (without (bit_and n r) d) d i ∙ ap (λ (x : ℕ). bit_or x (line d i)) (line_before d r n i)
line_earlier Neither d r n i = line_before d r n i

line_later : (t : Event) (d r n i : ℕ) → line (later_of t d r n) i ≡ later_of t (line d i) (line r i) (line n i)
line_later Rise d r n i =
    line_or (without (without n r) d) d i ∙ ap (λ (x : ℕ). bit_or x (line d i)) (line_after d r n i)
line_later Fall d r n i = line_after d r n i
line_later Neither d r n i = line_after d r n i

-- ---- one line: a is the description that is to hit, b the one that is to miss

abbrev pub hits_line : Edge → ℕ → ℕ → Bool
hits_line d = line_hit d.rise d.fall d.neither

-- if b is accepted it misses, and a hits where the event is shown
tells_at : Event → Edge → Edge → Bool
tells_at t a b =
    let d = without (asked t a) (asked t b) in
    let e = earlier_of t d b.rise b.neither in
    let l = later_of t d b.rise b.neither in
    not (line_accepted b.rise b.fall b.neither) || (not (hits_line b e l) && (eqb d 0 || hits_line a e l))

tells_list : Event → List ℕ → Bool
tells_list t ds =
    tells_at t (record { rise = get_or ds 0 0; fall = get_or ds 1 0; neither = get_or ds 2 0 })
    (record { rise = get_or ds 3 0; fall = get_or ds 4 0; neither = get_or ds 5 0 })

tells_line : (t : Event) → T (every_within (digits 6) (tells_list t))
unfolding tells_list tells_at without
tells_line Rise = tt
tells_line Fall = tt
tells_line Neither = tt

split_test : (a b c d : Bool) → a ≡ true → T (not a || (not b && (c || d))) → (b ≡ false) × (c ≡ false → d ≡ true)
split_test true true c d h t = absurd t
split_test true false true d h t = (refl, λ e. absurd (true≢false e))
split_test true false false true h t = (refl, λ e. refl)
split_test true false false false h t = absurd t
split_test false b c d h t = absurd (true≢false (sym h))

-- at line i of the samples
module _ (t : Event) (a b : Edge) (i : ℕ) where
  pub line_tells : (d : ℕ) → d ≡ without (asked t a) (asked t b) → line_accepted (line b.rise i) (line b.fall i) (line b.neither i) ≡ true
      → (hits_line (line_of b i) (line (earlier_of t d b.rise b.neither) i) (line (later_of t d b.rise b.neither) i) ≡ false)
      × (eqb (line d i) 0 ≡ false
      → hits_line (line_of a i) (line (earlier_of t d b.rise b.neither) i) (line (later_of t d b.rise b.neither) i) ≡ true)
  unfolding tells_list tells_at
  line_tells d h ok =
      let ed : line d i ≡ without (asked t (line_of a i)) (asked t (line_of b i)) =
      ap (λ (x : ℕ). line x i) h ∙ line_without (asked t a) (asked t b) i ∙ ap₂ without (line_asked t a i) (line_asked t b i) in
      rw (line_earlier t d b.rise b.neither i, line_later t d b.rise b.neither i, ed)
      (split_test _ _ _ _ ok
      (every_within_law (digits 6) (tells_list t) (tells_line t)
      (line a.rise i ∷ line a.fall i ∷ line a.neither i ∷ line b.rise i ∷ line b.fall i ∷ line b.neither i ∷ [])
      (omega arith)))
