-- What tells two accepted descriptions apart: the samples given do, and where none are given the two are the same
-- description; and that an accepted one misses somewhere. Assumes nothing.
use Prim.Native.Nat.{ℕ, ◌^◌, ◌<◌, ◌≤◌}
use mathlib.Core.Path.{◌≡◌, refl, sym, ap, ◌∙◌}
use mathlib.Core.Bool.{Bool, true, false, cond, not, true≢false}
use native.Mathlib.Omega.{arith}
use borrow.Author.Tests.{eqb-true, not-true}
use lib.Bits.{bit_and, and_lt, or_lt, and_le_l, and_le_r, xor_add_and}
use lib.Dec.{eqb}
use Rattle.lines.specs.Line.{line}
use Rattle.lines.proofs.Over.{every_at, any_more, any_none, not_every, none_set}
use Rattle.lut.specs.declared.Telling.{Telling}
use Rattle.lut.specs.declared.Telling.TheVariants.{Alike, Apart}
use Rattle.lut.specs.Input.{Fits}
use Rattle.lut.specs.Telling.{HitAlike, Says}
use Rattle.lut.specs.declared.Input.TheVariants.{Samples}
use Rattle.lut.proofs.Asked.{alike_on_pairs}
use Rattle.edge.specs.declared.Edge.{Edge}
use Rattle.edge.specs.declared.Event.{Event}
use Rattle.edge.specs.declared.Event.TheVariants.{Rise, Fall, Neither}
use Rattle.edge.specs.Rule.{line_accepted, hit_of, hit, Accepted}
use Rattle.edge.specs.Telling.{asked, without, earlier_of, later_of, tell_by, tell_one, or_else, edge_telling}
use Rattle.edge.proofs.Pair.{line_of}
use Rattle.edge.proofs.Bits.{without_lt}
use Rattle.edge.proofs.TellLine.{hits_line, line_tells}

-- no line of a is missing in b
without_none : (a b : ℕ) → without a b ≡ 0 → a ≤ b
unfolding without
without_none a b e =
    omega (arith, xor_add_and a (bit_and a b), and_le_l a (bit_and a b), and_le_r a (bit_and a b), and_le_l a b, and_le_r a b)

asked_lt : (t : Event) (d : Edge) → Accepted d → asked t d < 2 ^ 32
asked_lt Rise d h = h.rise_fits
asked_lt Fall d h = h.fall_fits
asked_lt Neither d h = h.neither_fits

module _ (d r n : ℕ) (hd : d < 2 ^ 32) (hr : r < 2 ^ 32) (hn : n < 2 ^ 32) where
  before_lt : without (bit_and n r) d < 2 ^ 32
  before_lt = without_lt 32 (bit_and n r) d (and_lt 32 n r hn hr) hd

  after_lt : without (without n r) d < 2 ^ 32
  after_lt = without_lt 32 (without n r) d (without_lt 32 n r hn hr) hd

  earlier_lt : (t : Event) → earlier_of t d r n < 2 ^ 32
  earlier_lt Rise = before_lt
  earlier_lt Fall = or_lt 32 (without (bit_and n r) d) d before_lt hd
  earlier_lt Neither = before_lt

  later_lt : (t : Event) → later_of t d r n < 2 ^ 32
  later_lt Rise = or_lt 32 (without (without n r) d) d after_lt hd
  later_lt Fall = after_lt
  later_lt Neither = after_lt

-- what an answer to "what does a ask for that b does not" says: the samples make a hit and b miss, or there is no such
-- thing
Tells : Edge → Edge → Telling → Type 0
Tells a b Alike = (t : Event) → asked t a ≤ asked t b
Tells a b (Apart i) = (hit a i ≡ true) × (hit b i ≡ false) × Fits i

module _ (a b : Edge) (p : Accepted a) (q : Accepted b) where
  module _ (t : Event) where
    -- the lines that show the event, and the samples
    d : ℕ
    d = without (asked t a) (asked t b)

    e : ℕ
    e = earlier_of t d b.rise b.neither

    l : ℕ
    l = later_of t d b.rise b.neither

    each_line : (i : ℕ) → i < 32
        → (hits_line (line_of b i) (line e i) (line l i) ≡ false)
        × (eqb (line d i) 0 ≡ false → hits_line (line_of a i) (line e i) (line l i) ≡ true)
    unfolding d e l
    each_line i h =
        line_tells t a b i d refl
        (every_at 32 (λ i. line_accepted (line b.rise i) (line b.fall i) (line b.neither i)) q.ok i h)

    d_lt : d < 2 ^ 32
    unfolding d
    d_lt = without_lt 32 (asked t a) (asked t b) (asked_lt t a p) (asked_lt t b q)

    a_hits : eqb d 0 ≡ false → hit_of a e l ≡ true
    a_hits none =
        any_more 32 (λ i. not (eqb (line d i) 0)) _ (λ i h g. (each_line i h).1 (not-true (eqb (line d i) 0) g))
        (sym (not_every 32 (λ i. eqb (line d i) 0)) ∙ ap not (sym (none_set 32 d d_lt) ∙ none))

    b_misses : hit_of b e l ≡ false
    b_misses = any_none 32 _ (λ i h. (each_line i h).0)

    samples_fit : (e < 2 ^ 32) × (l < 2 ^ 32)
    unfolding e l
    samples_fit = (
      earlier_lt d b.rise b.neither d_lt q.rise_fits q.neither_fits t,
      later_lt d b.rise b.neither d_lt q.rise_fits q.neither_fits t,
    )

    step : (others : Telling) → (asked t a ≤ asked t b → Tells a b others) → Tells a b (tell_by t a b others)
    unfolding tell_by d e l Tells
    step others rest = go (eqb d 0) refl
      where
        go : (none : Bool) → eqb d 0 ≡ none → Tells a b (cond none others (Apart (Samples e l)))
        go true z = rest (without_none (asked t a) (asked t b) (eqb-true d 0 z))
        go false z = (a_hits z, b_misses, samples_fit)

  one_tells : Tells a b (tell_one a b)
  unfolding Tells
  one_tells = step Rise _ (λ x. step Fall _ (λ y. step Neither Alike (λ z. each x y z)))
    where
      each : asked Rise a ≤ asked Rise b → asked Fall a ≤ asked Fall b → asked Neither a ≤ asked Neither b
          → (t : Event) → asked t a ≤ asked t b
      each x y z Rise = x
      each x y z Fall = y
      each x y z Neither = z

-- an accepted edge misses where every line does what it does not ask for
pub misses : (d : Edge) → Accepted d → (earlier : ℕ) × ((later : ℕ) × (Fits (Samples earlier later) × (hit_of d earlier later ≡ false)))
misses d p = (_, (_, (samples_fit d d p p Rise, b_misses d d p p Rise)))

-- each asks for nothing that the other does not: they are the same
both_ways : (a b : Edge) → ((t : Event) → asked t a ≤ asked t b) → ((t : Event) → asked t b ≤ asked t a)
    → (a.rise ≡ b.rise) × (a.fall ≡ b.fall) × (a.neither ≡ b.neither)
both_ways a b x y = (omega (arith, x Rise, y Rise), omega (arith, x Fall, y Fall), omega (arith, x Neither, y Neither))

same_hits : (a b : Edge) → (a.rise ≡ b.rise) × (a.fall ≡ b.fall) × (a.neither ≡ b.neither) → HitAlike (hit a) (hit b)
same_hits a b (p, q, s) = alike_on_pairs (hit_of a) (hit_of b) (λ e l he hl. cc)

not_alike : (x y : Bool) → x ≡ true → y ≡ false → x ≡ y → ⊥
not_alike x y p q s = true≢false (sym p ∙ s ∙ q)

module _ (a b : Edge) (p : Accepted a) (q : Accepted b) where
  pub telling_says : Says (hit a) (hit b) (edge_telling a b)
  unfolding Tells
  telling_says = first (tell_one a b) (one_tells a b p q)
    where
      second : ((t : Event) → asked t a ≤ asked t b) → (x : Telling) → Tells b a x → Says (hit a) (hit b) x
      second le Alike w = same_hits a b (both_ways a b le w)
      second le (Apart i) w = record { fits = w.2; tells = λ s. not_alike (hit b i) (hit a i) w.0 w.1 (sym s) }

      first : (x : Telling) → Tells a b x → Says (hit a) (hit b) (or_else x (tell_one b a))
      first Alike w = second w (tell_one b a) (one_tells b a q p)
      first (Apart i) w = record { fits = w.2; tells = not_alike (hit a i) (hit b i) w.0 w.1 }

  -- descriptions that hit alike are the same
  pub alike_same : HitAlike (hit a) (hit b) → (a.rise ≡ b.rise) × (a.fall ≡ b.fall) × (a.neither ≡ b.neither)
  unfolding Tells
  alike_same alike =
      both_ways a b (less a b alike (tell_one a b) (one_tells a b p q))
      (less b a (λ i x. sym (alike i x)) (tell_one b a) (one_tells b a q p))
    where
      less : (x y : Edge) → HitAlike (hit x) (hit y) → (found : Telling) → Tells x y found → (t : Event) → asked t x ≤ asked t y
      less x y alike Alike w = w
      less x y alike (Apart i) w = absurd (not_alike (hit x i) (hit y i) w.0 w.1 (alike i w.2))

-- an answer that is the one computed says what it should
pub says : (a b : Edge) (answer : Telling) → answer ≡ edge_telling a b → Accepted a → Accepted b → Says (hit a) (hit b) answer
says a b answer e p q = rw e (telling_says a b p q)
