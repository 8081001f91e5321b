-- One table of two lines, over all eight wishes of each line: it answers 1 exactly where one of the two lines has an
-- asked-for event, it has sixteen bits, and what accepted lines ask for can be read off it. Each is one computed test
-- over the lines' digits, the same for all sixteen tables [K6]. Assumes nothing.
use Prim.Native.Nat.{ℕ, ◌+◌, ◌*◌, ◌/◌, ◌%◌, ◌^◌, ◌<◌}
use mathlib.Core.Path.{◌≡◌, refl}
use mathlib.Core.Bool.{Bool, true, not, ◌&&◌, ◌||◌, beq}
use mathlib.Core.List.{List, [], ◌∷◌}
use native.Mathlib.Omega.{arith}
use lib.Bits.{bit_or}
use lib.Dec.{T, eqb, eqb→eq, ltb, ltb→lt}
use lib.ListN.{get_or}
use Rattle.lines.specs.Line.{line}
use native.Mathlib.Numerals.{add-one}
use Rattle.lines.proofs.Digit.{next_lines}
use Rattle.lines.proofs.Computed.{digits, every_within, every_within_law}
use Rattle.lines.proofs.Truth.{agree, and_left, and_right}
use Rattle.lut.specs.Table.{answer_at}
use Rattle.edge.specs.declared.Edge.{Edge}
use Rattle.edge.specs.declared.Event.{Event}
use Rattle.edge.specs.declared.Event.TheVariants.{Rise, Fall, Neither}
use Rattle.edge.specs.Rule.{line_hit, line_accepted}
use Rattle.edge.specs.Words.{lower_table, upper_table, asked_table, pair_table}
use Rattle.edge.specs.Model.{address, table_hit}
use Rattle.edge.specs.Back.{covers}
use Rattle.edge.specs.Telling.{asked}

-- two lines by a shift, and the address they make
pub two_lines : (x : ℕ) → x / 2 % 2 * 2 + x % 2 ≡ x % 4
two_lines x = omega arith

pub upper_line : (x p : ℕ) → x / 2 ^ (2 * p) / 2 % 2 ≡ line x (2 * p + 1)
upper_line x p = rw (add-one (2 * p), next_lines x (2 * p))

pub address_shifted : (p e l : ℕ) → e / 2 ^ (2 * p) % 4 * 4 + l / 2 ^ (2 * p) % 4 ≡ address p e l
address_shifted p e l =
    rw (← upper_line e p, ← upper_line l p) (omega (arith, two_lines (e / 2 ^ (2 * p)), two_lines (l / 2 ^ (2 * p))))

-- the table of two lines: the first three digits are the upper line's wishes, the next three the lower line's
table_for : List ℕ → ℕ
table_for ds =
    bit_or (asked_table upper_table (get_or ds 0 0) (get_or ds 1 0) (get_or ds 2 0)) (asked_table lower_table (get_or ds 3 0) (get_or ds 4 0) (get_or ds 5 0))

-- then come the earlier values of the upper and the lower line, and the later ones
answers_right : List ℕ → Bool
answers_right ds =
    beq (eqb (answer_at (table_for ds) (8 * get_or ds 6 0 + 4 * get_or ds 7 0 + 2 * get_or ds 8 0 + get_or ds 9 0)) 1)
    (line_hit (get_or ds 0 0) (get_or ds 1 0) (get_or ds 2 0) (get_or ds 6 0) (get_or ds 8 0)
    || line_hit (get_or ds 3 0) (get_or ds 4 0) (get_or ds 5 0) (get_or ds 7 0) (get_or ds 9 0))

pub pair_law : (p r f n e l : ℕ)
    → table_hit p (pair_table p r f n) e l
    ≡ line_hit (line r (2 * p + 1)) (line f (2 * p + 1)) (line n (2 * p + 1)) (line e (2 * p + 1)) (line l (2 * p + 1))
    || line_hit (line r (2 * p)) (line f (2 * p)) (line n (2 * p)) (line e (2 * p)) (line l (2 * p))
unfolding pair_table table_for answers_right
pair_law p r f n e l =
    let u = 2 * p + 1 in
    let d = 2 * p in
    agree _ _
    (every_within_law (digits 10) answers_right tt
    (line r u ∷ line f u ∷ line n u ∷ line r d ∷ line f d ∷ line n d ∷ line e u ∷ line e d ∷ line l u ∷ line l d ∷ [])
    (omega arith))

sixteen_bits : List ℕ → Bool
sixteen_bits ds = ltb (table_for ds) 65536

pub pair_lt : (p r f n : ℕ) → pair_table p r f n < 65536
unfolding pair_table table_for sixteen_bits
pair_lt p r f n =
    let u = 2 * p + 1 in
    let d = 2 * p in
    ltb→lt _ _
    (every_within_law (digits 6) sixteen_bits tt (line r u ∷ line f u ∷ line n u ∷ line r d ∷ line f d ∷ line n d ∷ []) (omega arith))

-- the wishes of one line
abbrev pub line_of : Edge → ℕ → Edge
line_of d i = record { rise = line d.rise i; fall = line d.fall i; neither = line d.neither i }

pub line_asked : (t : Event) (d : Edge) (i : ℕ) → line (asked t d) i ≡ asked t (line_of d i)
line_asked Rise d i = refl
line_asked Fall d i = refl
line_asked Neither d i = refl

-- where both lines are accepted, an event's table is covered exactly for a line that asks for the event
reads_back : Event → List ℕ → Bool
reads_back t ds =
    let table = table_for ds in
    not (line_accepted (get_or ds 0 0) (get_or ds 1 0) (get_or ds 2 0) && line_accepted (get_or ds 3 0) (get_or ds 4 0) (get_or ds 5 0))
    || (eqb (covers table (upper_table t)) (asked t (record { rise = get_or ds 0 0; fall = get_or ds 1 0; neither = get_or ds 2 0 }))
    && eqb (covers table (lower_table t)) (asked t (record { rise = get_or ds 3 0; fall = get_or ds 4 0; neither = get_or ds 5 0 })))

reads : (t : Event) → T (every_within (digits 6) (reads_back t))
unfolding reads_back table_for covers
reads Rise = tt
reads Fall = tt
reads Neither = tt

implied : (a b : Bool) (w x y z : ℕ) → a ≡ true → b ≡ true → T (not (a && b) || (eqb w x && eqb y z)) → (w ≡ x) × (y ≡ z)
implied a b w x y z ha hb t =
    let s : T (eqb w x && eqb y z) = rw (ha, hb) at t in
    (eqb→eq w x (and_left (eqb w x) (eqb y z) s), eqb→eq y z (and_right (eqb w x) (eqb y z) s))

pub pair_read : (t : Event) (p : ℕ) (d : Edge)
    → line_accepted (line d.rise (2 * p + 1)) (line d.fall (2 * p + 1)) (line d.neither (2 * p + 1)) ≡ true
    → line_accepted (line d.rise (2 * p)) (line d.fall (2 * p)) (line d.neither (2 * p)) ≡ true
    → (covers (pair_table p d.rise d.fall d.neither) (upper_table t) ≡ line (asked t d) (2 * p + 1))
    × (covers (pair_table p d.rise d.fall d.neither) (lower_table t) ≡ line (asked t d) (2 * p))
unfolding pair_table table_for reads_back
pair_read t p d hu hl =
    let u = line_of d (2 * p + 1) in
    let l = line_of d (2 * p) in
    rw (line_asked t d (2 * p + 1), line_asked t d (2 * p))
    (implied _ _ _ _ _ _ hu hl
    (every_within_law (digits 6) (reads_back t) (reads t) (u.rise ∷ u.fall ∷ u.neither ∷ l.rise ∷ l.fall ∷ l.neither ∷ []) (omega arith)))
