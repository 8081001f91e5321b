-- Reading back: what an accepted description writes is read as that description, and what is read is what an accepted description writes.
-- Assumes nothing.
use Prim.Native.Nat.{ℕ, ◌^◌, ◌<◌}
use mathlib.Core.Path.{◌≡◌, refl, ap, ap₂, ◌∙◌}
use mathlib.Core.Bool.{Bool, true, false, cond, ◌&&◌}
use mathlib.Core.List.{List}
use Rattle.std.proofs.Common.{Option, Some, None}
use Rattle.std.proofs.Math.Bool.{and-false}
use native.Mathlib.Omega.{arith}
use lib.ListN.{length}
use Rattle.compare.specs.Same.{same}
use Rattle.compare.proofs.Compare.{same_refl, same_true, same_lengths}
use Rattle.peek.proofs.FieldLaws.{same₃}
use Rattle.lines.proofs.Truth.{both_true}
use Rattle.lut.specs.Back.{ReadNumbered}
use Rattle.lut.proofs.Numbers.{numbered_read, numbered_refused}
use Rattle.edge.specs.declared.Event.{Event}
use Rattle.edge.specs.declared.Event.TheVariants.{Rise, Fall, Neither}
use Rattle.edge.specs.declared.Edge.{Edge}
use Rattle.edge.specs.Rule.{edge_accepted, Accepted}
use Rattle.edge.specs.Words.{lower_table, upper_table, words_of}
use Rattle.edge.specs.Back.{ReadMeans, wish_of, read_as, read_edge, read_number, read_place}
use Rattle.edge.proofs.WordLaws.{words_length}
use Rattle.edge.proofs.Wish.{wish_read, wish_lt}

-- the one candidate: each event's lines, read off the words
abbrev pub candidate : List ℕ → Edge
candidate ws = record { rise = wish_of Rise ws; fall = wish_of Fall ws; neither = wish_of Neither ws }

pub read_written : (e : Edge) → Accepted e → read_edge (words_of e) ≡ Some e
read_written e h =
    let r = wish_read Rise e h.ok h.rise_fits in
    let f = wish_read Fall e h.ok h.fall_fits in
    let n = wish_read Neither e h.ok h.neither_fits in
    ap (read_as (words_of e)) (same₃ (λ a b c. record { rise = a; fall = b; neither = c }) r f n)
    ∙ ap₂ (λ (a b : Bool). cond (a && b) (Some e) None) h.ok (same_refl (words_of e))

-- words of another count
pub read_short : (ws : List ℕ) → (length ws ≡ 8 → ⊥) → read_edge ws ≡ None
read_short ws h =
    let e = candidate ws in
    let other : same ws (words_of e) ≡ false = same_lengths ws (words_of e) (λ q. h (q ∙ words_length e.rise e.fall e.neither)) in
    rw (other, and-false (edge_accepted e.rise e.fall e.neither))

-- what the answer says is so
pub read_means : (ws : List ℕ) → ReadMeans ws (read_edge ws)
read_means ws = go (edge_accepted e.rise e.fall e.neither && same ws (words_of e)) refl
  where
    e : Edge
    e = candidate ws

    go : (b : Bool) → edge_accepted e.rise e.fall e.neither && same ws (words_of e) ≡ b → ReadMeans ws (cond b (Some e) None)
    go true q =
        let both = both_true (edge_accepted e.rise e.fall e.neither) (same ws (words_of e)) q in
        let w : ws ≡ words_of e = same_true ws (words_of e) both.1 in
        let k : length ws ≡ 8 = ap length w ∙ words_length e.rise e.fall e.neither in
        let fits : (t : Event) → wish_of t ws < 2 ^ 32 = λ t. rw k at (wish_lt (upper_table t) (lower_table t) ws 0 0 (omega arith)) in
        record {
          accepted = record { ok = both.0; rise_fits = fits Rise; fall_fits = fits Fall; neither_fits = fits Neither };
          written = w;
        }
    go false q = λ d w.
        let told : read_edge ws ≡ Some d = ap read_edge w.written ∙ read_written d w.accepted in
        let none : read_edge ws ≡ None = ap (λ (b : Bool). cond b (Some e) None) q in
        cc

-- and an answer that says so has these numbers
pub read_numbered : (ws : List ℕ) (x : Option Edge) → ReadMeans ws x → ReadNumbered Accepted words_of ws (read_number x) (read_place x)
read_numbered ws (Some e) says = numbered_read Accepted words_of ws (e, (says.accepted, says.written))
read_numbered ws None none = numbered_refused Accepted words_of ws (λ x. none x.0 (record { accepted = x.1.0; written = x.1.1 }))

-- as the code meets it
pub read_meets : (ws : List ℕ) (x : Option Edge) → x ≡ read_edge ws
    → record { value : x ≡ read_edge ws; meaning : ReadMeans ws x; read_numbered : ReadNumbered Accepted words_of ws (read_number x) (read_place x) }
read_meets ws x e =
    let says : ReadMeans ws x = rw e (read_means ws) in record { value = e; meaning = says; read_numbered = read_numbered ws x says }
