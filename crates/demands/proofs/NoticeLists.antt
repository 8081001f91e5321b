-- The lines of a notice, one after the other: they rise by section and slot, so no line comes twice. Assumes nothing.
use Prim.Native.Nat.{ℕ, zero, suc, ◌+◌, ◌*◌, ◌≤◌, ◌<◌}
use mathlib.Core.Path.{◌≡◌, ap}
use mathlib.Core.Bool.{Bool, true, false, cond}
use mathlib.Core.List.{List, [], ◌∷◌, map}
use native.Mathlib.Omega.{arith}
use lib.ListN.{length, get_or, length-map, get_or-map}
use Rattle.compare.specs.Same.{same}
use Rattle.buffer.proofs.Rising.{Climbs, climbs_from, climbs_below, climbs_rise, map_climbs}
use Rattle.kinds.specs.Table.{telling_of}
use Rattle.kinds.proofs.Rows.{most_byte}
use Rattle.records.specs.Sections.{sections, most_of, label_of, description_of}
use Rattle.records.specs.Records.{find}
use Rattle.sheet.specs.Parsed.{parse}
use Rattle.findings.specs.declared.Finding.{Finding}
use Rattle.findings.specs.declared.Finding.TheVariants.{New, Gone, Name, Changed}
use Rattle.findings.specs.declared.Line.{Line}
use Rattle.findings.specs.Findings.{line, unless_same, shared_lines, slot_lines, lines_from, sections_lines, notice_lines}

-- ---- the order of the lines: by section, slot (a byte), and NAME before what is said of the description

rank : Finding → ℕ
rank New = 1
rank Gone = 1
rank Name = 0
rank (Changed c) = 1

pub key : Line → ℕ
key l = (l.section * 256 + l.slot) * 2 + rank l.finding

-- the keys of some lines rise strictly, from `low` on and below `high`
abbrev pub Rising : (low high : ℕ) → List Line → Type 0
Rising low high ls = Climbs low high (map key ls)

-- a line or none, with this key
rising_maybe : (b : Bool) (l : Line) (low high : ℕ) → low ≤ key l → key l < high → Rising low high (cond b [] (l ∷ []))
rising_maybe true l low high h g = let m : low ≤ high = omega arith in Climbs.done m
rising_maybe false l low high h g = let m : key l + 1 ≤ high = omega arith in Climbs.next h (Climbs.done m)

-- other bounds, no tighter
rising_within : {low high : ℕ} (lower higher : ℕ) (ls : List Line) → lower ≤ low → high ≤ higher → Rising low high ls → Rising lower higher ls
rising_within lower higher ls l h r = climbs_from lower l (climbs_below higher h r)

slot_rising : (k slot : ℕ) (old new : List ℕ) → Rising ((k * 256 + slot) * 2) ((k * 256 + slot + 1) * 2) (slot_lines k slot old new)
unfolding slot_lines shared_lines key rank
slot_rising k slot [] [] = let m : (k * 256 + slot) * 2 ≤ (k * 256 + slot + 1) * 2 = omega arith in Climbs.done m
slot_rising k slot [] (y ∷ new) =
    rising_maybe false (line k slot New) ((k * 256 + slot) * 2) ((k * 256 + slot + 1) * 2) (omega arith) (omega arith)
slot_rising k slot (x ∷ old) [] =
    rising_maybe false (line k slot Gone) ((k * 256 + slot) * 2) ((k * 256 + slot + 1) * 2) (omega arith) (omega arith)
slot_rising k slot (x ∷ old) (y ∷ new) =
    let d = description_of (x ∷ old) in
    let e = description_of (y ∷ new) in
    let at = (k * 256 + slot) * 2 in
    map_climbs key (unless_same (label_of (x ∷ old)) (label_of (y ∷ new)) (line k slot Name)) (unless_same d e (line k slot (Changed (telling_of k d e))))
    (rising_maybe (same (label_of (x ∷ old)) (label_of (y ∷ new))) (line k slot Name) at (at + 1) (omega arith) (omega arith))
    (rising_maybe (same d e) (line k slot (Changed (telling_of k d e))) (at + 1) ((k * 256 + slot + 1) * 2) (omega arith) (omega arith))

lines_rising : (k n slot : ℕ) (os ns : List (List ℕ)) → Rising ((k * 256 + slot) * 2) ((k * 256 + (slot + n)) * 2) (lines_from k n slot os ns)
unfolding lines_from
lines_rising k zero slot os ns = let m : (k * 256 + slot) * 2 ≤ (k * 256 + (slot + 0)) * 2 = omega arith in Climbs.done m
lines_rising k (suc n) slot os ns =
    let rest = lines_from k n (slot + 1) os ns in
    let low : (k * 256 + slot + 1) * 2 ≤ (k * 256 + (slot + 1)) * 2 = omega arith in
    let high : (k * 256 + (slot + 1 + n)) * 2 ≤ (k * 256 + (slot + suc n)) * 2 = omega arith in
    map_climbs key (slot_lines k slot (find slot os) (find slot ns)) rest (slot_rising k slot (find slot os) (find slot ns))
    (rising_within ((k * 256 + slot + 1) * 2) ((k * 256 + (slot + suc n)) * 2) rest low high (lines_rising k n (slot + 1) os ns))

sections_rising : (n k : ℕ) (p q : List (List (List ℕ))) → Rising (k * 512) ((k + n) * 512) (sections_lines n k p q)
unfolding sections_lines
sections_rising zero k p q = let m : k * 512 ≤ (k + 0) * 512 = omega arith in Climbs.done m
sections_rising (suc n) k p q =
    let now = lines_from k (most_of k) 0 (get_or p k []) (get_or q k []) in
    let rest = sections_lines n (k + 1) p q in
    let low : k * 512 ≤ (k * 256 + 0) * 2 = omega arith in
    let high : (k * 256 + (0 + most_of k)) * 2 ≤ (k + 1) * 512 = omega (arith, most_byte k) in
    let end : (k + 1 + n) * 512 ≤ (k + suc n) * 512 = omega arith in
    map_climbs key now rest (rising_within (k * 512) ((k + 1) * 512) now low high (lines_rising k (most_of k) 0 (get_or p k []) (get_or q k [])))
    (climbs_below ((k + suc n) * 512) end (sections_rising n (k + 1) p q))

-- 01: by section and then slot
pub notice_rising : (old new : List ℕ) → Rising 0 (sections * 512) (notice_lines old new)
unfolding notice_lines
notice_rising old new = sections_rising sections 0 (parse old) (parse new)

-- no line appears twice: two places of the notice hold two lines
pub no_line_twice : (old new : List ℕ) (i j : ℕ) (z : Line) → i < j → j < length (notice_lines old new)
    → get_or (notice_lines old new) i z ≡ get_or (notice_lines old new) j z → ⊥
no_line_twice old new i j z a b e =
    let ls = notice_lines old new in
    let above = climbs_rise (notice_rising old new) i j (key z) a (rw (length-map ls key) b) in
    omega (arith, above, get_or-map key ls i z, get_or-map key ls j z, ap key e)
