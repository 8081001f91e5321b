-- The chains of a stream have rising addresses. Assumes nothing.
use Prim.Native.Nat.{ℕ, zero, suc, ◌+◌, ◌≤◌, ◌<◌}
use mathlib.Core.Path.{◌≡◌, refl, sym, ap, ◌∙◌}
use mathlib.Core.Bool.{Bool, cond, ◌&&◌}
use mathlib.Core.List.{List, [], ◌∷◌, map}
use native.Mathlib.Omega.{arith}
use lib.Dec.{T, ltb, leb, leb→le, lit≤}
use lib.ListN.{length, get_or, drop, length-map}
use lib.Seq.{drop-cons}
use Rattle.lines.proofs.Computed.{every_below, every_below_law}
use Rattle.lines.proofs.Truth.{and_left, and_right}
use Rattle.buffer.proofs.Rising.{Climbs, climbs_from, climbs_rise, map_climbs}
use Rattle.records.specs.Sections.{sections, kind_of, most_of, slot_of, description_of}
use Rattle.sheet.specs.Parsed.{Ordered, WellFormed, render}
use Rattle.sheet.proofs.Parsed.{render_accepted, parse_render}
use Rattle.sheet.proofs.Records.{section_ordered}
use Rattle.kinds.specs.Table.{chain_count, chain_length}
use Rattle.compiler.specs.Items.{address_of, lengths_of, chains_of}
use Rattle.kinds.specs.Table.{sending_order}
use Rattle.compiler.specs.Chains.{Loaded, loaded_at, loaded_in, loaded_by}
use Rattle.compiler.proofs.ItemLaws.{chains_lengths}
use Rattle.kinds.proofs.Addresses.{sent_as, sent_known, address_rises}

-- ---- the addresses of chains

abbrev addresses : List Loaded → List ℕ
addresses cs = map (λ (c : Loaded). c.address) cs

-- of one item
at_climbs : (address : ℕ) (chains : List (List ℕ)) → Climbs address (address + length chains) (addresses (loaded_at address chains))
unfolding loaded_at
at_climbs address [] = let m : address ≤ address + 0 = omega arith in Climbs.done m
at_climbs address (words ∷ more) =
    let e : address + 1 + length more ≡ address + suc (length more) = omega arith in
    let m : address ≤ address = omega arith in
    Climbs.next m (rw e at (at_climbs (address + 1) more))

item_climbs : (k address : ℕ) (d : List ℕ) → Climbs address (address + length (lengths_of k)) (addresses (loaded_at address (chains_of k d)))
item_climbs k address d =
    let e : length (chains_of k d) ≡ length (lengths_of k) = sym (length-map (chains_of k d) length) ∙ ap length (chains_lengths k d) in
    rw e at (at_climbs address (chains_of k d))

-- of a section's records, where f is not above the addresses of the slots that are left, and g is above all
in_climbs : {k floor : ℕ} {rs : List (List ℕ)} (f g : ℕ) → k < sections → f ≤ g
    → ((slot : ℕ) → floor ≤ slot → slot < most_of k → f ≤ address_of k slot)
    → ((slot : ℕ) → slot < most_of k → address_of k slot + length (lengths_of k) ≤ g)
    → Ordered k floor rs → Climbs f g (addresses (loaded_in k rs))
unfolding loaded_in
in_climbs f g hk fg low high Ordered.done = Climbs.done fg
in_climbs {k} {floor} f g hk fg low high (Ordered.next {r = r} {rs = rs} own o) =
    let a = address_of k (slot_of r) in
    map_climbs (λ (c : Loaded). c.address) (loaded_at a (chains_of k (description_of r))) (loaded_in k rs)
    (climbs_from f (low (slot_of r) own.rising own.slot_fits) (item_climbs k a (description_of r)))
    (in_climbs (a + length (lengths_of k)) g hk (high (slot_of r) own.slot_fits) (λ slot l m. address_rises k (slot_of r) slot hk (omega arith) m) high o)

-- ---- from section to section

-- where the addresses of the section sent as number i begin; 80 hex behind the last
abbrev start_of : ℕ → ℕ
start_of i = cond (ltb i (length sending_order)) (address_of (sent_as i) 0) 0x80

abbrev between : (i slot : ℕ) → Bool
between i slot =
    leb (start_of i) (address_of (sent_as i) slot) && leb (address_of (sent_as i) slot + length (lengths_of (sent_as i))) (start_of (suc i))

all_between : (i : ℕ) → i < length sending_order → (slot : ℕ) → slot < most_of (sent_as i) → T (between i slot)
unfolding address_of lengths_of chain_count chain_length kind_of most_of
all_between i hi slot hs =
    every_below_law (most_of (sent_as i)) (between i)
    (every_below_law (length sending_order) (λ i. every_below (most_of (sent_as i)) (between i)) tt i hi) slot hs

starts_rise : (i : ℕ) → i < length sending_order → start_of i ≤ start_of (suc i)
unfolding address_of kind_of
starts_rise i h = leb→le _ _ (every_below_law (length sending_order) (λ i. leb (start_of i) (start_of (suc i))) tt i h)

-- the sections of a well-formed sheet
pub well_ordered : (p : List (List (List ℕ))) → WellFormed p → (k : ℕ) → k < sections → Ordered k 0 (get_or p k [])
well_ordered p w k h = rw (parse_render p w) at (section_ordered (render p) k h (render_accepted p w))

by_climbs : (p : List (List (List ℕ))) → WellFormed p → (n i : ℕ) → i + n ≡ length sending_order
    → Climbs (start_of i) 0x80 (addresses (loaded_by (drop i sending_order) p))
unfolding loaded_by
by_climbs p w zero i e = let all : i ≡ length sending_order = omega arith in rw all (Climbs.done (lit≤ tt))
by_climbs p w (suc n) i e =
    let k = sent_as i in
    let hi : i < length sending_order = omega arith in
    rw (drop-cons sending_order i 0 hi)
    (map_climbs (λ (c : Loaded). c.address) (loaded_in k (get_or p k [])) (loaded_by (drop (suc i) sending_order) p)
    (in_climbs (start_of i) (start_of (suc i)) (sent_known i hi) (starts_rise i hi)
    (λ slot l m. leb→le _ _ (and_left (leb (start_of i) (address_of k slot)) _ (all_between i hi slot m)))
    (λ slot m. leb→le _ _ (and_right (leb (start_of i) (address_of k slot)) _ (all_between i hi slot m)))
    (well_ordered p w k (sent_known i hi)))
    (by_climbs p w n (suc i) (omega arith)))

pub stream_climbs : (p : List (List (List ℕ))) → WellFormed p → (i j : ℕ) → i < j → j < length (loaded_by sending_order p)
    → get_or (map (λ (c : Loaded). c.address) (loaded_by sending_order p)) i 0 < get_or (map (λ (c : Loaded). c.address) (loaded_by sending_order p)) j 0
stream_climbs p w i j h l =
    let cs = loaded_by sending_order p in climbs_rise (by_climbs p w (length sending_order) 0 refl) i j 0 h (rw (length-map cs (λ (c : Loaded). c.address)) l)
