-- Each record's item stands in the stream, and the chain words read there are those of its description. Assumes nothing.
use Prim.Native.Nat.{ℕ, suc, ◌+◌, ◌<◌}
use mathlib.Core.Path.{◌≡◌, refl, sym, ap, ◌∙◌}
use mathlib.Core.List.{List, [], ◌∷◌, ◌++◌, append_assoc, map, flatten}
use native.Mathlib.Omega.{arith}
use lib.ListN.{length, get_or, take, drop, length-append}
use lib.Seq.{split_at, take_at, drop-append_seam}
use Rattle.command.specs.Command.{chain, Words}
use Rattle.command.proofs.RoundTrip.{chain_words_law, chain_past}
use Rattle.records.specs.Sections.{sections, slot_of, description_of}
use Rattle.compiler.specs.Items.{address_of, lengths_of, chains_of, item_size}
use Rattle.compiler.proofs.Joined.{chains_from, item}
use Rattle.compiler.specs.Stream.{stream_of}
use Rattle.kinds.specs.Table.{sending_order}
use Rattle.compiler.proofs.Joined.{items, item_joined, sent, stream_sent}
use Rattle.compiler.specs.Chains.{chain_words_of, words_read}
use Rattle.compiler.specs.Sent.{SentAt}
use Rattle.compiler.proofs.ItemLaws.{chains_lengths, words_fit, item_length}
use Rattle.kinds.proofs.Addresses.{place_of, place_below, place_sent}

-- ---- the words of an item are read as they were written, whatever stands behind it

chains_read : (address : ℕ) (chains : List (List ℕ)) (rest : List ℕ) → ((i : ℕ) → Words (get_or chains i []))
    → words_read (map length chains) (chains_from address chains ++ rest) ≡ flatten chains
unfolding chains_from words_read flatten
chains_read address [] rest fit = refl
chains_read address (words ∷ more) rest fit =
    let later = chains_from (address + 1) more ++ rest in
    rw (
      append_assoc (chain address words) (chains_from (address + 1) more) rest,
      chain_words_law address words later (length words) refl (fit 0),
      chain_past address words later (length words) refl,
      chains_read (address + 1) more rest (λ i. fit (suc i)),
    )

pub item_read : (k : ℕ) (r rest : List ℕ) → words_read (lengths_of k) (item k r ++ rest) ≡ chain_words_of k (description_of r)
unfolding item
item_read k r rest =
    let d = description_of r in
    rw (← chains_lengths k d) (chains_read (address_of k (slot_of r)) (chains_of k d) rest (words_fit k d))

-- ---- where the item of a record stands

items_append : (k : ℕ) (rs ss : List (List ℕ)) → items k (rs ++ ss) ≡ items k rs ++ items k ss
unfolding items
items_append k [] ss = refl
items_append k (r ∷ rs) ss = rw (items_append k rs ss) (sym (append_assoc (item k r) (items k rs) (items k ss)))

sent_append : (xs ys : List ℕ) (p : List (List (List ℕ))) → sent (xs ++ ys) p ≡ sent xs p ++ sent ys p
unfolding sent
sent_append [] ys p = refl
sent_append (k ∷ xs) ys p = rw (sent_append xs ys p) (sym (append_assoc (items k (get_or p k [])) (sent xs p) (sent ys p)))

sent_behind : (before stream after : List ℕ) (k : ℕ) (r : List ℕ) → stream ≡ before ++ (item k r ++ after) → SentAt stream k r
sent_behind before stream after k r e =
    let rest : drop (length before) stream ≡ item k r ++ after = rw e (drop-append_seam before (item k r ++ after)) in
    record {
      place = length before;
      within =
          rw e (omega (arith, length-append before (item k r ++ after), length-append (item k r) after, item_length k r));
      there = rw rest (take_at (item k r) after (item_size k) (item_length k r) ∙ item_joined k r);
      words = rw rest (item_read k r after);
    }

regroup : (x a i b y : List ℕ) → x ++ ((a ++ (i ++ b)) ++ y) ≡ (x ++ a) ++ (i ++ (b ++ y))
regroup x a i b y = simp append_assoc

pub record_sent : (p : List (List (List ℕ))) (k : ℕ) → k < sections → (i : ℕ) → i < length (get_or p k [])
    → SentAt (stream_of p) k (get_or (get_or p k []) i [])
unfolding items sent
record_sent p k h i l =
    let rs = get_or p k [] in
    let r = get_or rs i [] in
    let j = place_of k in
    let first : List ℕ = sent (take j sending_order) p in
    let last : List ℕ = sent (drop (suc j) sending_order) p in
    let order : sending_order ≡ take j sending_order ++ (k ∷ drop (suc j) sending_order) =
    split_at sending_order j 0 (place_below k h) ∙ ap (λ (n : ℕ). take j sending_order ++ (n ∷ drop (suc j) sending_order)) (place_sent k h) in
    let whole : stream_of p ≡ first ++ (items k rs ++ last) =
    stream_sent p ∙ ap (λ (o : List ℕ). sent o p) order ∙ sent_append (take j sending_order) (k ∷ drop (suc j) sending_order) p in
    let part : items k rs ≡ items k (take i rs) ++ (item k r ++ items k (drop (suc i) rs)) =
    ap (items k) (split_at rs i [] l) ∙ items_append k (take i rs) (r ∷ drop (suc i) rs) in
    sent_behind (first ++ items k (take i rs)) (stream_of p) (items k (drop (suc i) rs) ++ last) k r
    (whole ∙ ap (λ (bs : List ℕ). first ++ (bs ++ last)) part ∙ regroup first (items k (take i rs)) (item k r) (items k (drop (suc i) rs)) last)
