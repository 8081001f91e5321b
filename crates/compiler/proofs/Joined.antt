-- The stream as what is sent, item by item and section by section: the commands of its chains, joined. Assumes nothing.
use Prim.Native.Nat.{ℕ, ◌+◌}
use mathlib.Core.Path.{◌≡◌, refl, sym, ap, ◌∙◌}
use mathlib.Core.List.{List, [], ◌∷◌, ◌++◌, append_assoc}
use lib.ListN.{get_or}
use Rattle.command.specs.Command.{chain}
use Rattle.records.specs.Sections.{slot_of, description_of}
use Rattle.kinds.specs.Table.{address_of, chains_of, sending_order}
use Rattle.compiler.specs.Chains.{Loaded, loaded_at, loaded_of, loaded_in, loaded_by, commands_of}
use Rattle.compiler.specs.Stream.{stream_of}

-- chains at neighbouring addresses
unfoldable pub chains_from : (address : ℕ) → List (List ℕ) → List ℕ
chains_from address [] = []
chains_from address (words ∷ more) = chain address words ++ chains_from (address + 1) more

-- the commands of a record of section k: one item
unfoldable pub item : (k : ℕ) (r : List ℕ) → List ℕ
item k r = chains_from (address_of k (slot_of r)) (chains_of k (description_of r))

-- the items of section k's records, in order
unfoldable pub items : (k : ℕ) (rs : List (List ℕ)) → List ℕ
items k [] = []
items k (r ∷ rs) = item k r ++ items k rs

-- the items of some sections, one section after the other
unfoldable pub sent : (order : List ℕ) (p : List (List (List ℕ))) → List ℕ
sent [] p = []
sent (k ∷ ks) p = items k (get_or p k []) ++ sent ks p

commands_append : (cs ds : List Loaded) → commands_of (cs ++ ds) ≡ commands_of cs ++ commands_of ds
unfolding commands_of
commands_append [] ds = refl
commands_append (c ∷ cs) ds =
    ap (λ (bs : List ℕ). chain c.address c.words ++ bs) (commands_append cs ds)
    ∙ sym (append_assoc (chain c.address c.words) (commands_of cs) (commands_of ds))

pub chains_joined : (address : ℕ) (chains : List (List ℕ)) → chains_from address chains ≡ commands_of (loaded_at address chains)
unfolding chains_from loaded_at commands_of
chains_joined address [] = refl
chains_joined address (words ∷ more) = ap (λ (bs : List ℕ). chain address words ++ bs) (chains_joined (address + 1) more)

pub item_joined : (k : ℕ) (r : List ℕ) → item k r ≡ commands_of (loaded_of k r)
unfolding item
item_joined k r = chains_joined (address_of k (slot_of r)) (chains_of k (description_of r))

pub items_joined : (k : ℕ) (rs : List (List ℕ)) → items k rs ≡ commands_of (loaded_in k rs)
unfolding items loaded_in commands_of
items_joined k [] = refl
items_joined k (r ∷ rs) = rw (commands_append (loaded_of k r) (loaded_in k rs), ← items_joined k rs, ← item_joined k r)

sent_joined : (order : List ℕ) (p : List (List (List ℕ))) → sent order p ≡ commands_of (loaded_by order p)
unfolding sent loaded_by commands_of
sent_joined [] p = refl
sent_joined (k ∷ ks) p = rw (commands_append (loaded_in k (get_or p k [])) (loaded_by ks p), ← items_joined k (get_or p k []), ← sent_joined ks p)

-- the stream is what is sent
pub stream_sent : (p : List (List (List ℕ))) → stream_of p ≡ sent sending_order p
unfolding stream_of
stream_sent p = sym (sent_joined sending_order p)
