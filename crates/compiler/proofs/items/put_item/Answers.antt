-- `compiler::put_item` meets its contract, for every section alike. Assumes nothing.
use Prim.Native.Nat.{ℕ}
use mathlib.Core.Path.{◌≡◌, sym, ap, ◌∙◌}
use mathlib.Core.List.{List}
use native.Mathlib.Omega.{arith}
use lib.ListN.{length, drop}
use Rattle.buffer.specs.Room.{bytes, fill, Delivered}
use Rattle.buffer.specs.declared.Outcome.{Outcome}
use Rattle.buffer.proofs.Writing.{delivers, filled}
use Rattle.records.specs.Sections.{slot_of, description_of}
use Rattle.kinds.specs.declared.Row.{Row}
use Rattle.kinds.specs.Table.{words_of, address_of}
use Rattle.kinds.proofs.Rows.{chains_few, chain_short}
use Rattle.kinds.proofs.Ways.{words_few}
use Rattle.compiler.proofs.Joined.{chains_joined, item_joined}
use Rattle.compiler.proofs.ItemLaws.{section_known, item_sent, room_fits}
use Rattle.kinds.proofs.Addresses.{address_small}
use Rattle.compiler.proofs.items.put_item.Goals as goal

-- the words stand at the start of the room
words_there : (k : ℕ) (d e room₀ room : List ℕ) (r : Outcome) → e ≡ d → length room₀ ≡ 32 → Delivered (bytes (words_of k e)) room₀ r room
    → room ≡ fill (words_of k d) room₀
words_there k d e room₀ room r same l w =
    filled (words_of k e) room₀ r room (rw l (words_few k e)) w ∙ ap (λ (x : List ℕ). fill (words_of k x) room₀) same

pub put_chains-requires : goal.put_chains-requires
put_chains-requires c =
    let r : List ℕ = c.args.rec.now in
    let k : ℕ = c.args.section in
    let row = c.row_of in
    let address = c.address-address.ensures ∙ ap (address_of k) c.slot.ensures in
    let chains = ap (λ (x : Row). x.chains) row.ensures in
    let each = ap (λ (x : Row). x.each) row.ensures in
    let words = words_there k (description_of r) _ _ _ _ c.description.ensures c.requires.1 c.put_words.ensures in
    let more : List ℕ = drop (length (words_of k (description_of r))) c.args.words.now in (
      omega (arith, address, address_small k (slot_of r) (section_known k (slot_of r) c.requires.0.slot_fits) c.requires.0.slot_fits),
      omega (arith, chains, chains_few k),
      omega (arith, each, chain_short k),
      room_fits k (description_of r) _ _ _ more chains each words,
    )

pub returns : goal.returns
returns c =
    let r : List ℕ = c.args.rec.now in
    let k : ℕ = c.args.section in
    let row = c.row_of in
    let address = c.address-address.ensures ∙ ap (address_of k) c.slot.ensures in
    let chains = ap (λ (x : Row). x.chains) row.ensures in
    let each = ap (λ (x : Row). x.each) row.ensures in
    let words = words_there k (description_of r) _ _ _ _ c.description.ensures c.requires.1 c.put_words.ensures in
    let more : List ℕ = drop (length (words_of k (description_of r))) c.args.words.now in
    let sent = item_sent k r _ _ _ _ more address chains each words in
    delivers (sym (chains_joined _ _) ∙ sent ∙ item_joined k r) c.put_chains.ensures
