-- `find_record` meets its contract: the first chunk that has the slot, or no bytes. Assumes nothing.
use Rattle.std.proofs.Common.{ℕ, List, Bor, ap, ◌∙◌, eqb, rules}
use Rattle.std.proofs.lemmas.Iterator.Search.{find_from_yields_List}
use Rattle.records.specs.Sections.{slot_of}
use Rattle.findings.proofs.Chunks.{chunked, found_is}
use Rattle.findings.proofs.record.find_record.Goals as goal

pub returns : goal.returns
returns c =
    let found = find_from_yields_List (λ r. eqb (slot_of r) c.args.slot) _ _ c.find.result c.find.ensures.ran
    (chunked c.args.section c.args.part.now (c.chunks_exact.ensures.size ∙ c.record_size.ensures) c.chunks_exact.ensures.rest) (λ x b q k. search rules) in
    ap (λ (x : Bor (List ℕ)). x.now) c.unwrap_or.ensures ∙ found_is c.args.slot _ c.find.result _ found (search rules)
