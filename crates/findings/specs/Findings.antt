-- What a notice says: of a slot, of a section, of two sheets.
use Rattle.std.specs.Prelude.{ℕ, zero, suc, ◌+◌, cond, List, [], ◌∷◌, ◌++◌, get_or}
use Rattle.compare.specs.Same.{same}
use Rattle.kinds.specs.Table.{telling_of}
use Rattle.records.specs.Sections.{sections, most_of, label_of, description_of}
use Rattle.records.specs.Records.{find}
use Rattle.sheet.specs.Parsed.{parse}
use Rattle.findings.specs.declared.Finding.{Finding}
use Rattle.findings.specs.declared.Finding.TheVariants.{New, Gone, Name, Changed}
use Rattle.findings.specs.declared.Line.{Line}

-- a line of the notice, before it is text: section, slot and finding [N3]
abbrev pub line : (k slot : ℕ) → Finding → Line
line k slot f = record { section = k; slot = slot; finding = f }

-- one line, unless two parts are the same [N5, N6, B5]
abbrev pub unless_same : (old new : List ℕ) → Line → List Line
unless_same old new l = cond (same old new) [] (l ∷ [])

-- of a shared slot: NAME if the labels are not the same, then the change if the descriptions are not [N5, N6, N7]
unfoldable pub shared_lines : (k slot : ℕ) (old new : List ℕ) → List Line
shared_lines k slot old new =
    unless_same (label_of old) (label_of new) (line k slot Name)
    ++ unless_same (description_of old) (description_of new) (line k slot (Changed (telling_of k (description_of old) (description_of new))))

-- the lines of a slot from its two records, no bytes where a sheet has none: NEW, GONE or a shared slot's [N4, N7, B7]
unfoldable pub slot_lines : (k slot : ℕ) (old new : List ℕ) → List Line
slot_lines k slot [] [] = []
slot_lines k slot [] (y ∷ new) = line k slot New ∷ []
slot_lines k slot (x ∷ old) [] = line k slot Gone ∷ []
slot_lines k slot (x ∷ old) (y ∷ new) = shared_lines k slot (x ∷ old) (y ∷ new)

-- the lines of n slots of section k from `slot` on, each of the records of the two sheets that have the slot [N2, G9]
unfoldable pub lines_from : (k n slot : ℕ) (olds news : List (List ℕ)) → List Line
lines_from k zero slot olds news = []
lines_from k (suc n) slot olds news = slot_lines k slot (find slot olds) (find slot news) ++ lines_from k n (slot + 1) olds news

-- the lines of n sections from section k on, of sheets taken apart into their sections [N2]
unfoldable pub sections_lines : (n k : ℕ) (old new : List (List (List ℕ))) → List Line
sections_lines zero k old new = []
sections_lines (suc n) k old new = lines_from k (most_of k) 0 (get_or old k []) (get_or new k []) ++ sections_lines n (k + 1) old new

-- the lines of the notice of two sheets [N1, N2]
unfoldable pub notice_lines : (old new : List ℕ) → List Line
notice_lines old new = sections_lines sections 0 (parse old) (parse new)
