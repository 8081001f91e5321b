-- The slots of two sheets, and which lines they give.
use Rattle.std.specs.Prelude.{List, [], ◌≡◌, ℕ}
use Rattle.kinds.specs.Table.{telling_of}
use Rattle.records.specs.Sections.{label_of, description_of}
use Rattle.sheet.specs.Parsed.{record_with}
use Rattle.findings.specs.declared.Finding.{Finding}
use Rattle.findings.specs.declared.Finding.TheVariants.{New, Gone, Name, Changed}

-- a sheet has a slot in section k [G9, D3.8]
abbrev pub Has : (k slot : ℕ) (sheet : List ℕ) → Type 0
Has k slot sheet = record_with k slot sheet ≡ [] → ⊥

-- both sheets have the slot in this section (*shared slot* is the buyer's term) [G9, D3.5, D3.9]
abbrev pub Shared : (k slot : ℕ) (old new : List ℕ) → Type 0
Shared k slot old new = Has k slot old × Has k slot new

-- the description that a sheet has in a slot [G1, G9]
abbrev pub description_at : (k slot : ℕ) (sheet : List ℕ) → List ℕ
description_at k slot sheet = description_of (record_with k slot sheet)

-- what such a line says of the two records of a slot in section k; no bytes where a sheet has none [N4, N5, N6, N7, B7]
abbrev pub Gives : (k : ℕ) (old new : List ℕ) → Finding → Type 0
Gives k old new New = (old ≡ []) × (new ≡ [] → ⊥)
Gives k old new Gone = (old ≡ [] → ⊥) × (new ≡ [])
Gives k old new Name = (old ≡ [] → ⊥) × (new ≡ [] → ⊥) × (label_of old ≡ label_of new → ⊥)
Gives k old new (Changed telling) =
    (old ≡ [] → ⊥) × (new ≡ [] → ⊥) × (description_of old ≡ description_of new → ⊥) × (telling ≡ telling_of k (description_of old) (description_of new))
