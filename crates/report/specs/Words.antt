-- The words of the page.
use Rattle.std.specs.Prelude.{ℕ, ◌/◌, ◌%◌, Bool, true, false, cond, List, [], ◌∷◌, ◌++◌, eqb, get_or}
use Prim.Native.String.{String}
use Rattle.lut.specs.declared.Input.{Input}
use Rattle.lut.specs.declared.Input.TheVariants.{Nothing, Sample, Samples, Sources}
use Rattle.lut.specs.declared.Telling.TheVariants.{Alike, Apart}
use Rattle.refusal.specs.Words.{ascii}
use Rattle.findings.specs.declared.Finding.{Finding}
use Rattle.findings.specs.declared.Finding.TheVariants.{New, Gone, Name, Changed}

-- a text and a line feed [V1]
abbrev pub line_of : String → List ℕ
line_of s = ascii s ++ (10 ∷ [])

-- such lines, one behind the other [V1]
abbrev pub lines_of : List String → List ℕ
lines_of [] = []
lines_of (s ∷ ss) = line_of s ++ lines_of ss

-- whether ALTR without an input speaks of a state, by the section's number: terms, ranges, edges, sums, states [V4]
abbrev pub stated : List Bool
stated = false ∷ false ∷ false ∷ false ∷ true ∷ []

-- what ALTR says where no input is shown. Of terms, ranges, edges and sums one is always shown [V4]
abbrev pub altered_bare : ℕ → String
altered_bare k = cond (get_or stated k false) "    Altered: the state's number, else state or flags are others." "    Altered."

-- what ALTR says where an input is shown [V4]
abbrev pub altered_on : String
altered_on = "    Altered: on the input shown, in hex, one of the two hits and the other does not."

-- the sixteen sources of a sum by name, the lowest bit of a pattern first [V5, M6]
abbrev pub sources : List String
sources =
    " TERM 00"
    ∷ " TERM 01"
    ∷ " TERM 02"
    ∷ " TERM 03"
    ∷ " TERM 04"
    ∷ " TERM 05"
    ∷ " TERM 06"
    ∷ " TERM 07"
    ∷ " TERM 08"
    ∷ " TERM 09"
    ∷ " RANG 00"
    ∷ " RANG 01"
    ∷ " EDGE 00"
    ∷ " EDGE 01"
    ∷ " timer 1"
    ∷ " timer 2"
    ∷ []

-- of these names those whose bit is 1 in a pattern [V5]
unfoldable pub names_in : List String → ℕ → List ℕ
names_in [] pattern = []
names_in (name ∷ names) pattern = cond (eqb (pattern % 2) 0) [] (ascii name) ++ names_in names (pattern / 2)

-- the line that names the sources that hit in a pattern, or says that none does [V5]
abbrev pub sources_text : ℕ → List ℕ
sources_text pattern =
    ascii "    sources that hit in it:" ++ cond (eqb pattern 0) (ascii " none") (names_in sources pattern) ++ (10 ∷ [])

-- what ALTR says of a section and what its line shows [V4, V5]
abbrev pub altered_text : (k : ℕ) → Input → List ℕ
altered_text k Nothing = line_of (altered_bare k)
altered_text k (Sample s) = line_of altered_on
altered_text k (Samples earlier later) = line_of altered_on
altered_text k (Sources pattern) = line_of altered_on ++ sources_text pattern

-- what a finding says [V3]
abbrev pub saying_text : (k : ℕ) → Finding → List ℕ
saying_text k New = line_of "    The slot is in the new sheet only."
saying_text k Gone = line_of "    The slot is in the old sheet only."
saying_text k Name = line_of "    The label is another one."
saying_text k (Changed Alike) = line_of "    Written otherwise, but no input tells the two apart: they hit alike."
saying_text k (Changed (Apart input)) = altered_text k input

-- where two sheets do not differ [V2]
abbrev pub unaltered : String
unaltered = "No alteration: no slot differs between the two sheets."

-- what the words mean, and the line to sign [V6]
abbrev pub ending : List String
ending =
    ""
    ∷ "What the words mean (TERM terms, RANG ranges, EDGE edges, SUMS sums, STAT states):"
    ∷ "  NAME  the label differs; what is caught is not altered by that"
    ∷ "  ALTR  what is caught differs; the input that follows tells the two apart"
    ∷ "        (one sample in hex; for an edge the earlier and the later sample;"
    ∷ "        for a sum its sixteen sources, of which every pattern counts);"
    ∷ "        for a state, where no input follows: its number, else state or flags differ"
    ∷ "  WORD  the description differs, but no input tells the two apart"
    ∷ "  NEW   a slot that only the new sheet has"
    ∷ "  GONE  a slot that only the old sheet has"
    ∷ "A slot without a line is the same in both sheets, its label too."
    ∷ ""
    ∷ "Name: ______________________   Date: ____________   Signed: ______________________"
    ∷ []

-- their text [V6]
unfoldable pub ending_text : List ℕ
ending_text = lines_of ending
