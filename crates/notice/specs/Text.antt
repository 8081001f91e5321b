-- The text of a notice line.
use Rattle.std.specs.Prelude.{ℕ, zero, suc, ◌+◌, ◌/◌, ◌%◌, ◌^◌, cond, List, [], ◌∷◌, ◌++◌, ltb}
use Rattle.lut.specs.declared.Input.{Input}
use Rattle.lut.specs.declared.Input.TheVariants.{Nothing, Sample, Samples, Sources}
use Rattle.lut.specs.declared.Telling.{Telling}
use Rattle.lut.specs.declared.Telling.TheVariants.{Alike, Apart}
use Rattle.kinds.specs.Table.{name_of}
use Rattle.records.specs.Sections.{slot_digits}
use Rattle.findings.specs.declared.Finding.{Finding}
use Rattle.findings.specs.declared.Finding.TheVariants.{New, Gone, Name, Changed}
use Rattle.findings.specs.declared.Line.{Line}

-- a hex digit, capitals: '0' is 48, 'A' is 65 [N8]
abbrev pub hex_digit : ℕ → ℕ
hex_digit d = cond (ltb d 10) (48 + d) (55 + d)

-- the lowest n hex digits of a number, the highest first [N8]
abbrev pub hex : (n x : ℕ) → List ℕ
hex zero x = []
hex (suc n) x = hex_digit (x / 16 ^ n % 16) ∷ hex n x

-- a space and n hex digits [N8]
abbrev pub number_text : (n x : ℕ) → List ℕ
number_text n x = 32 ∷ hex n x

-- the slot in two decimal digits between two spaces [N3]
abbrev pub slot_text : ℕ → List ℕ
slot_text s = 32 ∷ (slot_digits s ++ (32 ∷ []))

-- what ALTR shows: samples in eight hex digits, the earlier first; the sixteen sources in four; nothing for a state
-- [N8, G8]
abbrev pub input_text : Input → List ℕ
input_text Nothing = []
input_text (Sample s) = number_text 8 s
input_text (Samples earlier later) = number_text 8 earlier ++ number_text 8 later
input_text (Sources s) = number_text 4 s

-- what is said of two descriptions that differ, and a line feed: WORD where they are alike, else ALTR and what tells them
-- apart; with ALTR it is an *alteration line*, the buyer's term [N6, N8, G10]
abbrev pub change_text : Telling → List ℕ
change_text Alike = 87 ∷ 79 ∷ 82 ∷ 68 ∷ 10 ∷ []
change_text (Apart input) = (65 ∷ 76 ∷ 84 ∷ 82 ∷ []) ++ input_text input ++ (10 ∷ [])

-- a verdict and a line feed [N3, N4, N5, N6, L2]
abbrev pub finding_text : Finding → List ℕ
finding_text New = 78 ∷ 69 ∷ 87 ∷ 10 ∷ []
finding_text Gone = 71 ∷ 79 ∷ 78 ∷ 69 ∷ 10 ∷ []
finding_text Name = 78 ∷ 65 ∷ 77 ∷ 69 ∷ 10 ∷ []
finding_text (Changed telling) = change_text telling

-- a line: the section's four letters, the slot, the verdict [N1, N3]
unfoldable pub render : Line → List ℕ
render l = name_of l.section ++ slot_text l.slot ++ finding_text l.finding

-- lines one behind the other, nothing above or between them [N1]
unfoldable pub render_all : List Line → List ℕ
render_all [] = []
render_all (l ∷ ls) = render l ++ render_all ls
