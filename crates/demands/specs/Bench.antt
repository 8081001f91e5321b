-- The examples that the rules mark as proved in one table.
use Rattle.std.specs.Prelude.{Bool, true, false, cond, ◌&&◌, List, [], ◌∷◌, ◌++◌, ℕ, ◌-◌, eqb, replicate}
use Rattle.lines.specs.Gather.{gathered}
use Rattle.compare.specs.Same.{same}
use Rattle.buffer.specs.Verdict.{verdict_number}
use Rattle.lut.specs.Answer.{answer_hit}
use Rattle.term.specs.Words.{term_words}
use Rattle.range.specs.Words.{sent_words}
use Rattle.range.specs.Model.{run_range}
use Rattle.edge.specs.Words.{edge_words}
use Rattle.records.specs.Sections.{sections, label_size, field_bytes}
use Rattle.sheet.specs.Parsed.{render}
use Rattle.sheet.specs.Reading.{verdict}
use Rattle.notice.specs.Notice.{notice_text}

-- what an example says [K5]
pub data Example : Type 0 where
  -- these are the words of a pattern, of a range, of an edge
  pattern : (target mask : ℕ) → List ℕ → Example
  range : (lower upper mask : ℕ) → List ℕ → Example
  edge : (rise fall neither : ℕ) → List ℕ → Example
  -- this range's words, run in the model, hit the sample, or miss it
  hits : (lower upper mask sample : ℕ) → Bool → Example
  -- this is what the sample gathers to
  gathers : (mask sample number : ℕ) → Example
  -- a sheet with this range is refused with this number, 0 if it is accepted
  refused : (lower upper mask number : ℕ) → Example
  -- of the one range to the other the notice says WORD
  word : (lower upper mask lower' upper' mask' : ℕ) → Example

-- a sheet with one range, in slot 0, and a blank label [E6, E7]
unfoldable pub sheet_with : (lower upper mask : ℕ) → List ℕ
sheet_with lower upper mask = render ([] ∷ ((0 ∷ (replicate label_size 0x20 ++ field_bytes (lower ∷ upper ∷ mask ∷ []))) ∷ []) ∷ replicate (sections - 2) [])

-- the notice `RANG 00 WORD` [E7]
abbrev pub word_line : List ℕ
word_line = 82 ∷ 65 ∷ 78 ∷ 71 ∷ 32 ∷ 48 ∷ 48 ∷ 32 ∷ 87 ∷ 79 ∷ 82 ∷ 68 ∷ 10 ∷ []

-- whether what an example says is so, by the definitions of the calls: words that are sent, words that are run, a sheet
-- that is judged, a notice that is written [K5]
unfoldable pub holds : Example → Bool
holds (pattern target mask words) = same (term_words target mask) words
holds (range lower upper mask words) = same (sent_words lower upper mask) words
holds (edge rise fall neither words) = same (edge_words rise fall neither) words
holds (hits lower upper mask sample hit) = eqb (answer_hit (run_range (sent_words lower upper mask) sample)) (cond hit 1 0)
holds (gathers mask sample number) = eqb (gathered 32 sample mask) number
holds (refused lower upper mask number) = eqb (verdict_number (verdict (sheet_with lower upper mask))) number
holds (word lower upper mask lower' upper' mask') = same (notice_text (sheet_with lower upper mask) (sheet_with lower' upper' mask')) word_line

-- whether all of them are so [K5]
unfoldable pub all_hold : List Example → Bool
all_hold [] = true
all_hold (e ∷ es) = holds e && all_hold es

-- so many words 0xFFFFFFFF, and then these [E1, E3]
abbrev pub after : (n : ℕ) → List ℕ → List ℕ
after n words = replicate n 0xFFFFFFFF ++ words

-- the table [E1, E2, E3, E4, E5, E6, E7, E8, E13, K5]
unfoldable pub bench : List Example
bench =
    pattern 5 0xF (after 3 (0xFFFF0020 ∷ []))
    ∷ pattern 5 0 (after 4 [])
    ∷ range 3 9 0xF (after 14 (0x55555555 ∷ 0xAAAA5555 ∷ after 14 (0xAAAA5555 ∷ 0x5555AAAA ∷ [])))
    ∷ hits 3 9 0xF 2 false
    ∷ hits 3 9 0xF 0xA false
    ∷ hits 3 9 0xF 3 true
    ∷ hits 3 9 0xF 9 true
    ∷ hits 3 9 0xF 0x13 true
    ∷ gathers 0x8A80 0x0880 5
    ∷ refused 0 1 1 6
    ∷ refused 1 1 1 0
    ∷ refused 1 2 1 8
    ∷ word 2 3 3 1 1 2
    ∷ edge 1 0 0 (0 ∷ 0 ∷ 0 ∷ 0 ∷ 0 ∷ 0 ∷ 0 ∷ 0x00000A0A ∷ [])
    ∷ edge 0x80000000 0 0 (0x00CC0000 ∷ 0 ∷ 0 ∷ 0 ∷ 0 ∷ 0 ∷ 0 ∷ 0 ∷ [])
    ∷ edge 1 0 1 (0 ∷ 0 ∷ 0 ∷ 0 ∷ 0 ∷ 0 ∷ 0 ∷ 0x0000AFAF ∷ [])
    ∷ edge 0 0x80000000 0x80000000 (0xFF330000 ∷ 0 ∷ 0 ∷ 0 ∷ 0 ∷ 0 ∷ 0 ∷ 0 ∷ [])
    ∷ []
