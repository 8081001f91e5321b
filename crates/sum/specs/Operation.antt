-- The words of the operations, by code, for each stage.
use Rattle.std.specs.Prelude.{ℕ, suc, Bool, true, cond, ◌≡◌, List, [], ◌∷◌, eqb, length, get_or}
use Rattle.compare.specs.Within.{all_within}

-- the words of a pair's operation [W15, L1]
abbrev pub pair_ops : List ℕ
pair_ops = 0x0000 ∷ 0xFFFF ∷ 0x8000 ∷ 0x7FFF ∷ 0xF888 ∷ 0x0777 ∷ 0x7888 ∷ 0x8777 ∷ 0x8888 ∷ 0xF000 ∷ []

-- the words of a mid's operation [W15, L1]
abbrev pub mid_ops : List ℕ
mid_ops = 0x0000 ∷ 0xFFFF ∷ 0x8000 ∷ 0x7FFF ∷ 0xFFFE ∷ 0x0001 ∷ 0x0116 ∷ 0xFEE9 ∷ 0xEEEE ∷ 0xFFF0 ∷ []

-- the words of the final operation [W15, L1]
abbrev pub final_ops : List ℕ
final_ops = 0x0000 ∷ 0xFFFF ∷ 0x0008 ∷ 0x0007 ∷ 0x000E ∷ 0x0001 ∷ 0x0006 ∷ 0x0009 ∷ 0x000A ∷ 0x000C ∷ []

-- the word of a code; 0 past the table [W15, B4]
abbrev pub op_word : (ops : List ℕ) (code : ℕ) → ℕ
op_word ops code = get_or ops code 0

-- computed: the code of a word, its first place in the table, or the table's length; theorem operations_differ [B6, C5]
unfoldable pub op_code : (ops : List ℕ) (word : ℕ) → ℕ
op_code [] word = 0
op_code (x ∷ ops) word = cond (eqb x word) 0 (suc (op_code ops word))

-- all are codes from 0 to 9: what refusal 10 leaves [S6, F10]
abbrev pub codes_accepted : List ℕ → Bool
codes_accepted codes = all_within 0 9 codes

-- an accepted sum: eleven operation codes [S6, G2]
pub record Accepted (ops : List ℕ) : Type 0 where
  pub eleven : length ops ≡ 11
  pub codes : codes_accepted ops ≡ true
