-- What the model answers for any lent words.
use Rattle.std.specs.Prelude.{Bool, cond, List, ◌≡◌, ℕ, eqb, length}
use Rattle.lut.specs.declared.Answer.{Answer}
use Rattle.lut.specs.declared.Answer.TheVariants.{Hit, Miss, WrongCount}

-- the answer of a run: hit or miss [M1]
abbrev pub hit_or_miss : Bool → Answer
hit_or_miss hit = cond hit Hit Miss

-- the words are run if they are as many as needed; if not, the answer has the count needed [M1, F17, L9]
abbrev pub ran : (needed : ℕ) → List ℕ → Bool → Answer
ran needed words hit = cond (eqb (length words) needed) (hit_or_miss hit) (WrongCount needed)

-- the refusal number for each answer: 17 for a wrong count, 0 for a run [A5, F17]
abbrev pub answer_number : Answer → ℕ
answer_number Hit = 0
answer_number Miss = 0
answer_number (WrongCount needed) = 17

-- its place: the count needed, 0 for a run [A5, F17]
abbrev pub answer_place : Answer → ℕ
answer_place Hit = 0
answer_place Miss = 0
answer_place (WrongCount needed) = needed

-- a hit as a number: 1, and 0 for a miss and for a refused run [A6]
abbrev pub answer_hit : Answer → ℕ
answer_hit Hit = 1
answer_hit Miss = 0
answer_hit (WrongCount needed) = 0

-- the answer in numbers: 17 and the count needed for any other count of words, else 0 and 0 [A5, F17]
pub record RunNumbered (needed : ℕ) (words : List ℕ) (r : Answer) : Type 0 where
  pub number : answer_number r ≡ cond (eqb (length words) needed) 0 17
  pub place : answer_place r ≡ cond (eqb (length words) needed) 0 needed
