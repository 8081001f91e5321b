-- What is said of a refusal's number.
use Rattle.std.specs.Prelude.{ℕ, List, [], ◌∷◌, get_or}
use Prim.Native.Char.{code}
use Prim.Native.String.{String, [] as nothing, ◌∷◌ as ◌then◌}

-- a text as bytes, one for each of its characters [A11]
abbrev pub ascii : String → List ℕ
ascii nothing = []
ascii (c then cs) = code c ∷ ascii cs

-- what is said of a number that no refusal has [A12]
abbrev pub no_refusal : String
no_refusal = "not a refusal's number"

-- what each refusal means, by its number; no refusal has 21, 22 or 23 [A12]
abbrev pub meanings : List String
meanings =
    no_refusal
    ∷ "count or record incomplete"
    ∷ "count above the section's most"
    ∷ "slot too big"
    ∷ "slot not rising"
    ∷ "bad label byte"
    ∷ "lower bound is 0"
    ∷ "lower bound above upper"
    ∷ "upper bound too big for the mask's lines"
    ∷ "rise, fall and neither together on a line"
    ∷ "operation above 9"
    ∷ "bytes left over"
    ∷ "output too short (the place is what is needed)"
    ∷ "stream ends inside a command or item"
    ∷ "opcode other than the one due"
    ∷ "address unknown, not rising, or not the one due"
    ∷ "words that no accepted description writes"
    ∷ "wrong word count (the place is the count needed)"
    ∷ "a state's field too big for its place"
    ∷ "label the same as an earlier one of its section"
    ∷ "too many samples (the place is the most)"
    ∷ no_refusal
    ∷ no_refusal
    ∷ no_refusal
    ∷ "state above 15, or count not below its number"
    ∷ []

-- what a number means, as bytes [A12]
unfoldable pub meaning_of : ℕ → List ℕ
meaning_of number = ascii (get_or meanings number no_refusal)
