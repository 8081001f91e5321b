-- How the least pattern is found without asking all of them. Each mid sees eight of the sixteen sources, and no source
-- is seen by both. So it is enough to know, of each half, the least of its 256 patterns for each of the four classes
-- that its old and its new mid can answer, and to ask both final tables for the sixteen pairs of classes.
-- A procedure, not a meaning: nothing here has to be believed. What it answers is pinned by `least_pattern`:
-- found_is_least in proofs/Found [B6].
use Rattle.std.specs.Prelude.{ℕ, ◌+◌, ◌*◌, ◌/◌, ◌%◌, min, cond, List, [], ◌∷◌, eqb, get_or}
use Rattle.lut.specs.Table.{answer_at, high, low}
use Rattle.sum.specs.Model.{inputs_of}
use Rattle.sum_telling.specs.declared.half.Half.{Half}
use Rattle.sum_telling.specs.Telling.{patterns, first_from}

-- computed: the half of these three [B6, W14]
abbrev pub half : (first second mid : ℕ) → Half
half first second mid = record { first = first; second = second; mid = mid }

-- computed: the first half of a chain's words [B6, W14]
abbrev pub first_half : List ℕ → Half
first_half w = half (get_or w 5 0) (get_or w 4 0) (low (get_or w 1 0))

-- computed: the last half [B6, W14]
abbrev pub last_half : List ℕ → Half
last_half w = half (get_or w 3 0) (get_or w 2 0) (high (get_or w 1 0))

-- computed: the sources of a half's pairs in the half's own pattern, which has its eight sources in rising order
-- [B6, M6]
abbrev pub half_pairs : List ℕ
half_pairs = 0 ∷ 1 ∷ 2 ∷ 5 ∷ 3 ∷ 6 ∷ 4 ∷ 7 ∷ []

-- computed: how many patterns eight sources have [B6, M6]
abbrev pub half_patterns : ℕ
half_patterns = 256

-- computed: what a half's mid answers for its pattern [B6, M8]
unfoldable pub mid_at : Half → (pattern : ℕ) → ℕ
mid_at h n = answer_at h.mid (inputs_of half_pairs h.first h.second n)

-- computed: the class of a half's pattern: what the old mid answers + 2 * what the new one answers [B6, N9]
abbrev pub class_at : (old new : Half) (pattern : ℕ) → ℕ
class_at h g n = mid_at h n + 2 * mid_at g n

-- computed: the least of a half's patterns with this class; 256 if there is none [B6, N9]
unfoldable pub least_with : (old new : Half) (class : ℕ) → ℕ
least_with h g class = first_from (λ n. eqb (class_at h g n) class) half_patterns 0

-- computed: the same for all four classes [B6, N9]
unfoldable pub half_least : (old new : Half) → List ℕ
half_least h g = least_with h g 0 ∷ least_with h g 1 ∷ least_with h g 2 ∷ least_with h g 3 ∷ []

-- computed: four numbers below 65,536 as one, the first the lowest [B6, N9]
abbrev pub packed : List ℕ → ℕ
packed l = get_or l 0 0 + get_or l 1 0 * 65536 + get_or l 2 0 * 4294967296 + get_or l 3 0 * 281474976710656

-- computed: the sources 0 to 4, 10, 12 and 14 of a pattern of the first half; no pattern for 256 [B6, M6]
unfoldable pub first_sources : ℕ → ℕ
first_sources n = n % 32 + n / 32 % 2 * 1024 + n / 64 % 2 * 4096 + n / 128 % 2 * 16384 + n / 256 * patterns

-- computed: the sources 5 to 9, 11, 13 and 15 of a pattern of the last half [B6, M6]
unfoldable pub last_sources : ℕ → ℕ
last_sources n = n % 32 * 32 + n / 32 % 2 * 2048 + n / 64 % 2 * 8192 + n / 128 % 2 * 32768 + n / 256 * patterns

-- computed: the sources of a class of each half, if the final tables differ there; no pattern if they do not [B6, N9]
abbrev pub candidate : (old new first last : ℕ) (c e : ℕ) → ℕ
candidate t u f l c e = f + l + cond (eqb (answer_at t (c % 2 + 2 * (e % 2))) (answer_at u (c / 2 + 2 * (e / 2)))) patterns 0

-- computed: the least of them for one class of the first half [B6, N9]
unfoldable pub row_least : (old new class first : ℕ) (last : List ℕ) → ℕ
row_least t u c f l =
    min (min (candidate t u f (get_or l 0 0) c 0) (candidate t u f (get_or l 1 0) c 1))
    (min (candidate t u f (get_or l 2 0) c 2) (candidate t u f (get_or l 3 0) c 3))

-- computed: the least of all sixteen, of the sources of both halves by class [B6, N9]
unfoldable pub final_least : (old new : ℕ) (first last : List ℕ) → ℕ
final_least t u f l =
    min (min (row_least t u 0 (get_or f 0 0) l) (row_least t u 1 (get_or f 1 0) l)) (min (row_least t u 2 (get_or f 2 0) l) (row_least t u 3 (get_or f 3 0) l))

-- computed: the sources of four patterns of a half [B6, M6]
abbrev pub each_of : (ℕ → ℕ) → List ℕ → List ℕ
each_of sources l = sources (get_or l 0 0) ∷ sources (get_or l 1 0) ∷ sources (get_or l 2 0) ∷ sources (get_or l 3 0) ∷ []

-- computed: the least pattern on which the model does not answer alike over two chains of words [B6, N9]
unfoldable pub found_least : (v w : List ℕ) → ℕ
found_least v w =
    final_least (low (get_or v 0 0)) (low (get_or w 0 0)) (each_of first_sources (half_least (first_half v) (first_half w)))
    (each_of last_sources (half_least (last_half v) (last_half w)))
