-- A run: where it stands, the step of one sample, and a whole run of samples. Over any machine, so that nothing here
-- knows how sources and sums are worked out.
use Rattle.std.specs.Prelude.{ℕ, ◌+◌, ◌*◌, ◌/◌, ◌%◌, Bool, true, false, cond, not, ◌&&◌, ◌||◌, List, [], ◌∷◌, Option, None, Some, eqb, ltb}
use Rattle.lines.specs.Line.{line}
use Rattle.programme.specs.Machine.{Machine}
use Rattle.bench.specs.declared.Run.{Run}
use Rattle.bench.specs.declared.Moved.{Moved}

-- how often the hit sum must match, bits 0 to 19 of a state's word; 0 counts as 1 [R5, S15]
unfoldable pub number_of : (word : ℕ) → ℕ
number_of w = cond (eqb (w % 0x100000) 0) 1 (w % 0x100000)

-- the state that the else sum leads to, bits 20 to 23 [R5, S15]
abbrev pub else_of : (word : ℕ) → ℕ
else_of w = w / 0x100000 % 16

-- whether the flag last is set, bit 31 [R5, S15]
abbrev pub is_last : (word : ℕ) → Bool
is_last w = eqb (line w 31) 1

-- a fresh run [R1]
abbrev pub fresh : Run
fresh = record { state = 0; count = 0; earlier = None; ended = false }

-- the word before a sample; the first sample of all is its own [R3]
abbrev pub earlier_of : Option ℕ → (sample : ℕ) → ℕ
earlier_of None sample = sample
earlier_of (Some w) sample = w

-- the slot of a state's hit sum, which is part 0 [R4, S5]
abbrev pub hit_slot : (state : ℕ) → ℕ
hit_slot state = 3 * state + 0

-- the slot of its else sum, part 1 [R4, S5]
abbrev pub else_slot : (state : ℕ) → ℕ
else_slot state = 3 * state + 1

-- the slot of its capture sum, part 2 [R4, S5]
abbrev pub capture_slot : (state : ℕ) → ℕ
capture_slot state = 3 * state + 2

-- the hit sum matched: it counts; at its number the state is complete, and the run goes to the next state or ends, the
-- count cleared [R7, R9]
unfoldable pub after_hit : (word state count : ℕ) → Moved
after_hit w state count =
    cond (ltb (count + 1) (number_of w))
    (record { state = state; count = count + 1; ended = false })
    (cond (is_last w || eqb state 15)
    (record { state = state; count = 0; ended = true })
    (record { state = state + 1; count = 0; ended = false }))

-- where a state goes on sources: by the hit sum; where that does not match by the else sum, the count cleared; else it
-- stays [R7, R8]
unfoldable pub moved : Machine → (state count sources : ℕ) → Moved
moved m state count sources =
    cond (m.matches (hit_slot state) sources)
    (after_hit (m.word state) state count)
    (cond (m.matches (else_slot state) sources)
    (record { state = else_of (m.word state); count = 0; ended = false })
    (record { state = state; count = count; ended = false }))

-- the sources on a sample [R2, R3]
abbrev pub sources_on : Machine → Run → (sample : ℕ) → ℕ
sources_on m r sample = m.sources (earlier_of r.earlier sample) sample

-- where a run stands that has looked at a sample: the sample is the next one's earlier word [R3]
abbrev pub standing : Moved → (sample : ℕ) → Run
standing v sample = record { state = v.state; count = v.count; earlier = Some sample; ended = v.ended }

-- the step of a run that looks at a sample [R7, R8]
unfoldable pub step : Machine → Run → (sample : ℕ) → Run
step m r sample = standing (moved m r.state r.count (sources_on m r sample)) sample

-- whether capture takes the sample, by the state before the step [R6]
unfoldable pub takes : Machine → Run → (sample : ℕ) → Bool
takes m r sample = m.matches (capture_slot r.state) (sources_on m r sample)

-- the step of any run: one that has ended looks at nothing and stays as it is [R9]
abbrev pub next : Machine → Run → (sample : ℕ) → Run
next m r sample = cond r.ended r (step m r sample)

-- whether any run takes the sample: one that has ended takes none [R6, R9]
abbrev pub captures : Machine → Run → (sample : ℕ) → Bool
captures m r sample = not r.ended && takes m r sample

-- the run after all samples, which is handed on [R10]
unfoldable pub handed_on : Machine → Run → (samples : List ℕ) → Run
handed_on m r [] = r
handed_on m r (x ∷ xs) = handed_on m (next m r x) xs

-- the samples that capture takes, in their order [R6, R10]
unfoldable pub taken : Machine → Run → (samples : List ℕ) → List ℕ
taken m r [] = []
taken m r (x ∷ xs) = cond (captures m r x) (x ∷ taken m (next m r x) xs) (taken m (next m r x) xs)

-- a run may be handed in: its state is 0 to 15 and its count below that state's number; what refusal 24 leaves [F24]
unfoldable pub start_accepted : Machine → Run → Bool
start_accepted m r = ltb r.state 16 && ltb r.count (number_of (m.word r.state))

-- the words of one list stand in the other, in their order [D4.5]
pub data Subsequence : List ℕ → List ℕ → Type 0 where
  done : Subsequence [] []
  kept : (x : ℕ) {xs ys : List ℕ} → Subsequence xs ys → Subsequence (x ∷ xs) (x ∷ ys)
  left : (x : ℕ) {xs ys : List ℕ} → Subsequence xs ys → Subsequence xs (x ∷ ys)
