-- DEMAND 3, sentence by sentence, over the laws of EqualWords, AlterationLines and NoticeLists. A description, a sheet
-- and a notice are lists of bytes; the chain words of a description are what the load commands carry that the compiler
-- writes for it. Assumes nothing.
use Prim.Native.Nat.{ℕ, ◌≤◌, ◌<◌}
use mathlib.Core.Path.{◌≡◌, sym, ap, ◌∙◌}
use mathlib.Core.List.{List, [], map, Memᴰ}
use mathlib.Core.Logic.{◌↔◌}
use native.Mathlib.Omega.{arith}
use lib.Dec.{lit<}
use lib.ListN.{length, get_or, drop}
use lib.Seq.{take-append_seam}
use Rattle.lut.specs.declared.Input.{Input}
use Rattle.lut.specs.declared.Input.TheVariants.{Nothing, Samples, Sources}
use Rattle.lut.specs.Input.{Fits}
use Rattle.lut.specs.Telling.{HitAlike, TellsApart, NoneLess}
use Rattle.peek.specs.Bytes.{Bytes}
use Rattle.buffer.specs.declared.Verdict.TheVariants.{Accepted}
use Rattle.lut.specs.Answer.{answer_hit}
use Rattle.range.specs.Description.{from_bytes}
use Rattle.sum.specs.Model.{run_sum}
use Rattle.state.specs.Description as state
use Rattle.range_telling.specs.Matter.{DroppedWords}
use Rattle.kinds.specs.Table.{TERMS, RANGES, EDGES, SUMS, STATES, sections, shows_of}
use Rattle.lut.specs.declared.Telling.{Telling}
use Rattle.lut.specs.declared.Telling.TheVariants.{Alike, Apart}
use Rattle.records.specs.Sections.{description_of, label_of}
use Rattle.sheet.specs.Reading.{verdict}
use Rattle.sheet.specs.Parsed.{parse, record_with, AcceptedDescription}
use Rattle.sheet.proofs.Descriptions.{description_known}
use Rattle.sheet.proofs.Theorems.{section_count, section_record}
use Rattle.compiler.specs.Chains.{chain_words_of}
use Rattle.compiler.specs.Stream.{stream_of}
use Rattle.compiler.specs.Sent.{SentAt}
use Rattle.compiler.specs.Sent as sent
use Rattle.findings.specs.declared.Line.{Line}
use Rattle.findings.specs.declared.Finding.{Finding}
use Rattle.findings.specs.declared.Finding.TheVariants.{New, Gone, Name, Changed}
use Rattle.findings.specs.Findings.{line, notice_lines}
use Rattle.findings.specs.Shared.{Has, Shared, description_at}
use Rattle.notice.specs.declared.Noticed.{Noticed}
use Rattle.notice.specs.declared.Noticed.TheVariants.{Done}
use Rattle.notice.specs.Text.{render}
use Rattle.notice.specs.Notice.{notice_text, NoticeGiven}
use Rattle.demands.specs.Apart.{SomeInputTells}
use Rattle.demands.specs.Written.{lines_in, written, Stands, AlterationIn}
use Rattle.demands.proofs.EqualWords as words
use Rattle.demands.proofs.NoticeBytes.{Shows}
use Rattle.demands.proofs.Written.{lines_rendered, text_iff}
use Rattle.demands.proofs.Sizes.{room_for_this_notice}
use Rattle.demands.proofs.EdgeLines.{edges_told, descriptions_changed}
use Rattle.demands.proofs.SumLines.{answer_on, shows_answer, same_answers, a_pattern, every_pattern}
use Rattle.demands.proofs.AlterationLines as lines
use Rattle.demands.proofs.NoticeLists as lists

-- a description's chain words are those that stand in the stream of a sheet that has it, where its item stands [G4]
pub chain_words_are_those_sent : (k : ℕ) (d : List ℕ) (a : AcceptedDescription k d)
    (there : SentAt (stream_of (parse a.sheet)) k (sent.record_of a.sheet k a.place))
    → sent.stream_words a.sheet k a.place there ≡ chain_words_of k d
chain_words_are_those_sent k d a there =
    let hk = description_known k d a in
    let l : a.place < length (get_or (parse a.sheet) k []) = rw (section_count a.sheet k hk a.accepted) at a.within in
    there.words
    ∙ ap (λ (r : List ℕ). chain_words_of k (description_of r)) (sym (section_record a.sheet k hk a.accepted a.place l))
    ∙ ap (chain_words_of k) a.has

-- of any two accepted descriptions of one kind

-- equal words of two patterns are equal behaviour, and the other way round [D3.1]
pub equal_pattern_words_iff_alike : (d e : List ℕ) → AcceptedDescription TERMS d → AcceptedDescription TERMS e
    → (chain_words_of TERMS d ≡ chain_words_of TERMS e) ↔ HitAlike (shows_of TERMS d) (shows_of TERMS e)
equal_pattern_words_iff_alike = words.patterns_alike

-- the same of two edges [D3.2]
pub equal_edge_words_iff_alike : (d e : List ℕ) → AcceptedDescription EDGES d → AcceptedDescription EDGES e
    → (chain_words_of EDGES d ≡ chain_words_of EDGES e) ↔ HitAlike (shows_of EDGES d) (shows_of EDGES e)
equal_edge_words_iff_alike = words.edges_alike

-- and two edges that differ are told apart by two samples [D3.12]
pub edges_that_differ_are_told_apart : (d e : List ℕ) → AcceptedDescription EDGES d → AcceptedDescription EDGES e → (d ≡ e → ⊥)
    → (earlier : ℕ) × ((later : ℕ) × TellsApart (shows_of EDGES d) (shows_of EDGES e) (Samples earlier later))
edges_that_differ_are_told_apart d e a b differ = edges_told d e (descriptions_changed EDGES d e a b differ)

-- ranges with the same words behave alike [D3.3]
pub ranges_that_share_words_hit_alike : (d e : List ℕ) → AcceptedDescription RANGES d → AcceptedDescription RANGES e
    → chain_words_of RANGES d ≡ chain_words_of RANGES e → HitAlike (shows_of RANGES d) (shows_of RANGES e)
ranges_that_share_words_hit_alike = words.ranges_alike

-- with the lines dropped that cannot matter, equal words of two ranges are equal behaviour, and the other way round [D3.4]
-- `DroppedWords` says of words that they are a range's with FFFF, in both chains, at each line that cannot matter;
-- there is exactly one such list for each accepted range (EqualWords, `dropped_words_are`).
pub dropped_words_iff_alike : (d e : List ℕ) → AcceptedDescription RANGES d → AcceptedDescription RANGES e → (ws vs : List ℕ)
    → DroppedWords (from_bytes d) ws → DroppedWords (from_bytes e) vs → (ws ≡ vs) ↔ HitAlike (shows_of RANGES d) (shows_of RANGES e)
dropped_words_iff_alike = words.dropped_alike

-- a sum shows on a pattern of the sources what the model answers over the chain words that the compiler writes [D3.11]
pub sum_shows_what_its_words_answer : (d : List ℕ) (s : ℕ) → shows_of SUMS d (Sources s) ≡ answer_hit (run_sum (chain_words_of SUMS d) s)
sum_shows_what_its_words_answer = shows_answer

-- equal words of two states are equal fields, and the other way round [D3.10]
pub equal_state_words_iff_same_fields : (d e : List ℕ) → AcceptedDescription STATES d → AcceptedDescription STATES e
    → (chain_words_of STATES d ≡ chain_words_of STATES e) ↔ (state.from_bytes d ≡ state.from_bytes e)
equal_state_words_iff_same_fields = words.states_same

-- of any two accepted sheets, and the bytes that the call wrote, given room for their notice; which room is enough for
-- every notice: Sizes
module _ (old new : List ℕ) (bo : Bytes old) (bn : Bytes new) (ao : verdict old ≡ Accepted) (an : verdict new ≡ Accepted)
    (out : List ℕ) (r : Noticed) (out' : List ℕ) (enough : length (notice_text old new) ≤ length out) (given : NoticeGiven old new out r out') where
  -- the notice is written whole, and its length is answered [N1, A1]
  pub notice_is_written : (r ≡ Done (length (notice_text old new))) × (written r out' ≡ notice_text old new)
  notice_is_written =
      let text = notice_text old new in
      let done : r ≡ Done (length text) = room_for_this_notice old new out r out' enough given ao an in
      let left = rw done at given.left in
      (done, rw (done, left) (take-append_seam text (drop (length text) out)))

  -- split at its line feeds it is its lines [N1]
  pub lines_are_written : lines_in (written r out') ≡ map render (notice_lines old new)
  unfolding notice_text
  lines_are_written =
      ap lines_in notice_is_written.1 ∙ lines_rendered (notice_lines old new) (lines.all_lines_valid old new bo bn ao an)

  stands_iff : (k slot : ℕ) (f : Finding) → k < sections → Shows f
      → Stands (written r out') k slot f ↔ Memᴰ (line k slot f) (notice_lines old new)
  stands_iff k slot f hk s =
      rw lines_are_written (text_iff (line k slot f) (notice_lines old new) (record { known = hk; shows = s }) (lines.all_lines_valid old new bo bn ao an))

  -- the input that an ALTR line shows tells the two apart [D3.6]
  pub line_shows_one_that_does : (k slot : ℕ) (input : Input) → k < sections → Fits input → Stands (written r out') k slot (Changed (Apart input))
      → TellsApart (shows_of k (description_at k slot old)) (shows_of k (description_at k slot new)) input
  line_shows_one_that_does k slot input hk f i =
      lines.line_shows_one_that_does old new bo bn ao an k slot input hk ((stands_iff k slot (Changed (Apart input)) hk f).0 i)

  -- a shared slot has an ALTR line where some input tells the two apart, and only there [D3.5]
  pub alteration_iff_some_input_tells : (k slot : ℕ) → k < sections → Shared k slot old new
      → AlterationIn (written r out') k slot ↔ SomeInputTells k (description_at k slot old) (description_at k slot new)
  alteration_iff_some_input_tells k slot hk s = (
    (λ a. record { input = a.input; tells = line_shows_one_that_does k slot a.input hk a.fits a.there }),
    (λ w.
        let l = (lines.alteration_iff_some_input_tells old new bo bn ao an k slot hk s).1 w in
        let f = (lines.line_shows_one_that_does old new bo bn ao an k slot l.input hk l.there).fits in
        record { input = l.input; fits = f; there = (stands_iff k slot (Changed (Apart l.input)) hk f).1 l.there }),
  )

  -- a term's line shows the least [D3.7]
  pub pattern_line_shows_the_least : (slot : ℕ) (input : Input) → Fits input → Stands (written r out') TERMS slot (Changed (Apart input))
      → NoneLess (shows_of TERMS (description_at TERMS slot old)) (shows_of TERMS (description_at TERMS slot new)) input
  pattern_line_shows_the_least slot input f i =
      lines.pattern_line_shows_the_least old new bo bn ao an slot input ((stands_iff TERMS slot (Changed (Apart input)) (omega arith) f).0 i)

  -- an edge of a shared slot has an ALTR line where the two differ, and only there [D3.12]
  pub edge_line_iff_different : (slot : ℕ) → Shared EDGES slot old new
      → AlterationIn (written r out') EDGES slot ↔ (description_at EDGES slot old ≡ description_at EDGES slot new → ⊥)
  edge_line_iff_different slot shared =
      let says = alteration_iff_some_input_tells EDGES slot (lit< tt) shared in (
        (λ a q. let w = says.0 a in w.tells.tells (ap (λ (x : List ℕ). shows_of EDGES x w.input) q)),
        (λ differ. says.1 (lines.edge_told old new bo bn ao an slot shared differ)),
      )

  -- so it is never WORD [N10, D3.12]
  pub edge_is_never_word : (slot : ℕ) → Stands (written r out') EDGES slot (Changed Alike) → ⊥
  edge_is_never_word slot i = lines.edge_never_word old new bo bn ao an slot ((stands_iff EDGES slot (Changed Alike) (lit< tt) tt).0 i)

  -- a sum's ALTR line shows a pattern of the sources on which the model, over the chain words that the compiler writes for
  -- the two, does not answer alike [D3.6, D3.11]
  pub sum_line_shows_a_pattern_that_tells : (slot : ℕ) (input : Input) → Fits input → Stands (written r out') SUMS slot (Changed (Apart input))
      → (s : ℕ) × ((s < 65536) × ((input ≡ Sources s) × (answer_on (description_at SUMS slot old) s ≡ answer_on (description_at SUMS slot new) s → ⊥)))
  sum_line_shows_a_pattern_that_tells slot input f i =
      let t = line_shows_one_that_does SUMS slot input (lit< tt) f i in
      let (s, q) = a_pattern _ _ input t in
      let t' = rw q at t in
      (s, (t'.fits, (q, λ a. t'.tells ((same_answers _ _ s).1 a))))

  -- and there is one exactly where some pattern does so [D3.5, D3.11]
  pub sum_line_iff_some_pattern_tells : (slot : ℕ) → Shared SUMS slot old new
      → AlterationIn (written r out') SUMS slot
      ↔ ((s : ℕ) × ((s < 65536) × (answer_on (description_at SUMS slot old) s ≡ answer_on (description_at SUMS slot new) s → ⊥)))
  sum_line_iff_some_pattern_tells slot shared =
      let says = alteration_iff_some_input_tells SUMS slot (lit< tt) shared in (
        (λ a. let g = sum_line_shows_a_pattern_that_tells slot a.input a.fits a.there in (g.0, (g.1.0, g.1.1.1))),
        (λ g.
            says.1
            (record { input = Sources g.0; tells = record { fits = g.1.0; tells = λ q. g.1.1 ((same_answers _ _ g.0).0 q) } })),
      )

  -- a sum's line is WORD where the operations differ and it answers alike on every pattern, and only there [D3.11]
  pub sum_word_iff_no_pattern_tells : (slot : ℕ)
      → Stands (written r out') SUMS slot (Changed Alike)
      ↔ (Shared SUMS slot old new × ((description_at SUMS slot old ≡ description_at SUMS slot new → ⊥)
      × ((s : ℕ) → s < 65536 → answer_on (description_at SUMS slot old) s ≡ answer_on (description_at SUMS slot new) s)))
  sum_word_iff_no_pattern_tells slot =
      let there = stands_iff SUMS slot (Changed Alike) (lit< tt) tt in
      let says = lines.word_iff_alike_on_every_input old new bo bn ao an SUMS slot (lit< tt) in (
        (λ i. let g = says.0 (there.0 i) in ((g.0, g.1), (g.2, λ s h. (same_answers _ _ s).0 (g.3 (Sources s) h)))),
        (λ g. there.1 (says.1 (g.0.0, g.0.1, g.1.0, every_pattern _ _ (λ s h. (same_answers _ _ s).1 (g.1.1 s h))))),
      )

  -- a state's line is ALTR without a sample where a field differs, and only there [D3.10]
  pub state_line_iff_a_field_differs : (slot : ℕ)
      → Stands (written r out') STATES slot (Changed (Apart Nothing))
      ↔ (Shared STATES slot old new × (state.from_bytes (description_at STATES slot old) ≡ state.from_bytes (description_at STATES slot new) → ⊥))
  state_line_iff_a_field_differs slot =
      let there = stands_iff STATES slot (Changed (Apart Nothing)) (lit< tt) tt in
      let says = lines.state_line old new bo bn ao an slot in
      (λ i. says.0 (there.0 i), λ g. there.1 (says.1 g))

  -- and no other line tells of its fields [D3.10]
  pub state_has_no_other_line : (slot : ℕ) (c : Telling) → Shows (Changed c) → Stands (written r out') STATES slot (Changed c) → c ≡ Apart Nothing
  state_has_no_other_line slot c s i = lines.state_line_alone old new bo bn ao an slot c ((stands_iff STATES slot (Changed c) (lit< tt) s).0 i)

  -- a slot has its NAME line where both sheets have it under labels that differ, and only there [N5]
  pub name_line : (k slot : ℕ) → k < sections → Stands (written r out') k slot Name
      ↔ (Has k slot old × Has k slot new × (label_of (record_with k slot old) ≡ label_of (record_with k slot new) → ⊥))
  name_line k slot hk =
      let there = stands_iff k slot Name hk tt in
      let says = lines.name_line old new bo bn ao an k slot hk in
      (λ i. says.0 (there.0 i), λ g. there.1 (says.1 g))

  -- a slot has its WORD line where both sheets have it, the descriptions differ and no input tells them apart, and only
  -- there [N6, N10]
  pub word_line : (k slot : ℕ) → k < sections → Stands (written r out') k slot (Changed Alike)
      ↔ (Has k slot old × Has k slot new × (description_at k slot old ≡ description_at k slot new → ⊥)
      × HitAlike (shows_of k (description_at k slot old)) (shows_of k (description_at k slot new)))
  word_line k slot hk =
      let there = stands_iff k slot (Changed Alike) hk tt in
      let says = lines.word_iff_alike_on_every_input old new bo bn ao an k slot hk in
      (λ i. says.0 (there.0 i), λ g. there.1 (says.1 g))

  -- a slot that one sheet alone has gets NEW or GONE, and no other slot does [D3.8]
  pub new_line : (k slot : ℕ) → k < sections → Stands (written r out') k slot New ↔ ((record_with k slot old ≡ []) × Has k slot new)
  new_line k slot hk =
      let there = stands_iff k slot New hk tt in
      let says = lines.line_iff old new bo bn ao an k slot New hk in
      (λ i. says.0 (there.0 i), λ g. there.1 (says.1 g))

  pub gone_line : (k slot : ℕ) → k < sections → Stands (written r out') k slot Gone ↔ (Has k slot old × (record_with k slot new ≡ []))
  gone_line k slot hk =
      let there = stands_iff k slot Gone hk tt in
      let says = lines.line_iff old new bo bn ao an k slot Gone hk in
      (λ i. says.0 (there.0 i), λ g. there.1 (says.1 g))

  -- so a shared slot has neither [D3.9]
  pub shared_not_new : (k slot : ℕ) → k < sections → Shared k slot old new → Stands (written r out') k slot New → ⊥
  shared_not_new k slot hk s i = s.0 ((new_line k slot hk).0 i).0

  pub shared_not_gone : (k slot : ℕ) → k < sections → Shared k slot old new → Stands (written r out') k slot Gone → ⊥
  shared_not_gone k slot hk s i = s.1 ((gone_line k slot hk).0 i).1

-- besides: no line appears twice
pub no_line_twice : (old new : List ℕ) (i j : ℕ) (z : Line) → i < j → j < length (notice_lines old new)
    → get_or (notice_lines old new) i z ≡ get_or (notice_lines old new) j z → ⊥
no_line_twice = lists.no_line_twice
