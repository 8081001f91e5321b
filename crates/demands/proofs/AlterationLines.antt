-- Which lines the notice of two accepted sheets has for a slot, and that its bytes determine its lines. Assumes
-- nothing.
use Prim.Native.Nat.{ℕ, ◌<◌}
use mathlib.Core.Path.{◌≡◌, refl, sym, ap, subst, ◌∙◌}
use mathlib.Core.List.{List, Memᴰ}
use mathlib.Core.Logic.{◌↔◌}
use native.Mathlib.Omega.{arith}
use lib.Dec.{lit<}
use Rattle.lut.specs.declared.Input.{Input}
use Rattle.lut.specs.declared.Input.TheVariants.{Nothing, Samples}
use Rattle.lut.specs.Telling.{HitAlike, TellsApart, Says, NoneLess}
use Rattle.peek.specs.Bytes.{Bytes}
use Rattle.buffer.specs.declared.Verdict.TheVariants.{Accepted}
use Rattle.state.specs.Description as state
use Rattle.state.proofs.Theorems.{bytes_inverse}
use Rattle.kinds.specs.Table.{TERMS, EDGES, STATES, kind_of, description_size, description_fault, shows_of, telling_of}
use Rattle.lut.specs.declared.Telling.{Telling}
use Rattle.lut.specs.declared.Telling.TheVariants.{Alike, Apart}
use Rattle.kinds.proofs.Ways as ways
use Rattle.kinds.proofs.Ways.{telling_says, alike_exactly}
use Rattle.records.specs.Sections.{sections, most_of, label_of}
use Rattle.sheet.specs.Reading.{verdict}
use Rattle.sheet.specs.Parsed.{record_with}
use Rattle.sheet.proofs.Slots.{description_bytes, record_sound, description_whole, has_below}
use Rattle.findings.specs.declared.Finding.{Finding}
use Rattle.findings.specs.declared.Finding.TheVariants.{New, Gone, Name, Changed}
use Rattle.findings.specs.Findings.{line, notice_lines}
use Rattle.findings.specs.Shared.{Has, Shared, description_at, Gives}
use Rattle.findings.proofs.Members as members
use Rattle.notice.specs.Notice.{notice_text}
use Rattle.demands.specs.Apart.{SomeInputTells}
use Rattle.demands.proofs.Tellings.{one_shown, least}
use Rattle.demands.proofs.EdgeLines.{edges_told}
use Rattle.demands.proofs.NoticeBytes.{Shows, AllValid, each_valid, equal_bytes_equal_lines}

-- an alteration line, the buyer's term: one with ALTR, and the input that it shows [G10]
pub record AlterationLine (old new : List ℕ) (k slot : ℕ) : Type 0 where
  pub input : Input
  pub there : Memᴰ (line k slot (Changed (Apart input))) (notice_lines old new)

module _ (old new : List ℕ) (bo : Bytes old) (bn : Bytes new) (ao : verdict old ≡ Accepted) (an : verdict new ≡ Accepted) where
  -- a line is there exactly if what it says of its slot holds
  pub line_iff : (k slot : ℕ) (f : Finding) → k < sections
      → Memᴰ (line k slot f) (notice_lines old new) ↔ Gives k (record_with k slot old) (record_with k slot new) f
  line_iff k slot f hk = (
    (λ i. ((members.line_iff old new k slot f).0 i).2),
    (λ g. (members.line_iff old new k slot f).1 (hk, below f g, g)),
  )
    where
      below : (f : Finding) → Gives k (record_with k slot old) (record_with k slot new) f → slot < most_of k
      below New g = has_below new bn an k slot hk g.1
      below Gone g = has_below old bo ao k slot hk g.0
      below Name g = has_below old bo ao k slot hk g.0
      below (Changed c) g = has_below old bo ao k slot hk g.0

  -- NAME where the labels are not the same, and only there [N5]
  pub name_line : (k slot : ℕ) → k < sections
      → Memᴰ (line k slot Name) (notice_lines old new)
      ↔ (Has k slot old × Has k slot new × (label_of (record_with k slot old) ≡ label_of (record_with k slot new) → ⊥))
  name_line k slot = line_iff k slot Name

  -- the two descriptions of a shared slot, where they differ
  changed : (k slot : ℕ) → k < sections → Shared k slot old new → (description_at k slot old ≡ description_at k slot new → ⊥)
      → ways.Changed (kind_of k) (description_at k slot old) (description_at k slot new)
  unfolding description_size description_fault
  changed k slot hk s differ =
      record {
        old_bytes = description_bytes old bo ao k slot hk;
        new_bytes = description_bytes new bn an k slot hk;
        old_whole = description_whole old bo ao k slot hk s.0;
        new_whole = description_whole new bn an k slot hk s.1;
        old_faultless = (record_sound old bo ao k slot hk s.0).description_fits;
        new_faultless = (record_sound new bn an k slot hk s.1).description_fits;
        differ = differ;
      }

  -- what is found of them says what it should
  says : (k slot : ℕ) → k < sections → Shared k slot old new → (description_at k slot old ≡ description_at k slot new → ⊥)
      → let d = description_at k slot old in let e = description_at k slot new in Says (shows_of k d) (shows_of k e) (telling_of k d e)
  says k slot hk s differ = telling_says k hk _ _ (changed k slot hk s differ)

  -- the input that it shows tells the two apart [D3.6]
  pub line_shows_one_that_does : (k slot : ℕ) (input : Input) → k < sections → Memᴰ (line k slot (Changed (Apart input))) (notice_lines old new)
      → TellsApart (shows_of k (description_at k slot old)) (shows_of k (description_at k slot new)) input
  line_shows_one_that_does k slot input hk i =
      let g = (line_iff k slot (Changed (Apart input)) hk).0 i in
      subst (Says (shows_of k (description_at k slot old)) (shows_of k (description_at k slot new))) (sym g.3) (says k slot hk (g.0, g.1) g.2)

  -- ALTR exactly where some input tells the two apart, in every section
  pub alteration_iff_some_input_tells : (k slot : ℕ) → k < sections → Shared k slot old new
      → AlterationLine old new k slot ↔ SomeInputTells k (description_at k slot old) (description_at k slot new)
  alteration_iff_some_input_tells k slot hk s = (
    (λ a. record { input = a.input; tells = line_shows_one_that_does k slot a.input hk a.there }),
    (λ w.
        let differ : description_at k slot old ≡ description_at k slot new → ⊥ = λ p. w.tells.tells (ap (λ (x : List ℕ). shows_of k x w.input) p) in
        let (i, q) = one_shown k _ _ (says k slot hk s differ) w in
        let there = (line_iff k slot (Changed (Apart i)) hk).1 (s.0, s.1, differ, sym q) in
        record { input = i; there = there }),
  )

  -- WORD where no input tells, and only there [N6]
  pub word_iff_alike_on_every_input : (k slot : ℕ) → k < sections
      → Memᴰ (line k slot (Changed Alike)) (notice_lines old new)
      ↔ (Has k slot old × Has k slot new × (description_at k slot old ≡ description_at k slot new → ⊥)
      × HitAlike (shows_of k (description_at k slot old)) (shows_of k (description_at k slot new)))
  word_iff_alike_on_every_input k slot hk = (
    (λ i. let g = (line_iff k slot (Changed Alike) hk).0 i in (g.0, g.1, g.2, (alike (g.0, g.1) g.2).0 (sym g.3))),
    (λ g. (line_iff k slot (Changed Alike) hk).1 (g.0, g.1, g.2, sym ((alike (g.0, g.1) g.2).1 g.3))),
  )
    where
      alike : Shared k slot old new → (description_at k slot old ≡ description_at k slot new → ⊥)
          → let d = description_at k slot old in let e = description_at k slot new in (telling_of k d e ≡ Alike) ↔ HitAlike (shows_of k d) (shows_of k e)
      alike s differ = alike_exactly k hk _ _ (changed k slot hk s differ)

  -- two samples tell the edges of a shared slot apart where they differ, and no edge's line is WORD [N10, D3.12]
  pub edge_told : (slot : ℕ) → Shared EDGES slot old new → (description_at EDGES slot old ≡ description_at EDGES slot new → ⊥)
      → SomeInputTells EDGES (description_at EDGES slot old) (description_at EDGES slot new)
  edge_told slot s differ = let t = edges_told _ _ (changed EDGES slot (lit< tt) s differ) in record { input = Samples t.0 t.1.0; tells = t.1.1 }

  pub edge_never_word : (slot : ℕ) → Memᴰ (line EDGES slot (Changed Alike)) (notice_lines old new) → ⊥
  edge_never_word slot i =
      let g = (word_iff_alike_on_every_input EDGES slot (lit< tt)).0 i in
      let t = edge_told slot (g.0, g.1) g.2 in
      t.tells.tells (g.3 t.input t.tells.fits)

  -- a state's line is ALTR where a field differs, shows nothing, and is never another [N6, N8, N10]
  pub state_line : (slot : ℕ)
      → Memᴰ (line STATES slot (Changed (Apart Nothing))) (notice_lines old new)
      ↔ (Shared STATES slot old new × (state.from_bytes (description_at STATES slot old) ≡ state.from_bytes (description_at STATES slot new) → ⊥))
  unfolding telling_of kind_of description_size
  state_line slot = (
    (λ i.
        let g = (line_iff STATES slot (Changed (Apart Nothing)) (lit< tt)).0 i in
        ((g.0, g.1), (λ q. g.2 (fields_all g.0 g.1 q)))),
    (λ g. (line_iff STATES slot (Changed (Apart Nothing)) (lit< tt)).1 (g.0.0, g.0.1, (λ p. g.1 (ap state.from_bytes p)), refl)),
  )
    where
      fields_all : Has STATES slot old → Has STATES slot new → state.from_bytes (description_at STATES slot old) ≡ state.from_bytes (description_at STATES slot new)
          → description_at STATES slot old ≡ description_at STATES slot new
      fields_all ho hn q =
          sym (bytes_inverse _ (description_bytes old bo ao STATES slot (lit< tt)) (description_whole old bo ao STATES slot (lit< tt) ho))
          ∙ ap state.to_bytes q
          ∙ bytes_inverse _ (description_bytes new bn an STATES slot (lit< tt)) (description_whole new bn an STATES slot (lit< tt) hn)

  pub state_line_alone : (slot : ℕ) (c : Telling) → Memᴰ (line STATES slot (Changed c)) (notice_lines old new) → c ≡ Apart Nothing
  unfolding telling_of kind_of
  state_line_alone slot c i = ((line_iff STATES slot (Changed c) (lit< tt)).0 i).3

  -- a term's is the least [D3.7]
  pub pattern_line_shows_the_least : (slot : ℕ) (input : Input) → Memᴰ (line TERMS slot (Changed (Apart input))) (notice_lines old new)
      → NoneLess (shows_of TERMS (description_at TERMS slot old)) (shows_of TERMS (description_at TERMS slot new)) input
  pattern_line_shows_the_least slot input i =
      let hk : TERMS < sections = omega arith in
      let g = (line_iff TERMS slot (Changed (Apart input)) hk).0 i in
      least _ _ input (description_bytes old bo ao TERMS slot hk) (description_bytes new bn an TERMS slot hk)
      (record_sound old bo ao TERMS slot hk g.0).description_fits (record_sound new bn an TERMS slot hk g.1).description_fits (sym g.3)

  -- what the lines show can be written, so the bytes determine them
  finding_shows : (k slot : ℕ) (f : Finding) → k < sections → Memᴰ (line k slot f) (notice_lines old new) → Shows f
  finding_shows k slot New hk i = tt
  finding_shows k slot Gone hk i = tt
  finding_shows k slot Name hk i = tt
  finding_shows k slot (Changed Alike) hk i = tt
  finding_shows k slot (Changed (Apart input)) hk i = (line_shows_one_that_does k slot input hk i).fits

  pub all_lines_valid : AllValid (notice_lines old new)
  all_lines_valid =
      each_valid (notice_lines old new)
      (λ l i.
      let hk = ((members.line_iff old new l.section l.slot l.finding).0 i).0 in
      record { known = hk; shows = finding_shows l.section l.slot l.finding hk i })

-- the bytes of a notice determine its lines
pub bytes_determine_the_lines : (old new old' new' : List ℕ) → Bytes old → Bytes new → Bytes old' → Bytes new'
    → verdict old ≡ Accepted → verdict new ≡ Accepted → verdict old' ≡ Accepted → verdict new' ≡ Accepted
    → notice_text old new ≡ notice_text old' new' → notice_lines old new ≡ notice_lines old' new'
unfolding notice_text
bytes_determine_the_lines old new old' new' bo bn bo' bn' ao an ao' an' e =
    equal_bytes_equal_lines _ _ (all_lines_valid old new bo bn ao an) (all_lines_valid old' new' bo' bn' ao' an') e
