-- Two accepted edges whose bytes differ are told apart, and nothing but two samples tells them. Assumes nothing.
use Prim.Native.Nat.{ℕ}
use mathlib.Core.Path.{◌≡◌, refl}
use mathlib.Core.List.{List}
use lib.Dec.{lit<}
use Rattle.lut.specs.declared.Input.{Input}
use Rattle.lut.specs.declared.Input.TheVariants.{Nothing, Sample, Samples, Sources}
use Rattle.lut.specs.declared.Telling.{Telling}
use Rattle.lut.specs.declared.Telling.TheVariants.{Alike, Apart}
use Rattle.lut.specs.Telling.{HitAlike, TellsApart, Says}
use Rattle.lut.proofs.Asked.{alike_in_numbers}
use Rattle.edge.specs.Description.{from_bytes}
use Rattle.edge.specs.Rule.{hit}
use Rattle.edge.proofs.Ways.{alike_bytes}
use Rattle.kinds.specs.Table.{EDGES, kind_of, description_size, description_fault, shows_of, telling_of}
use Rattle.kinds.proofs.Ways.{Changed, telling_says}
use Rattle.sheet.specs.Parsed.{AcceptedDescription}
use Rattle.sheet.proofs.Descriptions.{description_sound, description_bytes}

-- two samples tell the two apart
abbrev pub TwoSamplesTell : (d e : List ℕ) → Type 0
TwoSamplesTell d e = (earlier : ℕ) × ((later : ℕ) × TellsApart (shows_of EDGES d) (shows_of EDGES e) (Samples earlier later))

two_samples : (d e : List ℕ) (i : Input) → TellsApart (shows_of EDGES d) (shows_of EDGES e) i → TwoSamplesTell d e
unfolding shows_of kind_of
two_samples d e Nothing t = absurd (t.tells refl)
two_samples d e (Sample s) t = absurd (t.tells refl)
two_samples d e (Samples earlier later) t = (earlier, (later, t))
two_samples d e (Sources s) t = absurd (t.tells refl)

not_alike : (d e : List ℕ) → Changed (kind_of EDGES) d e → HitAlike (shows_of EDGES d) (shows_of EDGES e) → ⊥
unfolding shows_of kind_of
not_alike d e c alike =
    c.differ
    (alike_bytes d e c.old_bytes c.new_bytes c.old_whole c.new_whole c.old_faultless c.new_faultless
    ((alike_in_numbers (hit (from_bytes d)) (hit (from_bytes e))).0 alike))

-- edges that differ are told apart
pub edges_told : (d e : List ℕ) → Changed (kind_of EDGES) d e → TwoSamplesTell d e
edges_told d e c = go (telling_of EDGES d e) (telling_says EDGES (lit< tt) d e c)
  where
    go : (t : Telling) → Says (shows_of EDGES d) (shows_of EDGES e) t → TwoSamplesTell d e
    go Alike says = absurd (not_alike d e c says)
    go (Apart i) says = two_samples d e i says

-- two descriptions of one section that differ, each in some accepted sheet
pub descriptions_changed : (k : ℕ) (d e : List ℕ) → AcceptedDescription k d → AcceptedDescription k e → (d ≡ e → ⊥) → Changed (kind_of k) d e
unfolding description_size description_fault
descriptions_changed k d e a b differ =
    record {
      old_bytes = description_bytes k d a;
      new_bytes = description_bytes k e b;
      old_whole = (description_sound k d a).0;
      new_whole = (description_sound k e b).0;
      old_faultless = (description_sound k d a).1;
      new_faultless = (description_sound k e b).1;
      differ = differ;
    }
