-- What the loop of `check_records` knows of the records that it has passed. Assumes nothing.
use Rattle.std.proofs.Common.{ℕ, ◌+◌, ◌-◌, ◌*◌, ◌≤◌, ◌<◌, Bool, ◌||◌, eqb, List, [], ◌∷◌, map, length, take, drop, length-take, length-drop, ◌≡◌, refl, sym, ap, ◌∙◌, add-zero, arith}
use Rattle.std.proofs.Math.Nat.{zero-mul, sub-zero}
use Rattle.std.proofs.lemmas.Bool.{eqb-false}
use Rattle.buffer.specs.declared.Verdict.TheVariants.{Accepted, Refused}
use Rattle.compare.specs.Same.{same}
use Rattle.records.specs.Sections.{record_size, slot_of, label_of}
use Rattle.records.specs.Records.{records_from}
use Rattle.records.proofs.Bounds.{one_more}
use Rattle.sheet.specs.Reading.{among, least_slot, record_fault, next_record, records_verdict}
use Rattle.sheet.specs.Repeats.{FirstMet}
use Rattle.sheet.proofs.Faults.{record_short}
use Rattle.sheet.proofs.Labels.{met_by, met_more}
use Rattle.sheet.proofs.Reading.{next_faultless, records_end, records_refuse, records_next, next_fits}

-- where record i is
abbrev pub place : (k start i : ℕ) → ℕ
place k start i = start + i * record_size k

-- the record as the loop cuts it out
pub sliced : (k start i size : ℕ) (s : List ℕ) → size ≡ record_size k
    → take (start + i * size + size - (start + i * size)) (drop (start + i * size) s) ≡ next_record k (drop (place k start i) s)
sliced k start i size s e =
    let n : place k start i + record_size k - place k start i ≡ record_size k = omega arith in rw (e, n)

-- `done` of `count` records of section k were without fault, the latest first in `before`; the next slot has to be at
-- least `floor`
pub record Behind (k count start : ℕ) (s : List ℕ) (floor done : ℕ) : Type 0 where
  pub before : List (List ℕ)
  pub low : least_slot before ≡ floor
  pub labels : (label : List ℕ) → among label (map label_of before) ≡ met_by label k start done s
  pub fits : place k start done ≤ length s
  pub left :
      records_verdict k count [] start (drop start s)
      ≡ records_verdict k (count - done) before (place k start done) (drop (place k start done) s)

module _ (k count start : ℕ) (s : List ℕ) where
  pub behind_start : start ≤ length s → Behind k count start s 0 0
  unfolding records_from
  behind_start h =
      record {
        before = [];
        low = refl;
        labels = λ label. refl;
        fits = omega (arith, zero-mul (record_size k));
        left = rw (zero-mul (record_size k), add-zero start, sub-zero count);
      }

  module _ (floor done : ℕ) (b : Behind k count start s floor done) where
    -- whether an earlier record has the next one's label, by the first of which that holds
    pub behind_met : (r : ℕ) → FirstMet k start count s r → done ≤ r → done < count → place k start done + record_size k ≤ length s
        → among (label_of (next_record k (drop (place k start done) s))) (map label_of b.before) ≡ eqb done r
    behind_met r first l h fits = b.labels _ ∙ first done l h (omega (arith, one_more done (record_size k)))

    -- its fault, as `record_fault` answers
    pub behind_fault : (r : ℕ) → FirstMet k start count s r → done ≤ r → done < count → place k start done + record_size k ≤ length s
        → (number : ℕ) (bytes : List ℕ) → bytes ≡ next_record k (drop (place k start done) s)
        → ((before : List (List ℕ)) → least_slot before ≡ floor → among (label_of bytes) (map label_of before) ≡ eqb done r → number ≡ record_fault k before bytes)
        → number ≡ record_fault k b.before (next_record k (drop (place k start done) s))
    behind_fault r first l h fits number bytes is answer =
        answer b.before b.low (rw is (behind_met r first l h fits)) ∙ ap (record_fault k b.before) is

    pub behind_end : count ≤ done → records_verdict k count [] start (drop start s) ≡ Accepted
    behind_end h =
        let z : count - done ≡ 0 = omega arith in
        b.left ∙ rw z (records_end k b.before (place k start done) (drop (place k start done) s))

    module _ (h : done < count) where
      pub behind_refuse : (record_fault k b.before (next_record k (drop (place k start done) s)) ≡ 0 → ⊥)
          → records_verdict k count [] start (drop start s)
          ≡ Refused (record_fault k b.before (next_record k (drop (place k start done) s))) (place k start done)
      behind_refuse n = b.left ∙ records_refuse k b.before (place k start done) s (count - done) (omega arith) n

      pub behind_short : length s < place k start done + record_size k
          → records_verdict k count [] start (drop start s) ≡ Refused 1 (place k start done)
      behind_short l =
          let rest = drop (place k start done) s in
          let one = record_short k b.before (next_record k rest) (omega (arith, length-take (record_size k) rest, length-drop (place k start done) s)) in
          behind_refuse (λ z. let q : 1 ≡ 0 = sym one ∙ z in absurd (omega arith)) ∙ ap (λ n. Refused n (place k start done)) one

      module _ (ok : record_fault k b.before (next_record k (drop (place k start done) s)) ≡ 0) where
        next_there : place k start done + record_size k ≤ length s
        next_there = next_fits k b.before (place k start done) s ok

        -- it has a label of its own, so the first that has not comes later
        pub behind_below : (r : ℕ) → FirstMet k start count s r → done ≤ r → done + 1 ≤ r
        behind_below r first l =
            let own = (next_faultless k b.before (drop (place k start done) s) ok).1 in
            let n : done ≡ r → ⊥ = eqb-false done r (sym (behind_met r first l h next_there) ∙ own) in
            omega arith

        pub behind_next : Behind k count start s (slot_of (next_record k (drop (place k start done) s)) + 1) (done + 1)
        unfolding among
        behind_next =
            let next = next_record k (drop (place k start done) s) in
            let further : place k start done + record_size k ≡ place k start (done + 1) = omega (arith, one_more done (record_size k)) in
            let m : count - done - 1 ≡ count - (done + 1) = omega arith in
            record {
              before = next ∷ b.before;
              low = refl;
              labels = λ label. ap (λ (found : Bool). same label (label_of next) || found) (b.labels label) ∙ sym (met_more k start done s label);
              fits = rw further at next_there;
              left = rw (m, further) at (b.left ∙ records_next k b.before (place k start done) s (count - done) (omega arith) ok);
            }
