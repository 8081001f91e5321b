-- What is answered of two descriptions of any section says what it should, in the contract's words. Assumes nothing.
use Rattle.std.proofs.Common.{◌≡◌, ℕ, List, get_or, Fits, w8, sym, subst, arith}
use Rattle.lut.specs.Telling.{Says}
use Rattle.lut.specs.declared.Telling.{Telling}
use Rattle.peek.specs.Bytes.{Bytes}
use Rattle.kinds.specs.Table.{kind_of, description_size, description_fault, shows_of, telling_of}
use Rattle.kinds.specs.Told.{Differ}
use Rattle.kinds.proofs.Ways.{Changed, faultless_iff_accepted, telling_says}

changed : (k : ℕ) (d e : List ℕ) → Bytes d → Bytes e → Differ k d e → Changed (kind_of k) d e
unfolding description_size description_fault
changed k d e bd be c =
    record {
      old_bytes = bd;
      new_bytes = be;
      old_whole = c.old_whole;
      new_whole = c.new_whole;
      old_faultless = (faultless_iff_accepted k c.known d bd c.old_whole).1 c.old_accepted;
      new_faultless = (faultless_iff_accepted k c.known e be c.new_whole).1 c.new_accepted;
      differ = c.differ;
    }

-- an answer that is the definition's has its meaning [D3.5, D3.6]
pub told : (k : ℕ) (d e : List ℕ) (r : Telling) → Bytes d → Bytes e → r ≡ telling_of k d e
    → (r ≡ telling_of k d e) × (Differ k d e → Says (shows_of k d) (shows_of k e) r)
told k d e r bd be q =
    (q, λ c. subst (Says (shows_of k d) (shows_of k e)) (sym q) (telling_says k c.known d e (changed k d e bd be c)))

-- the same over lent bytes
pub told_means : (k : ℕ) (d e : List ℕ) (r : Telling) → ((i : ℕ) → Fits w8 (get_or d i 0)) → ((i : ℕ) → Fits w8 (get_or e i 0)) → r ≡ telling_of k d e
    → Differ k d e → Says (shows_of k d) (shows_of k e) r
told_means k d e r fd fe q =
    let bd : Bytes d = λ i. omega (arith, fd i) in
    let be : Bytes e = λ i. omega (arith, fe i) in
    (told k d e r bd be q).1
