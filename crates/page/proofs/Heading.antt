-- The head of a page: how long its pieces can be. Assumes nothing.
use Prim.Native.Nat.{ℕ, ◌≤◌}
use mathlib.Core.Path.{◌≡◌, refl}
use mathlib.Core.List.{List, [], ◌∷◌}
use native.Mathlib.Omega.{arith}
use lib.ListN.{length, length-append}
use Rattle.std.proofs.Common.{◌==◌, true, false}
use Rattle.std.proofs.Math.Dec.{eqb-suc-zero}
use Rattle.refusal.specs.Words.{ascii}
use Rattle.report.proofs.Heads.{decimal_short}
use Rattle.page.specs.Files.{File}
use Rattle.page.specs.Page.{digest_text, size_text, file_text}

pub digest_none : (d : List ℕ) → true ≡ (length d == 0) → digest_text d ≡ ascii "not asked for (--no-digest)"
digest_none [] e = refl
digest_none (x ∷ d) e = cc (eqb-suc-zero (length d))

pub digest_some : (d : List ℕ) → false ≡ (length d == 0) → digest_text d ≡ d
digest_some [] e = cc
digest_some (x ∷ d) e = refl

digest_short : (d : List ℕ) → length d ≤ 64 → length (digest_text d) ≤ 64
digest_short [] h = omega arith
digest_short (x ∷ xs) h = h

pub size_short : (n : ℕ) → length (size_text n) ≤ 48
size_short n = simp length-append (omega (arith, decimal_short))

pub file_short : (title : List ℕ) (f : File) → length title ≤ 11 → length f.name ≤ 4096 → length f.digest ≤ 64
    → length (file_text title f) ≤ 4220
file_short title f t n d = simp length-append (omega (arith, decimal_short, digest_short f.digest d))
