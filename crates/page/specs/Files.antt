-- The files of a verb.
use Rattle.std.specs.Prelude.{ℕ, List}

-- a file: its name as it is shown, its bytes, and their digest in hex, which only a page shows [T1, T7]
pub record File : Type 0 where
  pub name : List ℕ
  pub bytes : List ℕ
  pub digest : List ℕ

-- the same from its parts [T1, T7]
abbrev pub file : (name bytes digest : List ℕ) → File
file name bytes digest = record { name = name; bytes = bytes; digest = digest }
