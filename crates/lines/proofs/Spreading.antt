-- A value put on the lines of a mask one by one, from the lowest line up: one turn of the loop of `scatter`. Assumes nothing.
use mathlib.Core.Path.{◌≡◌, ap, ◌∙◌}
use Prim.Native.Nat.{ℕ, ◌+◌, ◌*◌, ◌/◌, ◌%◌, ◌^◌, ◌≤◌, ◌<◌}
use native.Mathlib.Omega.{arith}
use lib.Bits.{bit_and, and_mask}
use lib.Count.{ones_in, count_trailing_zeros}
use Rattle.lines.specs.Gather.{scattered, drop_lowest}
use Rattle.lines.proofs.Digit.{bit_shifted}
use Rattle.lines.proofs.Drop.{drop_le, lowest_lt, scatter_lowest, scatter_none}
use Rattle.lines.proofs.Ones.{ones_pos}
use Rattle.lines.proofs.Scattering.{scatter_lt}

-- what is left of the value, put on the lines that are left, is what is still to be added
pub record Spreading (value mask spread rest left : ℕ) : Type 0 where
  pub fits : left < 2 ^ 32
  pub whole : scattered 32 rest left + spread ≡ scattered 32 value mask

module _ (value mask spread rest left : ℕ) (s : Spreading value mask spread rest left) (h : 0 < left) where
  pub some : 0 < ones_in 32 left
  some = ones_pos 32 left h s.fits

  room : count_trailing_zeros 32 left < 32
  room = lowest_lt 32 left h s.fits

  -- what one turn adds, and what is left then
  added : bit_and rest 1 * 2 ^ count_trailing_zeros 32 left % 4294967296 ≡ rest % 2 * 2 ^ count_trailing_zeros 32 left
  added = ap (λ (x : ℕ). x * 2 ^ count_trailing_zeros 32 left % 4294967296) (and_mask rest 1) ∙ bit_shifted rest (count_trailing_zeros 32 left) room

  next : scattered 32 (rest / 2) (drop_lowest 32 left) + (spread + bit_and rest 1 * 2 ^ count_trailing_zeros 32 left % 4294967296) ≡ scattered 32 value mask
  next = rw added (omega (arith, scatter_lowest 32 rest left h s.fits, s.whole))

  pub sum_fits : spread + bit_and rest 1 * 2 ^ count_trailing_zeros 32 left % 4294967296 < 2 ^ 32
  sum_fits = omega (arith, next, scatter_lt 32 value mask)

  pub turn : (left' : ℕ) → left' ≡ drop_lowest 32 left
      → Spreading value mask (spread + bit_and rest 1 * 2 ^ count_trailing_zeros 32 left % 4294967296) (rest / 2) left'
  turn left' e = rw e (record { fits = omega (arith, drop_le 32 left, s.fits); whole = next })

-- no line is left
pub spread_all : (value mask spread rest left : ℕ) → Spreading value mask spread rest left → left ≤ 0 → spread ≡ scattered 32 value mask
spread_all value mask spread rest left s h =
    let none : left ≡ 0 = omega arith in
    let nothing : scattered 32 rest left ≡ 0 = rw none (scatter_none 32 rest) in
    omega (arith, s.whole)
