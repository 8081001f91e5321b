-- `hex` meets its contract: digit by digit, from the last one on. Assumes nothing.
use Rattle.std.proofs.Common.{◌≡◌, ◌-◌, ◌/◌, ◌^◌, length, drop}
use Rattle.notice.specs.Text.{hex}
use Rattle.notice.proofs.text.hex.Given as goal

abbrev pub invariant-loop-i : goal.invariant-loop-i
invariant-loop-i g l = record {
  rest : l.rest ≡ l.x / 16 ^ l.i;
  size : length l.digits ≡ l.i-end;
  behind : drop (l.i-end - l.i) l.digits ≡ hex l.i l.x;
}
