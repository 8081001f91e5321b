-- `hex` meets its contract: digit by digit, from the last one on. Assumes nothing.
use Rattle.std.proofs.Common.{ℕ, ◌/◌, arith, ap, ◌∙◌, rules}
use Rattle.notice.proofs.Lines.{sixteenth, hex_more}
use Rattle.notice.proofs.text.hex.Goals as goal

pub loop-i-preserved : goal.loop-i-preserved
loop-i-preserved g c = record {
  rest = ap (λ (r : ℕ). r / 16) c.loop-i.invariant.rest ∙ sixteenth c.args.x c.loop-i.i;
  size = search rules;
  behind = rw (c.hex_digit.ensures, c.loop-i.invariant.rest)
      (hex_more g.row.DIGITS c.loop-i.i c.args.x c.loop-i.digits (omega arith) c.loop-i.invariant.size c.loop-i.invariant.behind);
}
