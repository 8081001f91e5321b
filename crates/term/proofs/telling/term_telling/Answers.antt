-- Each test is a case of the definition. The sum fits since it is a sample.
use Rattle.std.proofs.Common.{ℕ, ◌+◌, ◌^◌, ◌<◌, sym, ap, ◌∙◌, arith, bit_and}
use Rattle.lut.specs.declared.Telling.TheVariants.{Apart}
use Rattle.lut.specs.declared.Input.TheVariants.{Sample}
use Rattle.lines.proofs.Digit.{shifted_one}
use Rattle.term.specs.declared.Pattern.{Pattern}
use Rattle.term.specs.Rule.{Accepted}
use Rattle.term.proofs.SamePattern.{least_target, least_same, least_mask, answer_says, sum_fits, lowest_fits}
use Rattle.term.proofs.telling.term_telling.Goals as goal

made : (p : Pattern) → p.target < 2 ^ 32 → p.mask < 2 ^ 32 → Accepted p
made p t m = record { target_fits = t; mask_fits = m }

pub returns-then-a-b : goal.returns-then-a-b
returns-then-a-b c =
    let a = c.args.old in
    let b = c.args.new in
    let value = ap (λ (s : ℕ). Apart (Sample s)) c.min.ensures ∙ sym (least_target a.target a.mask b.target b.mask c.if-a-b.true) in
    let both = answer_says a b (made a (omega arith) (omega arith)) (made b (omega arith) (omega arith)) _ value in
    record { value = value; says = both.0; least = both.1 }

pub returns-then-old-new : goal.returns-then-old-new
returns-then-old-new c =
    let a = c.args.old in
    let b = c.args.new in
    let value = sym (least_same a.target a.mask b.target b.mask (omega arith) c.if-old-new.true) in
    let both = answer_says a b (made a (omega arith) (omega arith)) (made b (omega arith) (omega arith)) _ value in
    record { value = value; says = both.0; least = both.1 }

pub overflow_shl-lowest : goal.overflow_shl-lowest
overflow_shl-lowest c =
    lowest_fits c.args.old c.args.new (made c.args.old (omega arith) (omega arith)) (made c.args.new (omega arith) (omega arith)) (omega arith) c.if-old-new.false

pub overflow_add-result : goal.overflow_add-result
overflow_add-result c =
    let a = c.args.old in
    let b = c.args.new in
    let p = made a (omega arith) (omega arith) in
    let q = made b (omega arith) (omega arith) in
    record { fits = rw (shifted_one _ 32 (lowest_fits a b p q (omega arith) c.if-old-new.false)) (sum_fits a b p q (omega arith) c.if-old-new.false) }

pub returns : goal.returns
returns c =
    let a = c.args.old in
    let b = c.args.new in
    let p = made a (omega arith) (omega arith) in
    let q = made b (omega arith) (omega arith) in
    let value =
    ap (λ (l : ℕ). Apart (Sample (bit_and a.target a.mask + l))) (shifted_one _ 32 (lowest_fits a b p q (omega arith) c.if-old-new.false)) ∙ sym (least_mask a.target a.mask b.target b.mask (omega arith) c.if-old-new.false) in
    let both = answer_says a b p q _ value in
    record { value = value; says = both.0; least = both.1 }
