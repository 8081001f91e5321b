-- One chain more is written at each turn.
use Rattle.std.proofs.Common.{◌≡◌, ◌+◌, ◌*◌, [], length, sym, ap, ◌∙◌, arith}
use Rattle.std.proofs.Math.Nat.{zero-mul}
use Rattle.buffer.proofs.Writing.{wrote, too_short, delivers, Pending, pending_start, pending_step, pending_end}
use Rattle.records.proofs.Bounds.{one_more}
use Rattle.compiler.proofs.Joined.{chains_joined}
use Rattle.compiler.proofs.ItemLaws.{chains_size, chains_all, chains_over, chains_step, chain_size}
use Rattle.compiler.proofs.items.put_chains.Goals as goal

pub returns-then-out-needed : goal.returns-then-out-needed
returns-then-out-needed c =
    let a = c.args in
    delivers (chains_joined _ _)
    (too_short _ _ _ c.if-out-needed.true (sym (chains_size a.address a.row.chains a.row.each a.words.now c.requires.3)))

pub loop-i-init : goal.loop-i-init
loop-i-init c =
    let a = c.args in
    let all = chains_all a.address a.row.chains a.row.each a.words.now in
    let size = ap length (sym all) ∙ chains_size a.address a.row.chains a.row.each a.words.now c.requires.3 in
    rw (zero-mul (5 + 5 * a.row.each)) (pending_start 0 _ a.out.now (omega (arith, size)))

pub loop-i-preserved : goal.loop-i-preserved
loop-i-preserved c =
    let a = c.args in
    let i = c.loop-i.i in
    let next : (i + 1) * (5 + 5 * a.row.each) ≡ i * (5 + 5 * a.row.each) + (5 + 5 * a.row.each) = omega (arith, one_more i (5 + 5 * a.row.each)) in
    pending_step _ _ _ _ _ _ _ _ _ _ (chains_step a.address a.row.chains a.row.each a.words.now i (omega arith))
    (next ∙ ap (λ n. i * (5 + 5 * a.row.each) + n) (sym (chain_size a.address a.row.chains a.row.each a.words.now i (omega arith) c.requires.3)))
    c.loop-i.invariant c.put_chain.ensures

pub returns : goal.returns
returns c =
    let a = c.args in
    let l = c.loop-i in
    let all = chains_all a.address a.row.chains a.row.each a.words.now in
    let size = chains_size a.address a.row.chains a.row.each a.words.now c.requires.3 in
    let end : l.i ≡ a.row.chains = omega arith in
    let done : Pending _ _ _ [] l.out = rw (end, chains_over a.address a.row.chains a.row.each a.words.now) at l.invariant in
    delivers (chains_joined _ _)
    (wrote _ a.out.now _ _ (omega (arith, size)) (sym size) (rw all (pending_end _ _ _ _ done)))
