-- One chain more is taken at each turn.
use Rattle.std.proofs.Common.{◌≡◌, ◌+◌, ◌-◌, ◌*◌, ◌≤◌, ◌++◌, append-nil, append_assoc, length, take, drop, replicate, sym, ap, ap₂, ◌∙◌, add-zero, add_assoc, arith}
use Rattle.std.proofs.Math.Nat.{zero-mul, sub-zero}
use Rattle.buffer.proofs.Faults.{and_then_stop, and_then_go}
use Rattle.kinds.specs.Table.{lengths_of}
use Rattle.kinds.proofs.Rows.{chains_few}
use Rattle.compiler.specs.Chains.{words_read}
use Rattle.reader.specs.Judging.{chains_verdict}
use Rattle.reader.proofs.Judged.{chains_turn, chains_end, chain_within}
use Rattle.reader.proofs.Taking.{total_of, chain_room, words_more, words_over, taken_refused, taken_front, chain_answer, chain_words_law}
use Rattle.reader.proofs.item.Item.take_chains.Goals as goal

pub loop-i-init : goal.loop-i-init
unfolding lengths_of
loop-i-init c =
    let item = c.args.self.now in
    let s = drop item.at item.stream.now in
    let count = sub-zero c.chain_count-i-end.result ∙ c.chain_count-i-end.ensures in
    let each = c.chain_length-each.ensures in
    record {
      judged = rw (add-zero item.address) (ap₂ (λ n m. chains_verdict (replicate n m) item.address item.at s) count each);
      taken = rw (zero-mul c.chain_length-each.result) (ap₂ (λ n m. words_read (replicate n m) s) count each);
    }

pub overflow_cast-due : goal.overflow_cast-due
overflow_cast-due c = omega (arith, c.chain_count-i-end.ensures, chains_few c.args.self.now.place.section)

pub overflow_add-due : goal.overflow_add-due
overflow_add-due c = omega (arith, c.chain_count-i-end.ensures, chains_few c.args.self.now.place.section)

pub overflow_mul-part : goal.overflow_mul-part
overflow_mul-part c = omega (arith, chain_room _ _ _ _ c.chain_count-i-end.ensures c.chain_length-each.ensures c.loop-i-test.true)

pub overflow_mul-part-in-loop-i : goal.overflow_mul-part-in-loop-i
overflow_mul-part-in-loop-i c = omega (arith, chain_room _ _ _ _ c.chain_count-i-end.ensures c.chain_length-each.ensures c.loop-i-test.true)

pub offset_bounds-words-i : goal.offset_bounds-words-i
offset_bounds-words-i c = omega (arith, chain_room _ _ _ _ c.chain_count-i-end.ensures c.chain_length-each.ensures c.loop-i-test.true)

pub slice_bounds-part-end : goal.slice_bounds-part-end
slice_bounds-part-end c = omega (arith, chain_room _ _ _ _ c.chain_count-i-end.ensures c.chain_length-each.ensures c.loop-i-test.true)

pub returns-in-Refused : goal.returns-in-Refused
returns-in-Refused c =
    let item = c.args.self.now in
    let s = item.stream.now in
    let l = c.loop-i in
    let count = c.chain_count-i-end.result in
    let each = c.chain_length-each.result in
    let fits : count * each ≤ length l.words = omega (arith, total_of item.place.section count each c.chain_count-i-end.ensures c.chain_length-each.ensures) in
    let took = c.take_chain in
    let answer = chain_answer count each l.i c.loop-i-test.true l.words took.new.into s fits (item.address + l.i) l.from took.result took.auto.into took.ensures in
    taken_refused _ _ _ _ _
    (and_then_stop _ _ _ _ _ (sym (chains_turn each (item.address + l.i) l.from s count l.i c.loop-i-test.true) ∙ l.invariant.judged) (sym answer ∙ c.in-Refused.is))

pub overflow_add-from-in-loop-i : goal.overflow_add-from-in-loop-i
overflow_add-from-in-loop-i c =
    let item = c.args.self.now in
    let s = item.stream.now in
    let l = c.loop-i in
    let count = c.chain_count-i-end.result in
    let each = c.chain_length-each.result in
    let fits : count * each ≤ length l.words = omega (arith, total_of item.place.section count each c.chain_count-i-end.ensures c.chain_length-each.ensures) in
    let took = c.take_chain in
    let answer = chain_answer count each l.i c.loop-i-test.true l.words took.new.into s fits (item.address + l.i) l.from took.result took.auto.into took.ensures in
    omega (arith, chain_within each (item.address + l.i) l.from s (sym answer ∙ c.in_default.is))

pub loop-i-preserved : goal.loop-i-preserved
loop-i-preserved c =
    let item = c.args.self.now in
    let s = item.stream.now in
    let l = c.loop-i in
    let count = c.chain_count-i-end.result in
    let each = c.chain_length-each.result in
    let fits : count * each ≤ length l.words = omega (arith, total_of item.place.section count each c.chain_count-i-end.ensures c.chain_length-each.ensures) in
    let took = c.take_chain in
    let answer = chain_answer count each l.i c.loop-i-test.true l.words took.new.into s fits (item.address + l.i) l.from took.result took.auto.into took.ensures in
    let fine = sym answer ∙ c.in_default.is in
    let words = chain_words_law count each l.i c.loop-i-test.true l.words took.new.into s fits (item.address + l.i) l.from took.result took.auto.into took.ensures fine in
    record {
      judged = rw (add_assoc item.address l.i 1) at (and_then_go _ _ _ (sym (chains_turn each (item.address + l.i) l.from s count l.i c.loop-i-test.true) ∙ l.invariant.judged) fine);
      taken =
          ap (λ zs. zs ++ words_read (replicate (count - (l.i + 1)) each) (drop (l.from + (5 + 5 * each)) s)) words
          ∙ append_assoc (take (l.i * each) l.words) _ _
          ∙ ap (λ zs. take (l.i * each) l.words ++ zs) (sym (words_more count each l.i l.from s c.loop-i-test.true))
          ∙ l.invariant.taken;
    }

pub returns : goal.returns
returns c =
    let item = c.args.self.now in
    let s = item.stream.now in
    let l = c.loop-i in
    let count = c.chain_count-i-end.result in
    let each = c.chain_length-each.result in
    let end : l.i ≡ count = omega arith in
    let judged = rw end at l.invariant.judged in
    let words : take (count * each) l.words ≡ words_read (lengths_of item.place.section) (drop item.at s) =
    sym (append-nil (take (count * each) l.words))
    ∙ ap (λ zs. take (count * each) l.words ++ zs) (sym (words_over count each l.from s))
    ∙ rw end at l.invariant.taken in
    record {
      answer = sym (chains_end each (item.address + count) l.from s count) ∙ judged;
      held = λ e. taken_front (count * each) _ l.words (omega (arith, total_of item.place.section count each c.chain_count-i-end.ensures c.chain_length-each.ensures)) words;
    }
