-- `perform_all` meets its contract. The invariant: what the operations so far left leads to what is to come out. Assumes nothing.
use Prim.Native.Nat.{◌+◌}
use mathlib.Core.Path.{refl, sym, ap, ◌∙◌}
use native.Mathlib.Omega.{arith}
use Rattle.std.proofs.lemmas.List.{length_push}
use Rattle.std.proofs.lemmas.Iterator.Consumers.{YieldsList-turn, YieldsList-end}
use Rattle.lent.specs.Given.{given}
use Rattle.laid.proofs.Stretches.{lays-append}
use Rattle.drive.proofs.Steps.{few, come-all, leads-next, leads-end}
use Rattle.drive.proofs.perform_all.Goals as goal

pub overflow_add-count : goal.overflow_add-count
overflow_add-count c =
    let l = c.loop-operation in
    let all = come-all c.args.ops.now c.into_iter-operation-iterator.ensures.into_iter_gives c.new-operation-items.ensures in
    let t = YieldsList-turn all l.yielded l.operation-iterator l.yielded_by c.next.result c.next.new.self c.in-Some.operation c.in-Some.is c.next.ensures.steps in
    let f = few c.args.ops.now in
    omega arith

pub loop-operation-preserved : goal.loop-operation-preserved
loop-operation-preserved c =
    let l = c.loop-operation in
    let all = come-all c.args.ops.now c.into_iter-operation-iterator.ensures.into_iter_gives c.new-operation-items.ensures in
    let t = YieldsList-turn all l.yielded l.operation-iterator l.yielded_by c.next.result c.next.new.self c.in-Some.operation c.in-Some.is c.next.ensures.steps in
    let e = lays-append c.put_reply.ensures c.put_pairs.ensures in
    record {
      counted = ap (λ n. n + 1) l.invariant.counted ∙ sym (length_push l.yielded c.in-Some.operation);
      same = e.same ∙ l.invariant.same;
      leads = leads-next _ _ _ _ _ _ l.invariant.leads (given c.in-Some.operation) _ _ (omega arith) (rw l.invariant.counted t.1) (rw c.reply_to-reply.ensures refl) (rw c.reply_to-reply.ensures at e.all);
    }

pub returns-clause-pairing : goal.returns-clause-pairing
returns-clause-pairing c =
    let l = c.loop-operation in
    let all = come-all c.args.ops.now c.into_iter-operation-iterator.ensures.into_iter_gives c.new-operation-items.ensures in
    let t = YieldsList-end all l.yielded l.operation-iterator l.yielded_by c.next.result c.next.new.self c.in-None.is c.next.ensures.steps in
    (leads-end _ _ _ _ _ _ l.invariant.leads (l.invariant.counted ∙ t.1)).0

pub returns-clause-answers : goal.returns-clause-answers
returns-clause-answers c =
    let l = c.loop-operation in
    let all = come-all c.args.ops.now c.into_iter-operation-iterator.ensures.into_iter_gives c.new-operation-items.ensures in
    let t = YieldsList-end all l.yielded l.operation-iterator l.yielded_by c.next.result c.next.new.self c.in-None.is c.next.ensures.steps in
    record { same = l.invariant.same; all = (leads-end _ _ _ _ _ _ l.invariant.leads (l.invariant.counted ∙ t.1)).1 }
