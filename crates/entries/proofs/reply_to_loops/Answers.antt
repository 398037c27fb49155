-- `reply_to_loops` meets its contract. The invariant: no route below v is its own neighbour. Assumes nothing.
use Rattle.replies.proofs.Firsts.{first-none}
use Rattle.entries.proofs.Quick.{loop-at, loop-past, loop-end}
use Rattle.entries.proofs.reply_to_loops.Goals as goal

pub loop-v-init : goal.loop-v-init
loop-v-init c = first-none _

pub returns-then-marked : goal.returns-then-marked
returns-then-marked c =
    let l = c.loop-v in
    loop-at _ _ l.v l.invariant _ c.marked.ensures c.if-marked.true c.loop-v-test.true

pub loop-v-preserved : goal.loop-v-preserved
loop-v-preserved c =
    let l = c.loop-v in
    loop-past _ l.v l.invariant _ c.marked.ensures c.if-marked.false

pub returns : goal.returns
returns c =
    let l = c.loop-v in
    loop-end _ _ l.v l.invariant l.auto.v-end c.loop-v-test.false
