-- `put_edges` meets its contract. The invariant: the pairs so far are laid down. Assumes nothing.
use Rattle.laid.proofs.Stretches.{lays-none, lays-append, pairs_more, pairs_all}
use Rattle.asked.specs.Replies.{pairs_of}
use Rattle.laid.proofs.Answers.put_edges.Goals as goal

pub loop-edge-init : goal.loop-edge-init
unfolding pairs_of
loop-edge-init c = lays-none _

pub loop-edge-preserved : goal.loop-edge-preserved
loop-edge-preserved c =
    rw (pairs_more _ _ _ _ c.loop-edge-test.true c.from.ensures c.from-in-loop-edge.ensures)
    (lays-append c.loop-edge.invariant (lays-append c.put.ensures c.put-in-loop-edge.ensures))

pub returns : goal.returns
returns c = rw (← pairs_all _ _ c.loop-edge-test.false) c.loop-edge.invariant
