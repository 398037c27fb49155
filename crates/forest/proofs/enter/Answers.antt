-- `enter` meets its contract: a label, a place of the queue, one more. Assumes nothing.
use Rattle.forest.proofs.Laws.{entered}
use Rattle.forest.proofs.enter.Goals as goal

pub returns : goal.returns
returns c = entered _ _ _ _ _ _ _ c.put.ensures c.put-2.ensures c.one_more-line.ensures
