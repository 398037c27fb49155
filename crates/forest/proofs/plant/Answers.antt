-- `plant` meets its contract: a route that is its own partner is a root. Assumes nothing.
use Rattle.forest.proofs.Laws.{planted, passed}
use Rattle.forest.proofs.plant.Goals as goal

pub returns-then-at-v : goal.returns-then-at-v
returns-then-at-v c = planted _ _ _ _ c.at.ensures c.if-at-v.true _ c.enter.ensures

pub returns-else-at-v : goal.returns-else-at-v
returns-else-at-v c = passed _ _ _ _ c.at.ensures c.if-at-v.false
