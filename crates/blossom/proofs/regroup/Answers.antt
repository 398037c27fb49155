-- `regroup` meets its contract: a route whose group has gone into the ring, or any other. Assumes nothing.
use Rattle.blossom.proofs.Laws.{moved, stayed}
use Rattle.blossom.proofs.regroup.Goals as goal

pub returns-then-u-b : goal.returns-then-u-b
returns-then-u-b c =
    moved _ _ _ _ _ _ c.at-g.ensures c.at-u.ensures c.if-u-b.true _
    c.put.ensures

pub returns-else-u-b : goal.returns-else-u-b
returns-else-u-b c = stayed _ _ _ _ _ _ c.at-g.ensures c.at-u.ensures c.if-u-b.false
