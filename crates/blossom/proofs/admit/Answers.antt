-- `admit` meets its contract: an inner route is entered, and nothing else. Assumes nothing.
use Rattle.tables.specs.Shapes.{line_of}
use Rattle.blossom.proofs.Laws.{admitted, passed}
use Rattle.blossom.proofs.admit.Goals as goal

pub returns-then-at-eq-INNER : goal.returns-then-at-eq-INNER
returns-then-at-eq-INNER c = admitted (line_of c.args.line.now) _ _ c.at.ensures c.if-at-eq-INNER.true _ c.enter.ensures

pub returns-else-at-eq-INNER : goal.returns-else-at-eq-INNER
returns-else-at-eq-INNER c = passed (line_of c.args.line.now) _ _ c.at.ensures c.if-at-eq-INNER.false
