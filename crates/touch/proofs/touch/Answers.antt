-- `touch` meets its contract: one root, or two. Assumes nothing.
use Rattle.theory.specs.Search.Look.{strike}
use Rattle.tables.specs.Shapes.{tables_of}
use Rattle.touch.proofs.Laws.{touched, hit-there}
use Rattle.touch.proofs.touch.Goals as goal

pub returns-then-p-q : goal.returns-then-p-q
returns-then-p-q c =
    touched (tables_of c.args.desk.now) _ _ _ _ _ _
    c.at-g.ensures
    c.at-h.ensures
    c.at-p.ensures
    c.at-q.ensures
    c.if-p-q.true _ c.contract.ensures

pub returns-else-p-q : goal.returns-else-p-q
unfolding strike
returns-else-p-q c =
    hit-there (tables_of c.args.desk.now) _ _ _ _ _ _
    c.at-g.ensures
    c.at-h.ensures c.at-p.ensures c.at-q.ensures c.if-p-q.false
