-- `look` meets its contract: each way out is a case of the definition. Assumes nothing.
use Rattle.tables.specs.Shapes.{tables_of}
use Rattle.look.proofs.Laws.{look-found, look-same, look-inner, look-grown, look-touched}
use Rattle.look.proofs.look.Goals as goal

pub returns-then-is_some : goal.returns-then-is_some
returns-then-is_some c = look-found (tables_of c.args.desk.now) _ _ c.if-is_some.ensures

pub returns-then-met : goal.returns-then-met
returns-then-met c = look-same (tables_of c.args.desk.now) _ _ c.if-is_some.ensures _ c.met.ensures c.if-met.true

pub returns-then-l-eq-INNER : goal.returns-then-l-eq-INNER
returns-then-l-eq-INNER c = look-inner (tables_of c.args.desk.now) _ _ c.if-is_some.ensures _ c.met.ensures c.if-met.false _ c.at-l.ensures c.if-l-eq-INNER.true

pub returns-then-l-eq-UNREACHED : goal.returns-then-l-eq-UNREACHED
returns-then-l-eq-UNREACHED c =
    look-grown (tables_of c.args.desk.now) _ _ c.if-is_some.ensures _ c.met.ensures
    c.if-met.false _ c.at-l.ensures
    c.if-l-eq-INNER.false c.if-l-eq-UNREACHED.true
    _ c.grow.ensures

pub returns-else-l-eq-UNREACHED : goal.returns-else-l-eq-UNREACHED
returns-else-l-eq-UNREACHED c =
    look-touched (tables_of c.args.desk.now) _ _ c.if-is_some.ensures _ c.met.ensures
    c.if-met.false _ c.at-l.ensures
    c.if-l-eq-INNER.false c.if-l-eq-UNREACHED.false
    _ c.touch.ensures
