-- `searched` meets its contract: an edge between two trees is found, or the queue is done. Assumes nothing.
use mathlib.Core.Path.{ap, sym, ◌∙◌}
use Rattle.std.specs.Prelude.{Option, is_some}
use Rattle.limits.specs.Limits.{routes}
use Rattle.theory.specs.Search.Expose.{augmented}
use Rattle.rows.specs.Sheet.{graph_of}
use Rattle.tables.specs.declared.Edge.{Edge}
use Rattle.tables.specs.Shapes.{tables_of}
use Rattle.search.proofs.Laws.{starts, one_found, none_found}
use Rattle.search.proofs.searched.Goals as goal

pub returns-in-Some : goal.returns-in-Some
returns-in-Some c =
    let d = c.run_queue.new.desk in
    one_found routes (graph_of c.args.s.now) c.args.p.now _ _ (tables_of d) c.order-n.ensures
    (starts routes c.order-n.result _ _ _ _ _ _ c.inward.ensures c.fill.ensures c.fill-2.ensures c.fill-3.ensures c.seed.ensures)
    c.run_queue.ensures
    (ap is_some (sym c.in-Some.is)) _ _
    (c.augmented.ensures ∙ ap (λ (f : Option Edge). augmented routes (tables_of (record { trees = d.trees; line = d.line; rings = d.rings; found = f }))) (sym c.in-Some.is)) c.outward.ensures _

pub returns : goal.returns
returns c =
    none_found routes (graph_of c.args.s.now) c.args.p.now _ _ (tables_of c.run_queue.new.desk) c.order-n.ensures
    (starts routes c.order-n.result _ _ _ _ _ _ c.inward.ensures c.fill.ensures c.fill-2.ensures c.fill-3.ensures c.seed.ensures)
    c.run_queue.ensures (ap is_some (sym c.in_default.is)) _
