-- `run_queue` meets its contract. The invariant: the tables are what the first k rows of the queue have made of them. Assumes nothing.
use Rattle.rows.specs.Sheet.{graph_of}
use Rattle.tables.specs.Shapes.{tables_of}
use Rattle.queue.proofs.Laws.{run_none, run-hit, run-spent, run-out, run-on, of_row}
use Rattle.queue.proofs.run_queue.Goals as goal

pub loop-k-init : goal.loop-k-init
loop-k-init c = run_none (graph_of c.args.s.now) (tables_of c.args.desk.now)

pub returns-then-is_some : goal.returns-then-is_some
returns-then-is_some c =
    let l = c.loop-k in
    run-hit (graph_of c.args.s.now) (tables_of c.args.desk.now) _ l.k (tables_of l.desk) l.auto.k-end l.invariant c.if-is_some.ensures

pub returns-then-desk-k : goal.returns-then-desk-k
returns-then-desk-k c =
    let l = c.loop-k in
    run-spent (graph_of c.args.s.now) (tables_of c.args.desk.now) _ l.k (tables_of l.desk) l.auto.k-end l.invariant c.if-desk-k.true

pub loop-k-preserved : goal.loop-k-preserved
loop-k-preserved c =
    let l = c.loop-k in
    run-on (graph_of c.args.s.now) (tables_of c.args.desk.now) c.args.desk.now.trees.order l.k (tables_of l.desk) l.auto.k-end l.invariant c.if-desk-k.false _ c.at-v.ensures _
    (of_row c.args.s.now _ (tables_of l.desk) _ _ c.row-r.ensures c.scan_row.ensures)

pub returns : goal.returns
returns c =
    let l = c.loop-k in
    run-out (graph_of c.args.s.now) (tables_of c.args.desk.now) _ l.k (tables_of l.desk) l.auto.k-end l.invariant c.loop-k-test.false
