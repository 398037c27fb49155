use mathlib.Core.Path.{◌≡◌}
use Rattle.limits.specs.Limits.{routes}
use Rattle.theory.specs.Search.Look.{run}
use Rattle.rows.specs.Sheet.{graph_of}
use Rattle.tables.specs.Shapes.{tables_of}
use Rattle.queue.proofs.run_queue.Given as goal

abbrev pub invariant-loop-k : goal.invariant-loop-k
invariant-loop-k l = tables_of l.desk ≡ run routes (graph_of l.s) l.k (tables_of l.initial.desk)
