use mathlib.Core.Path.{◌≡◌}
use lib.ListN.{length}
use Rattle.graphs.specs.Graph.{in_set}
use Rattle.graphs.specs.Parts.{link_rows}
use Rattle.rows.specs.Sheet.{order, graph_of}
use Rattle.parts.proofs.join_rows.Given as goal

abbrev pub invariant-loop-v : goal.invariant-loop-v
invariant-loop-v l = (l.v-end ≡ order l.s) × (length l.c ≡ order l.s) × (l.c ≡ link_rows (graph_of l.s) (in_set l.set) l.v)
