use mathlib.Core.Path.{◌≡◌}
use Rattle.rows.specs.Sheet.{graph_of}
use Rattle.entries.specs.Quick.{mark_rows}
use Rattle.entries.proofs.mark_rows.Given as goal

abbrev pub invariant-loop-v : goal.invariant-loop-v
invariant-loop-v l = l.t ≡ mark_rows (graph_of l.s) l.v l.initial.t
