use mathlib.Core.Path.{◌≡◌}
use Rattle.graphs.specs.Count.{count}
use Rattle.graphs.specs.Graph.{in_set}
use Rattle.graphs.specs.Surplus.{in_part}
use Rattle.counts.proofs.Cut.part_size.Given as goal

abbrev pub invariant-loop-v : goal.invariant-loop-v
invariant-loop-v l = l.k ≡ count l.v (in_part l.self.names.now (in_set l.self.set.now) l.r)
