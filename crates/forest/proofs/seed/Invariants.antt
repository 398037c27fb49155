use mathlib.Core.Path.{◌≡◌}
use Rattle.limits.specs.Limits.{routes}
use Rattle.theory.specs.Search.Start.{seed}
use Rattle.tables.specs.Shapes.{line_of}
use Rattle.forest.proofs.seed.Given as goal

abbrev pub invariant-loop-k : goal.invariant-loop-k
invariant-loop-k l = line_of l.line ≡ seed routes l.mate l.k (line_of l.initial.line)
