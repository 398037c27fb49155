use mathlib.Core.Path.{◌≡◌}
use Rattle.limits.specs.Limits.{routes}
use Rattle.rows.specs.Sheet.{graph_of}
use Rattle.theory.specs.Search.Searched.{improved_in}
use Rattle.climb.proofs.climb.Given as goal

abbrev pub invariant-loop : goal.invariant-loop
invariant-loop l = l.p ≡ improved_in routes (graph_of l.s) l.initial.p l.counter
