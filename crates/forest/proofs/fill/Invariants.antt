use mathlib.Core.Path.{◌≡◌}
use Rattle.theory.specs.Search.Start.{fill}
use Rattle.forest.proofs.fill.Given as goal

abbrev pub invariant-loop-k : goal.invariant-loop-k
invariant-loop-k g l = l.s ≡ fill g.row.N l.k l.initial.s
