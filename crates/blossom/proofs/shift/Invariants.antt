use mathlib.Core.Path.{◌≡◌}
use Rattle.limits.specs.Limits.{routes}
use Rattle.theory.specs.Search.Rings.{shift}
use Rattle.blossom.proofs.shift.Given as goal

abbrev pub invariant-loop-k : goal.invariant-loop-k
invariant-loop-k l = l.top ≡ shift routes l.up l.b l.k l.initial.top
