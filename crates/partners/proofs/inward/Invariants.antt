use mathlib.Core.Path.{◌≡◌}
use Rattle.limits.specs.Limits.{routes}
use Rattle.theory.specs.Search.Searched.{inward}
use Rattle.partners.proofs.inward.Given as goal

abbrev pub invariant-loop-i : goal.invariant-loop-i
invariant-loop-i l = l.m ≡ inward routes l.n l.p l.i l.initial.m
