use Rattle.std.proofs.Common.{◌≡◌, ◌-◌}
use Rattle.limits.specs.Limits.{routes}
use Rattle.theory.specs.Search.Tables.{groups}
use Rattle.theory.specs.Search.Expose.{raise}
use Rattle.tables.specs.Shapes.{tables_of}
use Rattle.expose.proofs.raise.Given as goal

abbrev pub invariant-loop : goal.invariant-loop
invariant-loop l = raise routes (tables_of l.desk) (groups routes) l.p l.initial.m ≡ raise routes (tables_of l.desk) (groups routes - l.counter) l.v l.m
