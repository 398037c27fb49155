use Prim.Native.Nat.{◌-◌}
use mathlib.Core.Path.{◌≡◌}
use Rattle.limits.specs.Limits.{routes}
use Rattle.theory.specs.Search.Rings.{around}
use Rattle.tables.specs.Shapes.{line_of}
use Rattle.blossom.proofs.around.Given as goal

abbrev pub invariant-loop : goal.invariant-loop
invariant-loop l = around routes l.next l.j l.a (line_of l.initial.line) ≡ around routes l.next (l.j - l.counter) l.g (line_of l.line)
