use mathlib.Core.Path.{◌≡◌}
use Rattle.limits.specs.Limits.{routes}
use Rattle.theory.specs.Search.Tables.{turns}
use Rattle.theory.specs.Search.Rings.{stride}
use Rattle.tables.specs.declared.Desk.{Desk}
use Rattle.tables.specs.Shapes.{tables_of}
use Rattle.walks.specs.Ways.{way_of}
use Rattle.linked.proofs.linked.Given as goal

abbrev pub invariant-loop : goal.invariant-loop
invariant-loop l = (d : Desk) → d.trees ≡ l.t → way_of l.z l.r ≡ turns l.counter (stride routes (tables_of d)) (way_of l.initial.z l.initial.r)
