use mathlib.Core.Path.{◌≡◌}
use Rattle.limits.specs.Limits.{routes}
use Rattle.theory.specs.Search.Look.{scan_row}
use Rattle.words.specs.Words.{numbers}
use Rattle.tables.specs.Shapes.{tables_of}
use Rattle.scan.proofs.scan_row.Given as goal

abbrev pub invariant-loop-w : goal.invariant-loop-w
invariant-loop-w l =
    scan_row routes (tables_of l.desk) l.v (numbers l.w-iterator.rest.now)
    ≡ scan_row routes (tables_of l.initial.desk) l.v (numbers l.row)
