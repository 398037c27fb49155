-- A desk with the edge that was found.
use Rattle.std.specs.Prelude.{Some}
use Rattle.tables.specs.declared.Edge.{Edge}
use Rattle.tables.specs.declared.Desk.{Desk}

abbrev pub with_edge : Desk → Edge → Desk
with_edge d e = record { trees = d.trees; line = d.line; rings = d.rings; found = Some e }
