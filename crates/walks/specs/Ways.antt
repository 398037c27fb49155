-- The two walks of a ring, as the definition of the search has them: the code's ends, and the rings that the walks have stored.
use Rattle.theory.specs.Search.Rings.{Way}
use Rattle.tables.specs.declared.Rings.{Rings}
use Rattle.tables.specs.Shapes.{rings_of}
use Rattle.walks.specs.declared.Ends.{Ends}

abbrev pub way_of : Ends → Rings → Way
way_of z r = record { x = z.x; y = z.y; k = z.k; rings = rings_of r }
