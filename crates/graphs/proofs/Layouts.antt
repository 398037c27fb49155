-- The surplus of each layout marked P is what document 01 says: one statement over the list of them, by computation. Assumes nothing.
use mathlib.Core.Path.{◌≡◌, refl}
use mathlib.Core.List.{map}
use Rattle.graphs.specs.Count.{count}
use Rattle.graphs.specs.Graph.{has}
use Rattle.graphs.specs.Parts.{parts, link_rows, link_row, link, join, merge, run}
use Rattle.graphs.specs.Surplus.{surplus, odd_parts}
use Rattle.graphs.specs.Layouts.{Layout, layouts, surplus_of}

pub layouts-hold : map surplus_of layouts ≡ map (λ (l : Layout). l.says) layouts
unfolding layouts surplus_of surplus odd_parts count has parts link_rows link_row link join merge run
layouts-hold = refl
