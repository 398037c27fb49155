-- What is answered about two routes.
use Rattle.std.specs.Prelude.{ℕ, Bool, cond, ltb, Result, Ok, Err}
use Rattle.graphs.specs.Graph.{Graph, joined}
use Rattle.rows.specs.Lookup.{unknown}
use Rattle.rows.specs.declared.UnknownId.{UnknownId}

-- whether w is a neighbour of v; an id that is no route is named, the first before the second
unfoldable pub edge_of : Graph → ℕ → ℕ → Result Bool UnknownId
edge_of g v w = cond (ltb v g.order) (cond (ltb w g.order) (Ok (joined g v w)) (Err (unknown w))) (Err (unknown v))
