-- `has_edge` meets its contract: each id is a route or is named, and the second stands in the row of the first or not. Assumes nothing.
use borrow.Author.Tests.{lt-ltb, le-ltb}
use Rattle.edges.specs.Edges.{edge_of}
use Rattle.rows.proofs.Stretches.{place_in-joined}
use Rattle.edges.proofs.has_edge.Goals as goal

pub returns-then-n-v : goal.returns-then-n-v
unfolding edge_of
returns-then-n-v c = rw (← c.order-n.ensures) (simp (le-ltb _ _ c.if-n-v.true))

pub returns-then-n-w : goal.returns-then-n-w
unfolding edge_of
returns-then-n-w c = rw (← c.order-n.ensures) (simp (lt-ltb _ _ c.if-n-v.false, le-ltb _ _ c.if-n-w.true))

pub returns : goal.returns
unfolding edge_of
returns c =
    let j = place_in-joined _ _ _ _ _ c.row.ensures c.place.ensures in
    rw (c.is_some.ensures, ← j) (rw (← c.order-n.ensures) (simp (lt-ltb _ _ c.if-n-v.false, lt-ltb _ _ c.if-n-w.false)))
