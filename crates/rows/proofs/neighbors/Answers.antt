-- `neighbors` meets its contract: the id is a route, or it is named. Assumes nothing.
use borrow.Author.Tests.{lt-ltb, le-ltb}
use Rattle.rows.specs.Lookup.{neighbors_of}
use Rattle.rows.proofs.neighbors.Goals as goal

pub returns-then-n-id : goal.returns-then-n-id
unfolding neighbors_of
returns-then-n-id c = rw (← c.order-n.ensures) (simp (le-ltb _ _ c.if-n-id.true))

pub returns : goal.returns
unfolding neighbors_of
returns c = rw (← c.order-n.ensures, ← c.word_at-a.ensures, ← c.word_at-e.ensures) (simp (lt-ltb _ _ c.if-n-id.false))
