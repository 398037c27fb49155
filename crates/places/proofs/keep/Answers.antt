-- `keep` meets its contract: a place below the limit is stored, any other is not. Assumes nothing.
use borrow.Author.Tests.{lt-ltb, le-ltb}
use Rattle.places.specs.Places.{keep}
use Rattle.places.proofs.keep.Goals as goal

pub returns-then-k-lt-ROUTES : goal.returns-then-k-lt-ROUTES
unfolding keep
returns-then-k-lt-ROUTES c = simp (lt-ltb _ _ c.if-k-lt-ROUTES.true)

pub returns-else-k-lt-ROUTES : goal.returns-else-k-lt-ROUTES
unfolding keep
returns-else-k-lt-ROUTES c = simp (le-ltb _ _ c.if-k-lt-ROUTES.false)
