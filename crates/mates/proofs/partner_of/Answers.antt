-- `partner_of` meets its contract: within the table the place is read, past it there is none. Assumes nothing.
use borrow.Author.Tests.{lt-ltb, le-ltb}
use Rattle.mates.specs.Partners.{mate_of}
use Rattle.mates.proofs.partner_of.Goals as goal

pub returns-then-i-lt-ROUTES : goal.returns-then-i-lt-ROUTES
unfolding mate_of
returns-then-i-lt-ROUTES c = simp (lt-ltb _ _ c.if-i-lt-ROUTES.true)

pub returns-else-i-lt-ROUTES : goal.returns-else-i-lt-ROUTES
unfolding mate_of
returns-else-i-lt-ROUTES c = simp (le-ltb _ _ c.if-i-lt-ROUTES.false)
