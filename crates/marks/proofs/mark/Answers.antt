-- `mark` meets its contract. Assumes nothing.
use borrow.Author.Tests.{lt-ltb, le-ltb}
use Rattle.marks.specs.Marks.{mark}
use Rattle.marks.proofs.mark.Goals as goal
use Rattle.marks.proofs.mark.Goals.{else-a-lt-ROUTES-via-then-a-lt-ROUTES+else-b-lt-ROUTES, else-a-lt-ROUTES-via-else-a-lt-ROUTES}

pub returns-then-b-lt-ROUTES : goal.returns-then-b-lt-ROUTES
unfolding mark
returns-then-b-lt-ROUTES c =
    rw c.with_bit.ensures (simp (lt-ltb _ _ c.if-a-lt-ROUTES.true, lt-ltb _ _ c.if-b-lt-ROUTES.true))

pub returns-else-a-lt-ROUTES : goal.returns-else-a-lt-ROUTES
unfolding mark
returns-else-a-lt-ROUTES c = elim c.else-a-lt-ROUTES.branch [
  | else-a-lt-ROUTES-via-then-a-lt-ROUTES+else-b-lt-ROUTES w ↦ simp (lt-ltb _ _ w.if-a-lt-ROUTES.true, le-ltb _ _ w.if-b-lt-ROUTES.false)
  | else-a-lt-ROUTES-via-else-a-lt-ROUTES w ↦ simp (le-ltb _ _ w.if-a-lt-ROUTES.false)
]
