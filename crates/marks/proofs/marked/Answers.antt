-- `marked` meets its contract. Assumes nothing.
use borrow.Author.Tests.{lt-ltb, le-ltb}
use Rattle.marks.specs.Marks.{marked}
use Rattle.marks.proofs.marked.Goals as goal
use Rattle.marks.proofs.marked.Goals.{else-a-lt-ROUTES-via-then-a-lt-ROUTES+else-b-lt-ROUTES, else-a-lt-ROUTES-via-else-a-lt-ROUTES}

pub returns-then-b-lt-ROUTES : goal.returns-then-b-lt-ROUTES
unfolding marked
returns-then-b-lt-ROUTES c =
    simp (lt-ltb _ _ c.if-a-lt-ROUTES.true, lt-ltb _ _ c.if-b-lt-ROUTES.true) c.bit.ensures

pub returns : goal.returns
unfolding marked
returns c = elim c.else-a-lt-ROUTES.branch [
  | else-a-lt-ROUTES-via-then-a-lt-ROUTES+else-b-lt-ROUTES w ↦ simp (lt-ltb _ _ w.if-a-lt-ROUTES.true, le-ltb _ _ w.if-b-lt-ROUTES.false)
  | else-a-lt-ROUTES-via-else-a-lt-ROUTES w ↦ simp (le-ltb _ _ w.if-a-lt-ROUTES.false)
]
