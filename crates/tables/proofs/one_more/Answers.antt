-- `one_more` meets its contract: below the end one more, at the end the same. Assumes nothing.
use borrow.Author.Tests.{lt-ltb, le-ltb}
use Rattle.theory.specs.Search.Tables.{one_more}
use Rattle.tables.proofs.one_more.Goals as goal

pub returns-then-t-lt-GROUPS : goal.returns-then-t-lt-GROUPS
unfolding one_more
returns-then-t-lt-GROUPS c = simp (lt-ltb _ _ c.if-t-lt-GROUPS.true)

pub returns : goal.returns
unfolding one_more
returns c = simp (le-ltb _ _ c.if-t-lt-GROUPS.false)
