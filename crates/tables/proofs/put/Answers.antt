-- `put` meets its contract: the cell is set, past the end none is. Assumes nothing.
use borrow.Author.Tests.{lt-ltb, le-ltb}
use Rattle.theory.specs.Search.Tables.{store}
use Rattle.tables.proofs.put.Goals as goal

pub returns-then-k : goal.returns-then-k
unfolding store
returns-then-k g c = simp (lt-ltb _ _ c.if-k.true)

pub returns-else-k : goal.returns-else-k
unfolding store
returns-else-k g c = simp (le-ltb _ _ c.if-k.false)
