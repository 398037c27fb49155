-- `at` meets its contract: a cell of the table, or none past its end. Assumes nothing.
use borrow.Author.Tests.{lt-ltb, le-ltb}
use Rattle.theory.specs.Search.Tables.{cell}
use Rattle.tables.proofs.at.Goals as goal

pub returns-then-k : goal.returns-then-k
unfolding cell
returns-then-k g c = simp (lt-ltb _ _ c.if-k.true)

pub returns : goal.returns
unfolding cell
returns g c = simp (le-ltb _ _ c.if-k.false)
