-- `id_refusal` meets its contract. Assumes nothing.
use borrow.Author.Tests.{lt-ltb, le-ltb}
use Rattle.checks.specs.Checks.{id_reply}
use Rattle.checks.proofs.id_refusal.Goals as goal

pub returns-then-id-ge-IDS : goal.returns-then-id-ge-IDS
unfolding id_reply
returns-then-id-ge-IDS c = simp (le-ltb _ _ c.if-id-ge-IDS.true)

pub returns : goal.returns
unfolding id_reply
returns c = simp (lt-ltb _ _ c.if-id-ge-IDS.false)
