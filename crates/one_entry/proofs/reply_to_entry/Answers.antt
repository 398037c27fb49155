-- `reply_to_entry` meets its contract: each way out is a case of the definition. Assumes nothing.
use borrow.Author.Tests.{lt-ltb, le-ltb}
use Rattle.one_entry.specs.OneEntry.{quick_entry}
use Rattle.one_entry.proofs.reply_to_entry.Goals as goal

pub returns-then-n-w : goal.returns-then-n-w
unfolding quick_entry
returns-then-n-w c = simp (le-ltb _ _ c.if-n-w.true)

pub returns-then-i-kept : goal.returns-then-i-kept
unfolding quick_entry
returns-then-i-kept c = rw (← c.kept.ensures) (simp (lt-ltb _ _ c.if-n-w.false, lt-ltb _ _ c.if-i-kept.true))

pub returns-then-marked : goal.returns-then-marked
unfolding quick_entry
returns-then-marked c = rw (← c.kept.ensures, ← c.marked.ensures) (simp (lt-ltb _ _ c.if-n-w.false, le-ltb _ _ c.if-i-kept.false, c.if-marked.true))

pub returns : goal.returns
unfolding quick_entry
returns c = rw (← c.kept.ensures, ← c.marked.ensures) (simp (lt-ltb _ _ c.if-n-w.false, le-ltb _ _ c.if-i-kept.false, c.if-marked.false))
