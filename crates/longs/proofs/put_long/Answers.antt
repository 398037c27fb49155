-- `put_long` meets its contract: its eight bytes are copied there, or nothing is done. Assumes nothing.
use mathlib.Core.Path.{◌∙◌}
use native.Mathlib.Omega.{arith}
use borrow.Author.Tests.{le-ltb}
use Rattle.longs.specs.Longs.{put_long}
use Rattle.longs.proofs.Longs.{put-copied}
use Rattle.longs.proofs.put_long.Goals as goal

pub returns-then-k-s : goal.returns-then-k-s
returns-then-k-s c = put-copied _ _ _ _ _ c.if-k-s.true (omega arith) (c.copy_from_slice.ensures.after ∙ c.to_le_bytes.ensures)

pub returns-else-k-s : goal.returns-else-k-s
unfolding put_long
returns-else-k-s c = simp (le-ltb _ _ c.if-k-s.false)
