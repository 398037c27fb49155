-- `put_word` meets its contract: its four bytes are copied there, or nothing is done. Assumes nothing.
use mathlib.Core.Path.{◌∙◌}
use native.Mathlib.Omega.{arith}
use borrow.Author.Tests.{le-ltb}
use Rattle.words.specs.Words.{put_word}
use Rattle.words.proofs.Bytes.{put-copied}
use Rattle.words.proofs.put_word.Goals as goal

pub returns-then-k-s : goal.returns-then-k-s
returns-then-k-s c = put-copied _ _ _ _ _ c.if-k-s.true (omega arith) (c.copy_from_slice.ensures.after ∙ c.to_le_bytes.ensures)

pub returns-else-k-s : goal.returns-else-k-s
unfolding put_word
returns-else-k-s c = simp (le-ltb _ _ c.if-k-s.false)
