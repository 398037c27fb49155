-- `word_at` meets its contract: the four bytes are there exactly where k is below a quarter of the length. Assumes nothing.
use native.Mathlib.Omega.{arith}
use borrow.Author.Tests.{lt-ltb, le-ltb}
use Rattle.words.specs.Words.{word}
use Rattle.words.proofs.word_at.Goals as goal

pub returns-then-k-s : goal.returns-then-k-s
unfolding word
returns-then-k-s c = simp (lt-ltb _ _ c.if-k-s.true) (omega (arith, c.from_le_bytes.ensures))

pub returns : goal.returns
unfolding word
returns c = simp (le-ltb _ _ c.if-k-s.false)
