-- `fits` meets its contract: each way out is one part of the definition that fails, or the last that decides. Assumes nothing.
use borrow.Author.Tests.{le-leb, lt-leb, eq-eqb, ne_eqb}
use mathlib.Core.Path.{sym}
use Rattle.sheet.specs.Reply.{shaped}
use Rattle.sheet.proofs.fits.Goals as goal

pub returns-then-s-n : goal.returns-then-s-n
unfolding shaped
returns-then-s-n c = rw (← c.word_at-order.ensures) (simp (lt-leb _ _ c.if-s-n.true))

pub returns-then-word_at-ne0 : goal.returns-then-word_at-ne0
unfolding shaped
returns-then-word_at-ne0 c = rw (← c.word_at-order.ensures, ← c.word_at.ensures) (simp (le-leb _ _ c.if-s-n.false, ne_eqb _ _ c.if-word_at-ne0.true))

pub returns-then-starts_rise : goal.returns-then-starts_rise
unfolding shaped
returns-then-starts_rise c =
    rw (← c.word_at-order.ensures, ← c.word_at.ensures, ← c.word_at-e.ensures)
    (simp (le-leb _ _ c.if-s-n.false, eq-eqb _ _ c.if-word_at-ne0.false, sym c.starts_rise.ensures, c.if-starts_rise.true))

pub returns : goal.returns
unfolding shaped
returns c =
    rw (← c.word_at-order.ensures, ← c.word_at.ensures)
    (simp (le-leb _ _ c.if-s-n.false, eq-eqb _ _ c.if-word_at-ne0.false, sym c.starts_rise.ensures, c.if-starts_rise.false))
