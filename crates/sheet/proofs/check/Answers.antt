-- `check` meets its contract: each way out is a case of the definition, in its order. Assumes nothing.
use borrow.Author.Tests.{lt-ltb, le-ltb}
use mathlib.Core.Path.{sym, ◌∙◌}
use Rattle.sheet.specs.Reply.{reply_of}
use Rattle.sheet.proofs.check.Goals as goal

pub returns-then-s-lt8 : goal.returns-then-s-lt8
unfolding reply_of
returns-then-s-lt8 c = simp (lt-ltb _ _ c.if-s-lt8.true)

pub returns-then-n-gt-ROUTES : goal.returns-then-n-gt-ROUTES
unfolding reply_of
returns-then-n-gt-ROUTES c = rw (← c.word_at-n.ensures) (simp (le-ltb _ _ c.if-s-lt8.false, lt-ltb _ _ c.if-n-gt-ROUTES.true))

pub returns-then-fits : goal.returns-then-fits
unfolding reply_of
returns-then-fits c =
    c.reply_to_rows.ensures
    ∙ rw (← c.word_at-n.ensures) (simp (le-ltb _ _ c.if-s-lt8.false, le-ltb _ _ c.if-n-gt-ROUTES.false, sym c.fits.ensures, c.if-fits.true))

pub returns : goal.returns
unfolding reply_of
returns c = rw (← c.word_at-n.ensures) (simp (le-ltb _ _ c.if-s-lt8.false, le-ltb _ _ c.if-n-gt-ROUTES.false, sym c.fits.ensures, c.if-fits.false))
