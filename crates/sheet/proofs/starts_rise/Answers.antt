-- `starts_rise` meets its contract. The invariant: no start before k is above the next. Assumes nothing.
use mathlib.Core.Path.{sym}
use borrow.Author.Tests.{le-leb, lt-leb}
use Rattle.graphs.proofs.Count.{all_none, all_past, all-fails, all_end}
use Rattle.sheet.proofs.starts_rise.Goals as goal

pub loop-k-init : goal.loop-k-init
loop-k-init c = all_none _

pub returns-then-word_at : goal.returns-then-word_at
returns-then-word_at c =
    let l = c.loop-k in
    sym (all-fails _ l.k _ c.loop-k-test.true (rw (← c.word_at.ensures, ← c.word_at-in-loop-k.ensures) (lt-leb _ _ c.if-word_at.true)))

pub loop-k-preserved : goal.loop-k-preserved
loop-k-preserved c =
    let l = c.loop-k in
    all_past _ l.k l.invariant (rw (← c.word_at.ensures, ← c.word_at-in-loop-k.ensures) (le-leb _ _ c.if-word_at.false))

pub returns : goal.returns
returns c =
    let l = c.loop-k in
    sym (all_end _ l.k _ l.auto.k-end c.loop-k-test.false l.invariant)
