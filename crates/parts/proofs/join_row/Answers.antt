-- `join_row` meets its contract. The invariant: what is left of the row leads to the end. Assumes nothing.
use mathlib.Core.Path.{refl, ap, ◌∙◌}
use lib.ListN.{length}
use Rattle.parts.proofs.Joined.{row-begins, row-again, row_ends, link-length}
use Rattle.parts.proofs.join_row.Goals as goal

pub loop-i-init : goal.loop-i-init
loop-i-init c = (refl, row-begins _ _ _ _)

pub loop-i-preserved : goal.loop-i-preserved
loop-i-preserved c =
    let l = c.loop-i in
    let e = c.join_entry.ensures in
    (ap length e ∙ link-length _ _ _ _ ∙ l.invariant.0, row-again _ _ _ _ _ _ _ l.i c.loop-i-test.true l.invariant.1 c.word_at-w.ensures e)

pub returns : goal.returns
returns c =
    let l = c.loop-i in
    row_ends _ _ _ _ _ l.i c.loop-i-test.false l.invariant.1
