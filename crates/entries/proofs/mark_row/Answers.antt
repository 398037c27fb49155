-- `mark_row` meets its contract. The invariant: marking what is left of the row leads to the end. Assumes nothing.
use Rattle.std.proofs.lemmas.List.{length_push}
use Rattle.entries.specs.Quick.{mark_row}
use Rattle.words.proofs.Bytes.{over-next, over-none}
use Rattle.entries.proofs.mark_row.Goals as goal

pub loop-w-init : goal.loop-w-init
loop-w-init c = rw (c.into_iter-w-iterator.ensures.into_iter_gives, c.numbers_of-w-items.ensures)

pub loop-w-preserved : goal.loop-w-preserved
loop-w-preserved c = over-next _ _ _ _ _ _ _ _ _ c.in-Some.ensures.steps (length_push _ _) c.loop-w.invariant c.mark.ensures

pub returns : goal.returns
unfolding mark_row
returns c = over-none _ _ _ _ _ c.in-None.ensures.steps.0 c.loop-w.invariant
