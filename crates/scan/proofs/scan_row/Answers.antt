-- `scan_row` meets its contract. The invariant: the entries that are left lead to the end. Assumes nothing.
use mathlib.Core.Path.{sym, ◌∙◌}
use Rattle.limits.specs.Limits.{routes}
use Rattle.theory.specs.Search.Look.{scan_row}
use Rattle.theory.proofs.Search.Steps.{scan-hit}
use Rattle.scan.proofs.scan_row.Goals as goal

pub loop-w-init : goal.loop-w-init
loop-w-init c = rw (c.into_iter-w-iterator.ensures.into_iter_gives, c.numbers_of-w-items.ensures)

pub loop-w-preserved : goal.loop-w-preserved
unfolding scan_row
loop-w-preserved c = rw c.look.ensures (rw c.in-Some.ensures.steps at c.loop-w.invariant)

pub returns-then-is_some : goal.returns-then-is_some
returns-then-is_some c = sym (scan-hit routes _ _ _ (sym c.if-is_some.ensures)) ∙ c.loop-w.invariant

pub returns : goal.returns
unfolding scan_row
returns c = rw c.in-None.ensures.steps.0 at c.loop-w.invariant
