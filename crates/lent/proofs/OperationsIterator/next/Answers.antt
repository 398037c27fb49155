-- `next` meets its contract: the operation at the place, and those behind it; at the end of the list, none. Assumes nothing.
use mathlib.Core.Path.{ap}
use lib.ListN.{length}
use Rattle.limits.specs.Limits.{none}
use Rattle.std.proofs.Common.{arith}
use Rattle.lent.proofs.Left.{left-none, left-next}
use Rattle.lent.proofs.OperationsIterator.next.Goals as goal

pub returns-in_err-code-clause-steps : goal.returns-in_err-code-clause-steps
returns-in_err-code-clause-steps c = let e = left-none _ _ _ c.in_err-code.ensures.lookup.3 in rw c.from_residual.ensures (e, e)

pub returns-clause-steps : goal.returns-clause-steps
returns-clause-steps c = let l = c.in_ok-code.ensures.lookup.3 in left-next _ _ _ _ _ _ l.0 (l.1 none) c.ids_at-ids.ensures c.number_at.ensures c.end_of-self.ensures

pub returns-clause-goes : goal.returns-clause-goes
returns-clause-goes c = let e = ap length (returns-clause-steps c) in grind arith
