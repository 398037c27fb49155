-- `name_each` meets its contract. The invariant: the cells before i hold their own numbers. Assumes nothing.
use mathlib.Core.Path.{refl}
use lib.ListN.{length-set}
use Rattle.parts.proofs.Swept.{swept_none, swept-again, swept-run}
use Rattle.std.proofs.Common.{rules}
use Rattle.parts.proofs.name_each.Goals as goal

pub loop-i-init : goal.loop-i-init
loop-i-init c = (refl, swept_none _ _)

pub loop-i-preserved : goal.loop-i-preserved
loop-i-preserved c =
    let l = c.loop-i in
    (simp length-set l.invariant.0, swept-again _ _ l.i _ _ l.invariant.1 refl)

pub returns : goal.returns
returns c =
    let l = c.loop-i in
    swept-run _ l.i _ l.invariant.1 (search rules)
