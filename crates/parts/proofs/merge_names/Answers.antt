-- `merge_names` meets its contract. The invariant: the cells before the next are merged. Assumes nothing.
use mathlib.Core.Path.{refl}
use lib.ListN.{length-set}
use Rattle.parts.proofs.Swept.{swept_none, swept-again, swept-map}
use Rattle.std.proofs.Common.{rules}
use Rattle.parts.proofs.merge_names.Goals as goal

pub loop-name-init : goal.loop-name-init
loop-name-init c = (refl, swept_none _ _)

pub loop-name-preserved : goal.loop-name-preserved
loop-name-preserved c =
    let l = c.loop-name in
    (simp length-set l.invariant.0, swept-again _ _ l.name-index _ _ l.invariant.1 c.merged.ensures)

pub returns : goal.returns
returns c =
    let l = c.loop-name in
    swept-map _ _ l.name-index _ l.invariant.1 (search rules)
