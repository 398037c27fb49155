-- `partners` meets its contract. The invariant: the first k places hold the first k numbers. Assumes nothing.
use mathlib.Core.Path.{refl}
use lib.ListN.{length-set}
use Rattle.lent.proofs.Lists.{filled_none, filled_next, filled-all}
use Rattle.std.proofs.Common.{rules}
use Rattle.lent.proofs.state.partners.Goals as goal

pub loop-k-init : goal.loop-k-init
loop-k-init c = (refl, filled_none _ _)

pub loop-k-preserved : goal.loop-k-preserved
loop-k-preserved c =
    let l = c.loop-k in
    (simp length-set l.invariant.0, filled_next _ l.k _ _ (search rules) c.word_at.ensures l.invariant.1)

pub returns : goal.returns
returns c =
    let l = c.loop-k in
    filled-all _ _ l.k _ l.invariant.0 c.loop-k-test.false l.invariant.1
