-- `fill` meets its contract. The invariant: the cells below k are filled. Assumes nothing.
use mathlib.Core.Path.{sym}
use Rattle.theory.proofs.Search.Steps.{fill_none}
use Rattle.forest.proofs.Laws.{fills-on, fills-out}
use Rattle.forest.proofs.fill.Goals as goal

pub loop-k-init : goal.loop-k-init
loop-k-init g c = sym (fill_none _ _)

pub loop-k-preserved : goal.loop-k-preserved
loop-k-preserved g c =
    let l = c.loop-k in
    fills-on _ _ _ _ l.k l.invariant c.put.ensures

pub returns : goal.returns
returns g c =
    let l = c.loop-k in
    fills-out _ _ _ l.k _ l.invariant l.auto.k-end c.loop-k-test.false
