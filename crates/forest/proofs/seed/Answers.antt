-- `seed` meets its contract. The invariant: the roots below k are planted. Assumes nothing.
use mathlib.Core.Path.{sym}
use Rattle.theory.proofs.Search.Steps.{seed-none}
use Rattle.forest.proofs.Laws.{seeds-on, seeds-out}
use Rattle.forest.proofs.seed.Goals as goal

pub loop-k-init : goal.loop-k-init
loop-k-init c = sym (seed-none _ _ _)

pub loop-k-preserved : goal.loop-k-preserved
loop-k-preserved c =
    let l = c.loop-k in
    seeds-on _ _ _ _ l.k l.invariant c.plant.ensures

pub returns : goal.returns
returns c =
    let l = c.loop-k in
    seeds-out _ _ _ l.k _ l.invariant l.auto.k-end c.loop-k-test.false
