-- `inward` meets its contract. The invariant: the routes below i are in. Assumes nothing.
use mathlib.Core.Path.{sym}
use Rattle.theory.proofs.Search.Steps.{inward-none}
use Rattle.partners.proofs.Laws.{inward-on, inward-out}
use Rattle.partners.proofs.inward.Goals as goal

pub loop-i-init : goal.loop-i-init
loop-i-init c = sym (inward-none _ _ _ _)

pub loop-i-preserved : goal.loop-i-preserved
loop-i-preserved c =
    let l = c.loop-i in
    inward-on _ _ _ _ _ l.i _ l.invariant c.own_or-w.ensures c.put.ensures

pub returns : goal.returns
returns c =
    let l = c.loop-i in
    inward-out _ _ _ _ l.i _ l.invariant l.auto.i-end c.loop-i-test.false
