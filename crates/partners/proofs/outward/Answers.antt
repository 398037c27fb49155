-- `outward` meets its contract. The invariant: the routes below i are out. Assumes nothing.
use mathlib.Core.Path.{sym}
use Rattle.theory.proofs.Search.Steps.{outward-none}
use Rattle.partners.proofs.Laws.{outward-on, outward-out}
use Rattle.partners.proofs.outward.Goals as goal

pub loop-i-init : goal.loop-i-init
loop-i-init c = sym (outward-none _ _ _)

pub loop-i-preserved : goal.loop-i-preserved
loop-i-preserved c =
    let l = c.loop-i in
    outward-on _ _ _ _ l.i _ l.invariant c.none_or-w.ensures c.put.ensures

pub returns : goal.returns
returns c =
    let l = c.loop-i in
    outward-out _ _ _ l.i _ l.invariant l.auto.i-end c.loop-i-test.false
